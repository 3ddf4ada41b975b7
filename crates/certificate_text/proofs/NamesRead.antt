-- Names, paths and types of heaps are text.
use Rattle.std.proofs.Common.{◌≡◌, ℕ, ◌^◌, ◌<◌, ◌≤◌, ◌&&◌, ◌||◌, ◌++◌, Bool, true, false, cond, List, [], ◌∷◌, Some, IsUtf8, nat_eq, nat_le, ◌==◌, codes, decimal, refl, ap₂, subst, arith, lt-ltb, eqb-true, leb-true}
use Rattle.std.specs.List.{list_all}
use Rattle.std.proofs.lemmas.Bool.{and_from, and_parts, or_parts, not-true, eqb-false, ltb-false}
use Rattle.std.proofs.lemmas.Fmt.{IsAscii-decimal}
use Rattle.std.proofs.lemmas.Option.{same_Some, none-some}
use Rattle.std.proofs.lemmas.Str.{IsUtf8-append, IsUtf8-from_ascii}
use Rattle.json.specs.Print.{escape, escape_byte}
use Rattle.json.specs.Run.{is_plain, is_stop}
use Rattle.json.proofs.Printed.Strings.{escape_byte_plain}
use Rattle.json.proofs.Printed.Utf8.{are_ascii, IsUtf8-are_ascii}
use Rattle.sysmem_counts.specs.declared.field.Field.{Field}
use Rattle.sysmem_counts.specs.declared.field.TheConstants.Field.{ALL as all_fields}
use Rattle.sysmem_counts.specs.Field.{field_name}
use Rattle.sysmem_formats.specs.declared.colour_space.ColourSpace.{ColourSpace}
use Rattle.sysmem_formats.specs.declared.colour_space.TheConstants.ColourSpace.{ALL as colours}
use Rattle.sysmem_formats.specs.declared.modifier.Modifier.{Modifier}
use Rattle.sysmem_formats.specs.declared.modifier.TheConstants.Modifier.{ALL as modifiers}
use Rattle.sysmem_formats.specs.declared.pixel_format.PixelFormat.{PixelFormat}
use Rattle.sysmem_formats.specs.declared.pixel_format.TheConstants.PixelFormat.{ALL as formats}
use Rattle.sysmem_formats.specs.Names.{format_name, modifier_name, colour_name}
use Rattle.sysmem_memory.specs.declared.domain.CoherencyDomain.{CoherencyDomain}
use Rattle.sysmem_memory.specs.declared.domain.TheConstants.CoherencyDomain.{ALL as domains}
use Rattle.sysmem_memory.specs.Domain.{domain_name}
use Rattle.sysmem_memory.specs.Heap.{HeapFacts}
use Rattle.negotiation_inputs.specs.Platform.{IsHeap}
use Rattle.negotiation_inputs.specs.Heaps.{is_heap_byte}
use Rattle.record_reading.specs.Reading.Names.{find_named, format_named, modifier_named, colour_named, domain_named}
use Rattle.certificate_text.specs.CanBeRead.{HasSteps}
use Rattle.certificate_text.specs.Fields.{field_named}
use Rattle.certificate_text.specs.Paths.{steps_text, path_text}
use Rattle.sysmem_sanitise.proofs.CallerLemmas.{own_format_name, own_modifier_name, own_colour_name, own_domain_name}
use Rattle.certificate_text.proofs.Names.{own_name}

-- what is found of a list has what all of it have
found_has : {X : Type 0} (p : X → Bool) (name_of : X → List ℕ) (xs : List X) (name : List ℕ) (x : X) → find_named name_of xs name ≡ Some x → list_all p xs ≡ true → p x ≡ true
found_has p name_of [] name x is all = absurd (none-some x is)
found_has {X} p name_of (y ∷ xs) name x is all = by _ is (found_has p name_of xs name x) where
  by : (t : Bool) → cond t (Some y) (find_named name_of xs name) ≡ Some x → (find_named name_of xs name ≡ Some x → list_all p xs ≡ true → p x ≡ true) → p x ≡ true
  by true here rest = subst (λ (z : X). p z ≡ true) (same_Some y x here) (and_parts (p y) (list_all p xs) all).0
  by false here rest = rest here (and_parts (p y) (list_all p xs) all).1

pub field_utf8 : (f : Field) → IsUtf8 (field_name f)
unfolding field_named
field_utf8 f = IsUtf8-are_ascii (field_name f) (found_has (λ x. are_ascii (field_name x)) field_name all_fields (field_name f) f (own_name f) refl)

byte_plain : (c : ℕ) → is_plain c ≡ true → escape_byte c ≡ c ∷ []
byte_plain c h =
    let none = or_parts _ _ (not-true (is_stop c) h) in
    let tests = or_parts (c == 34) _ none.0 in
    escape_byte_plain c (eqb-false c 34 tests.0) (eqb-false c 92 tests.1) (ltb-false c 32 none.1)

bytes_plain : (text : List ℕ) → list_all is_plain text ≡ true → escape text ≡ text
bytes_plain [] h = refl
bytes_plain (c ∷ text) h = let parts = and_parts (is_plain c) (list_all is_plain text) h in ap₂ (λ s t. s ++ t) (byte_plain c parts.0) (bytes_plain text parts.1)

-- and need no escape
pub field_plain : (f : Field) → escape (field_name f) ≡ field_name f
unfolding field_named
field_plain f = bytes_plain (field_name f) (found_has (λ x. list_all is_plain (field_name x)) field_name all_fields (field_name f) f (own_name f) refl)

pub format_utf8 : (x : PixelFormat) → IsUtf8 (format_name x)
unfolding format_named
format_utf8 x = IsUtf8-are_ascii (format_name x) (found_has (λ y. are_ascii (format_name y)) format_name formats (format_name x) x (own_format_name x) refl)

pub modifier_utf8 : (x : Modifier) → IsUtf8 (modifier_name x)
unfolding modifier_named
modifier_utf8 x = IsUtf8-are_ascii (modifier_name x) (found_has (λ y. are_ascii (modifier_name y)) modifier_name modifiers (modifier_name x) x (own_modifier_name x) refl)

pub colour_utf8 : (x : ColourSpace) → IsUtf8 (colour_name x)
unfolding colour_named
colour_utf8 x = IsUtf8-are_ascii (colour_name x) (found_has (λ y. are_ascii (colour_name y)) colour_name colours (colour_name x) x (own_colour_name x) refl)

pub domain_utf8 : (x : CoherencyDomain) → IsUtf8 (domain_name x)
unfolding domain_named
domain_utf8 x = IsUtf8-are_ascii (domain_name x) (found_has (λ y. are_ascii (domain_name y)) domain_name domains (domain_name x) x (own_domain_name x) refl)

-- ---- paths

steps_utf8 : (path : List ℕ) → HasSteps path → IsUtf8 (steps_text path)
steps_utf8 [] steps = IsUtf8-are_ascii [] refl
steps_utf8 (ordinal ∷ path) steps =
    let fits : ordinal < 2 ^ 64 = omega (arith, steps.0) in
    IsUtf8-append (codes "/" ++ decimal ordinal) (steps_text path)
    (IsUtf8-append (codes "/") (decimal ordinal) (IsUtf8-are_ascii (codes "/") refl) (IsUtf8-from_ascii (decimal ordinal) (IsAscii-decimal ordinal fits)))
    (steps_utf8 path steps.1)

pub path_utf8 : (path : List ℕ) → HasSteps path → IsUtf8 (path_text path)
path_utf8 [] steps = IsUtf8-are_ascii (codes "/") refl
path_utf8 (ordinal ∷ path) steps = steps_utf8 (ordinal ∷ path) steps

-- ---- types of heaps

either : (P : Type 0) (a b : Bool) → (a || b) ≡ true → (a ≡ true → P) → (b ≡ true → P) → P
either P true b h f g = f refl
either P false b h f g = g h

up_to : (low high n : ℕ) → (nat_le low n && nat_le n high) ≡ true → n ≤ high
up_to low high n h = leb-true n high (and_parts (nat_le low n) (nat_le n high) h).1

-- from one byte to another, and a letter
abbrev is_from : ℕ → ℕ → ℕ → Bool
is_from low high n = nat_le low n && nat_le n high

abbrev is_letter : ℕ → Bool
is_letter n = is_from 97 122 n || is_from 65 90 n

heap_byte : (n : ℕ) → is_heap_byte n ≡ true → n < 128
heap_byte n h = either (n < 128) (((is_letter n || is_from 48 57 n) || nat_eq n 46) || nat_eq n 95) (nat_eq n 45) h
    (λ a. either (n < 128) ((is_letter n || is_from 48 57 n) || nat_eq n 46) (nat_eq n 95) a
    (λ b. either (n < 128) (is_letter n || is_from 48 57 n) (nat_eq n 46) b
    (λ c. either (n < 128) (is_letter n) (is_from 48 57 n) c
    (λ d. either (n < 128) (is_from 97 122 n) (is_from 65 90 n) d (λ e. omega (arith, up_to 97 122 n e)) (λ e. omega (arith, up_to 65 90 n e)))
    (λ e. omega (arith, up_to 48 57 n e)))
    (λ e. omega (arith, eqb-true n 46 e)))
    (λ e. omega (arith, eqb-true n 95 e)))
    (λ e. omega (arith, eqb-true n 45 e))

heap_bytes : (text : List ℕ) → list_all is_heap_byte text ≡ true → are_ascii text ≡ true
heap_bytes [] h = refl
heap_bytes (c ∷ text) h =
    let parts = and_parts (is_heap_byte c) (list_all is_heap_byte text) h in
    and_from _ _ (lt-ltb c 128 (heap_byte c parts.0)) (heap_bytes text parts.1)

pub heap_utf8 : (h : HeapFacts) → IsHeap h → IsUtf8 h.heap.heap_type
heap_utf8 h is = IsUtf8-are_ascii h.heap.heap_type (heap_bytes h.heap.heap_type (and_parts _ _ is.0).1)
