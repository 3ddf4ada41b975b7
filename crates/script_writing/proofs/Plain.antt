-- Records of constraints and of platforms have no float, and aren't deep.
use Rattle.std.proofs.Common.{◌≡◌, ◌≤◌, ℕ, suc, max, Bool, true, false, List, [], ◌∷◌, ◌++◌, map, codes, Option, Some, None, Ordering, Less, Equal, Greater, refl, arith}
use Rattle.std.specs.Prelude.{◌||◌, IfSome, if◌then◌else◌}
use Rattle.std.specs.List.{AllByRecursion}
use Rattle.std.specs.Ordering.{nat_cmp, match_ordering}
use Rattle.std.specs.Cmp.Lexicographic.{slice_cmp}
use Rattle.serde_json.specs.Data.{Data, boolean, string, array, object, Items, no_items, item, Members, no_members, member, put, depth, items_depth, members_depth}
use Rattle.serde_json.specs.View.{items_of}
use Rattle.serde_json.specs.Written.{has_float, items_have_float, members_have_float}
use Rattle.sysmem_counts.specs.declared.field.Field.{Field}
use Rattle.sysmem_counts.specs.declared.field.Field.TheVariants as field
use Rattle.sysmem_counts.specs.Field.{field_name}
use Rattle.sysmem_formats.specs.declared.colour_space.ColourSpace.{ColourSpace}
use Rattle.sysmem_formats.specs.declared.offer.Pair.{Pair}
use Rattle.sysmem_formats.specs.declared.modifier.Modifier.{Modifier}
use Rattle.sysmem_formats.specs.declared.pixel_format.PixelFormat.{PixelFormat}
use Rattle.sysmem_formats.specs.Names.{format_name, modifier_name}
use Rattle.sysmem_image.specs.declared.bounds.ImageBounds.{ImageBounds}
use Rattle.sysmem_image.specs.declared.entry.Entry.{Entry}
use Rattle.sysmem_image.specs.declared.size.Size.{Size}
use Rattle.sysmem_image.specs.Fields.{Bound, all_bounds, field_of, is_size, value, sides_of, Width, absent}
use Rattle.sysmem_memory.specs.Heap.{HeapName, HeapFacts}
use Rattle.sysmem_memory.specs.Wishes.{MemoryWishes}
use Rattle.negotiation_inputs.specs.Participant.{Participant}
use Rattle.negotiation_inputs.specs.Platform.{PlatformFacts}
use Rattle.record_laws.specs.Records.{choice, colour_record, list, natural, size_record}
use Rattle.record_laws.specs.Sparse.{unless, with_field, with_fields, fields_said, number_said, true_said, false_said, size_said, list_said, object_said, with_name, with_names, names_said, families_in, domains_in, colours_in, name_said, permitted_written, heap_said, heap_written, is_usual, formats_said, pair_written, platform_said, platform_written, memory_said, bound_said, bounds_said, entry_said, entry_written, counts_said, participant_said, participant_written}
use Rattle.script_writing.specs.Script.{IsPlain}

-- without a float, and no deeper than n
record Shallow (n : ℕ) (d : Data) : Type 0 where
  whole : has_float d ≡ false
  deep : depth d ≤ n

record ItemsShallow (n : ℕ) (ds : Items) : Type 0 where
  whole : items_have_float ds ≡ false
  deep : items_depth ds ≤ n

record MembersShallow (n : ℕ) (ms : Members) : Type 0 where
  whole : members_have_float ms ≡ false
  deep : members_depth ms ≤ n

either : (a b : Bool) → a ≡ false → b ≡ false → (a || b) ≡ false
either a b e f = rw e f

or_false : (a b : Bool) → (a || b) ≡ false → (a ≡ false) × (b ≡ false)
or_false true b e = absurd (cc e)
or_false false b e = (refl, e)

is_boolean : (n : ℕ) (b : Bool) → Shallow n (boolean b)
is_boolean n b = record { whole = refl; deep = omega arith }

is_string : (n : ℕ) (s : List ℕ) → Shallow n (string s)
is_string n s = record { whole = refl; deep = omega arith }

is_natural : (n m : ℕ) → Shallow n (natural m)
is_natural n m = record { whole = refl; deep = omega arith }

no_member : (n : ℕ) → MembersShallow n no_members
no_member n = record { whole = refl; deep = omega arith }

one_member : (n : ℕ) (k : List ℕ) (d : Data) (ms : Members) → Shallow n d → MembersShallow n ms → MembersShallow n (member k d ms)
one_member n k d ms a b =
    let both : max (depth d) (members_depth ms) ≤ n = omega (arith, a.deep, b.deep) in
    record { whole = either (has_float d) (members_have_float ms) a.whole b.whole; deep = both }

head_of : (n : ℕ) (k : List ℕ) (d : Data) (ms : Members) → MembersShallow n (member k d ms) → Shallow n d × MembersShallow n ms
head_of n k d ms h =
    let floats = or_false (has_float d) (members_have_float ms) h.whole in
    let both : max (depth d) (members_depth ms) ≤ n = h.deep in
    (record { whole = floats.0; deep = omega (arith, both) }, record { whole = floats.1; deep = omega (arith, both) })

put_shallow : (n : ℕ) (k : List ℕ) (d : Data) (ms : Members) → Shallow n d → MembersShallow n ms → MembersShallow n (put k d ms)
put_shallow n k d no_members a b = one_member n k d no_members a b
put_shallow n k d (member l e ms) a b = by (slice_cmp nat_cmp k l) (head_of n l e ms b) (put_shallow n k d ms a (head_of n l e ms b).1) where
  by : (o : Ordering) → Shallow n e × MembersShallow n ms → MembersShallow n (put k d ms) → MembersShallow n (match_ordering o (member k d (member l e ms)) (member l d ms) (member l e (put k d ms)))
  by Less both rest = one_member n k d (member l e ms) a b
  by Equal both rest = one_member n l d ms a both.1
  by Greater both rest = one_member n l e (put k d ms) both.0 rest

is_object : (n : ℕ) (ms : Members) → MembersShallow n ms → Shallow (suc n) (object ms)
is_object n ms h =
    let deep : suc (members_depth ms) ≤ suc n = omega (arith, h.deep) in
    record { whole = h.whole; deep = deep }

is_array : (n : ℕ) (ds : Items) → ItemsShallow n ds → Shallow (suc n) (array ds)
is_array n ds h =
    let deep : suc (items_depth ds) ≤ suc n = omega (arith, h.deep) in
    record { whole = h.whole; deep = deep }

-- ---- fields that have a value or not

abbrev AreSaid : ℕ → List (Field × Option Data) → Type 0
AreSaid n fs = AllByRecursion (λ f. IfSome f.1 (Shallow n)) fs

field_shallow : (n : ℕ) (ms : Members) (f : Field) (o : Option Data) → MembersShallow n ms → IfSome o (Shallow n) → MembersShallow n (with_field ms f o)
unfolding with_field
field_shallow n ms f None h said = h
field_shallow n ms f (Some d) h said = put_shallow n (field_name f) d ms said h

fields_shallow : (n : ℕ) (ms : Members) (fs : List (Field × Option Data)) → MembersShallow n ms → AreSaid n fs → MembersShallow n (with_fields ms fs)
fields_shallow n ms [] h said = h
fields_shallow n ms (f ∷ fs) h said = fields_shallow n (with_field ms f.0 f.1) fs (field_shallow n ms f.0 f.1 h said.0) said.1

is_fields : (n : ℕ) (fs : List (Field × Option Data)) → AreSaid n fs → Shallow (suc n) (fields_said fs)
is_fields n fs said = is_object n (with_fields no_members fs) (fields_shallow n no_members fs (no_member n) said)

both_said : (n : ℕ) (fs gs : List (Field × Option Data)) → AreSaid n fs → AreSaid n gs → AreSaid n (fs ++ gs)
both_said n [] gs a b = b
both_said n (f ∷ fs) gs a b = (a.0, both_said n fs gs a.1 b)

unless_shallow : (n : ℕ) (b : Bool) (d : Data) → Shallow n d → IfSome (unless b d) (Shallow n)
unless_shallow n true d h = tt
unless_shallow n false d h = h

number_shallow : (n absent m : ℕ) → IfSome (number_said absent m) (Shallow n)
number_shallow n absent m = unless_shallow n _ (natural m) (is_natural n m)

true_shallow : (n : ℕ) (b : Bool) → IfSome (true_said b) (Shallow n)
true_shallow n true = is_boolean n true
true_shallow n false = tt

false_shallow : (n : ℕ) (b : Bool) → IfSome (false_said b) (Shallow n)
false_shallow n true = tt
false_shallow n false = is_boolean n false

object_shallow : (n : ℕ) (ms : Members) → MembersShallow n ms → IfSome (object_said ms) (Shallow (suc n))
object_shallow n no_members h = tt
object_shallow n (member k d ms) h = is_object n (member k d ms) h

listed_shallow : (n : ℕ) (ds : Items) → ItemsShallow n ds → IfSome (list_said ds) (Shallow (suc n))
listed_shallow n no_items h = tt
listed_shallow n (item d ds) h = is_array n (item d ds) h

-- ---- lists

one_item : (n : ℕ) (d : Data) (ds : Items) → Shallow n d → ItemsShallow n ds → ItemsShallow n (item d ds)
one_item n d ds a b =
    let both : max (depth d) (items_depth ds) ≤ n = omega (arith, a.deep, b.deep) in
    record { whole = either (has_float d) (items_have_float ds) a.whole b.whole; deep = both }

items_shallow : {A : Type 0} (n : ℕ) (told : A → Data) → ((x : A) → Shallow n (told x)) → (xs : List A) → ItemsShallow n (items_of (map told xs))
items_shallow n told each [] = record { whole = refl; deep = omega arith }
items_shallow n told each (x ∷ xs) = one_item n (told x) (items_of (map told xs)) (each x) (items_shallow n told each xs)

is_list : {A : Type 0} (n : ℕ) (told : A → Data) → ((x : A) → Shallow n (told x)) → (xs : List A) → Shallow (suc n) (list told xs)
is_list n told each xs = is_array n (items_of (map told xs)) (items_shallow n told each xs)

these_shallow : (n : ℕ) (ds : List Data) → AllByRecursion (Shallow n) ds → ItemsShallow n (items_of ds)
these_shallow n [] all = record { whole = refl; deep = omega arith }
these_shallow n (d ∷ ds) all = one_item n d (items_of ds) all.0 (these_shallow n ds all.1)

more_shallow : (n : ℕ) (ds : List Data) (d : Data) → AllByRecursion (Shallow n) ds → Shallow n d → AllByRecursion (Shallow n) (ds ++ d ∷ [])
more_shallow n [] d all one = (one, tt)
more_shallow n (e ∷ ds) d all one = (all.0, more_shallow n ds d all.1 one)

name_shallow : (n : ℕ) (ds : List Data) (b : Bool) (name : List ℕ) → AllByRecursion (Shallow n) ds → AllByRecursion (Shallow n) (with_name ds b name)
unfolding with_name
name_shallow n ds true name all = more_shallow n ds (string name) all (is_string n name)
name_shallow n ds false name all = all

names_shallow : (n : ℕ) (ds : List Data) (ns : List (Bool × List ℕ)) → AllByRecursion (Shallow n) ds → AllByRecursion (Shallow n) (with_names ds ns)
names_shallow n ds [] all = all
names_shallow n ds (m ∷ ns) all = names_shallow n (with_name ds m.0 m.1) ns (name_shallow n ds m.0 m.1 all)

is_names : (n : ℕ) (ns : List (Bool × List ℕ)) → Shallow (suc n) (names_said ns)
is_names n ns = is_array n (items_of (with_names [] ns)) (these_shallow n (with_names [] ns) (names_shallow n [] ns tt))

-- ---- records

size_shallow : (n : ℕ) (s : Size) → Shallow (suc n) (size_record s)
size_shallow n s =
    let inner = put_shallow n (codes "height") (natural s.height) no_members (is_natural n s.height) (no_member n) in
    is_object n (put (codes "width") (natural s.width) (put (codes "height") (natural s.height) no_members))
    (put_shallow n (codes "width") (natural s.width) (put (codes "height") (natural s.height) no_members) (is_natural n s.width) inner)

bound_shallow : (n : ℕ) (b : ImageBounds) (f : Bound) → IfSome (bound_said b f) (Shallow (suc n))
bound_shallow n b f = by (is_size f) where
  by : (t : Bool) → IfSome (if t then size_said (absent f) (sides_of b f) else number_said (absent f) (value f Width b)) (Shallow (suc n))
  by true = unless_shallow (suc n) _ (size_record (sides_of b f)) (size_shallow n (sides_of b f))
  by false = number_shallow (suc n) (absent f) (value f Width b)

bounds_shallow : (n : ℕ) (b : ImageBounds) (fs : List Bound) → AreSaid (suc n) (map (λ f. (field_of f, bound_said b f)) fs)
bounds_shallow n b [] = tt
bounds_shallow n b (f ∷ fs) = (bound_shallow n b f, bounds_shallow n b fs)

choice_shallow : {X : Type 0} (n : ℕ) (name_of : X → List ℕ) (o : Option X) → Shallow n (choice name_of o)
choice_shallow n name_of None = is_string n _
choice_shallow n name_of (Some x) = is_string n (name_of x)

formats_shallow : (n : ℕ) (format : Option PixelFormat) (modifier : Option Modifier) → AreSaid n (formats_said format modifier)
formats_shallow n format modifier = (choice_shallow n format_name format, (unless_shallow n (is_usual format modifier) (choice modifier_name modifier) (choice_shallow n modifier_name modifier), tt))

entry_shallow : (e : Entry) → Shallow 3 (entry_written e)
entry_shallow e =
    let last : AreSaid 2 ((field.RequireBytesPerRowAtPixelBoundary, true_said e.bounds.at_pixel_boundary) ∷ []) = (true_shallow 2 e.bounds.at_pixel_boundary, tt) in
    let bounds : AreSaid 2 (bounds_said e.bounds) = both_said 2 (map (λ f. (field_of f, bound_said e.bounds.asked f)) all_bounds) ((field.RequireBytesPerRowAtPixelBoundary, true_said e.bounds.at_pixel_boundary) ∷ []) (bounds_shallow 1 e.bounds.asked all_bounds) last in
    let rest : AreSaid 2 ((field.ColorSpaces, Some (names_said (colours_in e.colours))) ∷ bounds_said e.bounds) = (is_names 1 (colours_in e.colours), bounds) in
    is_fields 2 (entry_said e) (both_said 2 (formats_said e.format e.modifier) ((field.ColorSpaces, Some (names_said (colours_in e.colours))) ∷ bounds_said e.bounds) (formats_shallow 2 e.format e.modifier) rest)

heap_name_shallow : (n : ℕ) (h : HeapName) → AreSaid n (name_said h)
heap_name_shallow n h = (is_string n h.heap_type, (number_shallow n 0 h.id, tt))

memory_shallow : (w : MemoryWishes) → AreSaid 2 (memory_said w)
memory_shallow w = (
  number_shallow 2 _ w.min_size_bytes,
  (
    number_shallow 2 _ w.max_size_bytes,
    (
      true_shallow 2 w.physically_contiguous_required,
      (
        true_shallow 2 w.secure_required,
        (
          false_shallow 2 w.cpu_domain_supported,
          (
            true_shallow 2 w.ram_domain_supported,
            (
              true_shallow 2 w.inaccessible_domain_supported,
              (
                listed_shallow 1 (items_of (map permitted_written w.permitted_heaps)) (items_shallow 1 permitted_written (λ h. is_fields 0 (name_said h) (heap_name_shallow 0 h)) w.permitted_heaps),
                tt,
              ),
            ),
          ),
        ),
      ),
    ),
  ),
)

counts_shallow : (n : ℕ) (p : Participant) → AreSaid n (counts_said p.counts)
counts_shallow n p = (number_shallow n _ _, (number_shallow n _ _, (number_shallow n _ _, (number_shallow n _ _, (number_shallow n _ _, tt)))))

deeper : (ms : Members) → MembersShallow 2 ms → MembersShallow 3 ms
deeper ms h = record { whole = h.whole; deep = omega (arith, h.deep) }

participant_shallow : (p : Participant) → Shallow 5 (participant_written p)
participant_shallow p =
    let memory : MembersShallow 3 (with_fields no_members (memory_said p.memory)) = deeper (with_fields no_members (memory_said p.memory)) (fields_shallow 2 no_members (memory_said p.memory) (no_member 2) (memory_shallow p.memory)) in
    let rest : AreSaid 4 ((field.BufferMemoryConstraints, object_said (with_fields no_members (memory_said p.memory))) ∷ (field.ImageFormatConstraints, list_said (items_of (map entry_written p.entries))) ∷ []) =
    (object_shallow 3 (with_fields no_members (memory_said p.memory)) memory, (listed_shallow 3 (items_of (map entry_written p.entries)) (items_shallow 3 entry_written entry_shallow p.entries), tt)) in
    is_fields 4 (participant_said p) (is_names 3 (families_in p.usage), both_said 4 (counts_said p.counts) ((field.BufferMemoryConstraints, object_said (with_fields no_members (memory_said p.memory))) ∷ (field.ImageFormatConstraints, list_said (items_of (map entry_written p.entries))) ∷ []) (counts_shallow 4 p) rest)

heap_shallow : (h : HeapFacts) → Shallow 3 (heap_written h)
heap_shallow h =
    let rest : AreSaid 2 ((field.Contiguous, true_said h.contiguous) ∷ (field.Secure, true_said h.secure) ∷ (field.Domains, Some (names_said (domains_in h.domains))) ∷ []) =
    (true_shallow 2 h.contiguous, (true_shallow 2 h.secure, (is_names 1 (domains_in h.domains), tt))) in
    is_fields 2 (heap_said h) (both_said 2 (name_said h.heap) ((field.Contiguous, true_said h.contiguous) ∷ (field.Secure, true_said h.secure) ∷ (field.Domains, Some (names_said (domains_in h.domains))) ∷ []) (heap_name_shallow 2 h.heap) rest)

pair_shallow : (p : Pair) → Shallow 3 (pair_written p)
pair_shallow p = is_fields 2 (formats_said (Some p.format) (Some p.modifier)) (formats_shallow 2 (Some p.format) (Some p.modifier))

colour_shallow : (c : ColourSpace) → Shallow 3 (colour_record c)
colour_shallow c = is_string 3 _

platform_shallow : (p : PlatformFacts) → Shallow 5 (platform_written p)
platform_shallow p = is_fields 4 (platform_said p) (is_list 3 heap_written heap_shallow p.heaps, (is_list 3 pair_written pair_shallow p.pairs, (is_list 3 colour_record colour_shallow p.colours, tt)))

pub plain_participant : (p : Participant) → IsPlain (participant_written p)
plain_participant p = let h = participant_shallow p in record { whole = h.whole; shallow = omega (arith, h.deep) }

pub plain_platform : (p : PlatformFacts) → IsPlain (platform_written p)
plain_platform p = let h = platform_shallow p in record { whole = h.whole; shallow = omega (arith, h.deep) }
