-- What a participant's record states is what a participant may ask.
use Rattle.std.proofs.Common.{nat_le, ◌≡◌, ◌≢◌, ℕ, zero, suc, ◌^◌, ◌-◌, ◌<◌, ◌≤◌, ◌+◌, Bool, true, false, not, ◌||◌, ◌&&◌, List, [], ◌∷◌, ◌++◌, length, get_or, Option, Some, None, Ok, refl, sym, ap, ◌∙◌, subst, arith, rules, tests, length-append, append_assoc, append-nil}
use Rattle.std.specs.Prelude.{All, AllPairs, map, max, nat_lt, cond}
use Rattle.std.specs.List.{list_any}
use Rattle.std.specs.Int.RustNames.{bit_and}
use Rattle.std.proofs.lemmas.List.{get_or-map, length-map, map-append}
use Rattle.std.proofs.lemmas.List.Elements.{All-push, All-append, All-map}
use Rattle.std.proofs.lemmas.List.Folds.{list_any-append}
use Rattle.std.proofs.lemmas.List.Quantifiers.{all_pairs_push}
use Rattle.std.proofs.lemmas.Nat.{or_lt}
use Rattle.std.proofs.lemmas.Option.{same_Some}
use Rattle.bitflags.specs.Sets.{find_row}
use Rattle.serde_json.specs.Data.{Data, Items, no_items, item}
use Rattle.sysmem_counts.specs.declared.field.Field.{Field}
use Rattle.sysmem_counts.specs.declared.field.Field.TheVariants as field
use Rattle.record_reading.specs.declared.fault.Code.TheVariants as code
use Rattle.sysmem_counts.specs.declared.usage.Usage.{Usage}
use Rattle.sysmem_counts.specs.Families.{family_named}
use Rattle.sysmem_counts.specs.Usage.{usage_bits}
use Rattle.sysmem_formats.specs.declared.colour_space.ColourSpace.{ColourSpace}
use Rattle.sysmem_formats.specs.declared.colour_space.ColourSpace.TheVariants.{Srgb, Rec601Ntsc, Rec601NtscFullRange, Rec601Pal, Rec601PalFullRange, Rec709, Rec2020, Rec2100}
use Rattle.sysmem_formats.specs.declared.modifier.Modifier.{Modifier}
use Rattle.sysmem_formats.specs.declared.offer.Pair.{Pair}
use Rattle.sysmem_formats.specs.declared.pixel_format.PixelFormat.{PixelFormat}
use Rattle.sysmem_formats.specs.Layout.{IsTiledMisfit, pixel_bytes}
use Rattle.sysmem_counts.specs.Bounds.{most_number}
use Rattle.sysmem_image.specs.declared.entry.EntryBounds.{EntryBounds}
use Rattle.sysmem_image.specs.declared.colours.ColourSet.{ColourSet}
use Rattle.sysmem_image.specs.declared.entry.Entry.{Entry}
use Rattle.sysmem_image.specs.declared.size.Size.{Size}
use Rattle.sysmem_image.specs.Colours.{no_colours, with_colour}
use Rattle.sysmem_memory.specs.Heap.{HeapName, same_heap}
use Rattle.sysmem_memory.specs.Wishes.{MemoryWishes, no_wishes}
use Rattle.negotiation_inputs.specs.declared.asked.AskedPair.{AskedPair}
use Rattle.record_reading.specs.declared.fault.FaultPlace.TheVariants.{At}
use Rattle.negotiation_inputs.specs.Participant.{IsUsage, HasSidesUpTo, IsEntry, AreApart}
use Rattle.sysmem_image.specs.Fields.{Bound, all_bounds, field_of, absent, range_of, value_among, MinSize, SizeAlignment, StartOffsetDivisor, DisplayRectAlignment, RequiredMinSize, MaxWidthTimesHeight}
use Rattle.sysmem_image.specs.Size.{most_multiple, square, some_sides}
use Rattle.record_reading.specs.Reading.Bounds.{is_multiple, multiple, multiple_size, any_size, some_size, size_to, size_or, bound_or, large_number, number_in, number_stated, stated_in, stated_each, stated_bounds, bounds_by, bounds_of}
use Rattle.record_reading.specs.Reading.Constraints.{no_usage, with_family, is_usage, usage_of, memory_fields, memory_of}
use Rattle.record_reading.specs.Reading.Entries.{same_format, same_modifier, same_asked, asks_misfit, asked_of, pair_asked, has_further, modifier_beside, is_asked_already, has_asked, with_asked, no_pair, own_pair, with_further, further_of, asked_pairs, with_colour_or_any, with_listed, colour_set_of, entry_object, entry_with, with_entry, entries_of}
use Rattle.record_reading.specs.Reading.Fields.{◌>>=◌, passing, list_of, named, number_up_to, number_or, flag_or, optional, stated, text_of, object_of, has_items, read_each}
use Rattle.record_reading.specs.Reading.Heaps.{IsHeapName, permitted_heap, has_permitted, with_permitted, permitted_of}
use Rattle.negotiation_inputs.proofs.CallerLemmas.{none_passes, usage-by}
use Rattle.record_reading.proofs.Heaps.{heap_name_of-is}
use Rattle.record_reading.proofs.Platforms.{fitting}
use Rattle.record_reading.proofs.Steps.{bind-ok, bind-then, ok-same, passing-ok, not-true, and-true, each-keeps, optional-keeps, below}

-- a family's bit is one of five
family-few : (name : List ℕ) (bits : ℕ) → family_named name ≡ Some bits → bits < 2 ^ 5
unfolding find_row
family-few name bits found = search (rules, tests)

with_family-keeps : (before after : Usage) (d : Data) → usage_bits before < 2 ^ 5 → with_family before d ≡ Ok after → usage_bits after < 2 ^ 5
with_family-keeps before after d few gives =
    let (family, read, made) = bind-ok (named family_named _ d) _ after gives in
    let (name, text, found) = bind-ok (text_of _ d) _ family read in
    subst (λ u. usage_bits u < 2 ^ 5) (ok-same _ after made) (or_lt 5 (usage_bits before) family few (family-few name family (search (rules, tests))))

pub usage_of-is : (d : Data) (u : Usage) → usage_of d ≡ Ok u → IsUsage u
usage_of-is d u gives =
    let (items, with_colour_or_any, after) = bind-ok (list_of _ d) _ u gives in
    let (v, each, tested) = bind-ok (read_each with_family no_usage items) _ u after in
    let passed = passing-ok _ is_usage v u tested in
    let is = usage-by (usage_bits u) (bit_and (usage_bits u) 1) passed.holds in
    record {
      families = subst (λ u. usage_bits u < 2 ^ 5) passed.same (each-keeps with_family (λ u. usage_bits u < 2 ^ 5) with_family-keeps items no_usage v (omega arith) each);
      some = is.0;
      none_alone = is.1;
    }

-- the permitted heaps of a record
pub record ArePermitted (heaps : List HeapName) : Type 0 where
  pub few : length heaps ≤ 64
  pub distinct : AllPairs (λ a b. same_heap a b ≡ false) heaps
  pub each : All IsHeapName heaps

no_heaps-are : ArePermitted []
no_heaps-are = record { few = omega arith; distinct = λ i j e before within. absurd (omega arith); each = λ k e within. absurd (omega arith) }

with_permitted-keeps : (hs ts : List HeapName) (d : Data) → ArePermitted hs → with_permitted None hs d ≡ Ok ts → ArePermitted ts
with_permitted-keeps hs ts d kept gives =
    let (heap, read, after) = bind-ok (permitted_heap None d) _ ts gives in
    let (roomy, room, after2) = bind-ok (passing _ (λ _. nat_lt (length hs) 64) heap) _ ts after in
    let (new, passes, made) = bind-ok (passing _ (λ heap. not (has_permitted hs heap)) roomy) _ ts after2 in
    let (object, is, name) = bind-ok (object_of _ _ d) _ heap read in
    let roomed = passing-ok _ (λ _. nat_lt (length hs) 64) heap roomy room in
    let passed = passing-ok _ (λ heap. not (has_permitted hs heap)) roomy new passes in
    let few = below (length hs) roomed.holds in
    let absent : has_permitted hs new ≡ false = not-true _ passed.holds in
    let heap-is : IsHeapName new = subst IsHeapName (roomed.same ∙ passed.same) (heap_name_of-is d heap name) in
    let is : hs ++ new ∷ [] ≡ ts = ok-same _ _ made in
    subst ArePermitted is (record {
      few = simp length-append (omega arith);
      distinct = all_pairs_push (λ a b. same_heap a b ≡ false) hs new kept.distinct (λ k e within. none_passes (λ h. same_heap h new) hs k e absent within);
      each = All-push IsHeapName hs new kept.each heap-is;
    })

permitted_of-are : (d : Data) (ts : List HeapName) → permitted_of None d ≡ Ok ts → ArePermitted ts
permitted_of-are d ts gives =
    let (items, with_colour_or_any, each) = bind-ok (list_of _ d) _ ts gives in
    each-keeps (with_permitted None) ArePermitted with_permitted-keeps items [] ts no_heaps-are each

memory_of-permits : (d : Data) (m : MemoryWishes) → memory_of None d ≡ Ok m → ArePermitted m.permitted_heaps
memory_of-permits d m gives =
    bind-then (object_of (At field.BufferMemoryConstraints) memory_fields d) _ m gives (λ object is a1.
    bind-then (number_or field.MinSizeBytes 0 (2 ^ 64 - 1) d) _ m a1 (λ min is a2.
    bind-then (number_or field.MaxSizeBytes (2 ^ 64 - 1) (2 ^ 64 - 1) d) _ m a2 (λ max is a3.
    bind-then (flag_or field.PhysicallyContiguousRequired false d) _ m a3 (λ contiguous is a4.
    bind-then (flag_or field.SecureRequired false d) _ m a4 (λ secure is a5.
    bind-then (flag_or field.CpuDomainSupported true d) _ m a5 (λ cpu is a6.
    bind-then (flag_or field.RamDomainSupported false d) _ m a6 (λ ram is a7.
    bind-then (flag_or field.InaccessibleDomainSupported false d) _ m a7 (λ inaccessible is a8.
    bind-then (optional field.PermittedHeaps [] (permitted_of None) d) _ m a8 (λ heaps is made.
    subst (λ (m : MemoryWishes). ArePermitted m.permitted_heaps) (ok-same _ m made) (optional-keeps ArePermitted field.PermittedHeaps [] (permitted_of None) d heaps no_heaps-are (λ v. permitted_of-are v heaps) is))))))))))

pub memory-permits : (d : Data) (m : MemoryWishes) → optional field.BufferMemoryConstraints no_wishes (memory_of None) d ≡ Ok m → ArePermitted m.permitted_heaps
memory-permits d m gives = optional-keeps (λ (m : MemoryWishes). ArePermitted m.permitted_heaps) field.BufferMemoryConstraints no_wishes (memory_of None) d m no_heaps-are (λ v. memory_of-permits v m) gives

-- 1 to the most that an alignment or a divisor may be
multiple-is : (n : ℕ) → is_multiple n ≡ true → n ≤ most_multiple
multiple-is n h = search (rules, tests)

multiple-bounded : (at : Field) (d : Data) (n : ℕ) → multiple at d ≡ Ok n → n ≤ most_multiple
multiple-bounded at d n gives =
    let (read, is, tested) = bind-ok (number_up_to at (2 ^ 64 - 1) d) _ n gives in
    multiple-is n (passing-ok _ is_multiple read n tested).holds

multiple_size-bounded : (at : Field) (d : Data) (size : Size) → multiple_size at d ≡ Ok size → HasSidesUpTo most_multiple size
multiple_size-bounded at d size gives =
    let (read, is, tested) = bind-ok (size_to at (2 ^ 64 - 1) d) _ size gives in
    let (wide, high) = and-true _ _ (passing-ok _ (λ size. is_multiple size.width && is_multiple size.height) read size tested).holds in
    (multiple-is size.width wide, multiple-is size.height high)

some_size-some : (at : Field) (d : Data) (size : Size) → some_size at d ≡ Ok size → (1 ≤ size.width) × (1 ≤ size.height)
some_size-some at d size gives =
    let (read, is, made) = bind-ok (any_size at d) _ size gives in
    subst (λ size. (1 ≤ size.width) × (1 ≤ size.height)) (ok-same _ size made) (omega arith, omega arith)

-- what bounds keep to beside their own invariant
record AreAsked (b : EntryBounds) : Type 0 where
  size_alignment : HasSidesUpTo most_multiple b.asked.size_alignment
  start_offset_divisor : b.asked.start_offset_divisor ≤ most_multiple
  display_rect_alignment : HasSidesUpTo most_multiple b.asked.display_rect_alignment
  required_min_width : 1 ≤ b.asked.required_min_size.width
  required_min_height : 1 ≤ b.asked.required_min_size.height
  max_width_times_height : 1 ≤ b.asked.max_width_times_height

multiple-some : (n : ℕ) → n ≤ most_multiple → max n 1 ≤ most_multiple
multiple-some n h = omega arith

sides-some : (size : Size) → HasSidesUpTo most_multiple size → HasSidesUpTo most_multiple (some_sides size)
sides-some size h = (multiple-some size.width h.0, multiple-some size.height h.1)

alignment-bounded : (at : Field) (d : Data) (size : Size) → size_or multiple_size at 1 d ≡ Ok size → HasSidesUpTo most_multiple (some_sides size)
alignment-bounded at d size gives = sides-some size (optional-keeps (HasSidesUpTo most_multiple) at (record { width = 1; height = 1 }) (multiple_size at) d size (omega arith, omega arith) (λ v. multiple_size-bounded at v size) gives)

divisor-bounded : (at : Field) (d : Data) (n : ℕ) → bound_or multiple at 1 d ≡ Ok n → max n 1 ≤ most_multiple
divisor-bounded at d n gives = multiple-some n (optional-keeps (λ n. n ≤ most_multiple) at 1 (multiple at) d n (omega arith) (λ v. multiple-bounded at v n) gives)

required_sides : (d : Data) (size : Size) → size_or some_size field.RequiredMinSize most_number d ≡ Ok size → (1 ≤ size.width) × (1 ≤ size.height)
required_sides d size gives =
    optional-keeps (λ (size : Size). (1 ≤ size.width) × (1 ≤ size.height)) field.RequiredMinSize (record { width = most_number; height = most_number }) (some_size field.RequiredMinSize) d size (omega arith, omega arith) (λ v. some_size-some field.RequiredMinSize v size) gives

large_number-some : (at : Field) (d : Data) (n : ℕ) → large_number at d ≡ Ok n → 1 ≤ n
large_number-some at d n gives =
    let (read, is, tested) = bind-ok (number_up_to at (2 ^ 64 - 1) d) _ n gives in
    some-is n (passing-ok _ (λ n. nat_le 1 n) read n tested).holds where
      some-is : (n : ℕ) → nat_le 1 n ≡ true → 1 ≤ n
      some-is n h = search (rules, tests)

area_some : (d : Data) (n : ℕ) → bound_or large_number field.MaxWidthTimesHeight (2 ^ 64 - 1) d ≡ Ok n → 1 ≤ n
area_some d n gives = optional-keeps (λ n. 1 ≤ n) field.MaxWidthTimesHeight (2 ^ 64 - 1) (large_number field.MaxWidthTimesHeight) d n (omega arith) (λ v. large_number-some field.MaxWidthTimesHeight v n) gives

-- each field of a list is stated with its value
each-at : (fs : List Bound) (d : Data) (values : List Size) (k : ℕ) (f : Bound) (v : Size) → stated_each fs d ≡ Ok values → k < length fs → stated_in (get_or fs k f) d ≡ Ok (get_or values k v)
each-at [] d values k f v gives within = absurd (omega arith)
each-at (g ∷ fs) d values k f v gives within =
    bind-then (stated_in g d) _ values gives (λ value is after.
    bind-then (stated_each fs d) _ values after (λ rest all made.
    subst (λ values. stated_in (get_or (g ∷ fs) k f) d ≡ Ok (get_or values k v)) (ok-same _ values made) (by value rest is (λ k within. each-at fs d rest k f v all within) k within))) where
      by : (value : Size) (rest : List Size) → stated_in g d ≡ Ok value → ((k : ℕ) → k < length fs → stated_in (get_or fs k f) d ≡ Ok (get_or rest k v))
          → (k : ℕ) → k < length (g ∷ fs) → stated_in (get_or (g ∷ fs) k f) d ≡ Ok (get_or (value ∷ rest) k v)
      by value rest is later zero within = is
      by value rest is later (suc k) within = later k (omega (arith, within))

number-then : {Goal : Type 0} (f : Bound) (d : Data) (value : Size) → number_stated f d ≡ Ok value
    → ((n : ℕ) → bound_or (number_in (range_of f)) (field_of f) (absent f) d ≡ Ok n → square n ≡ value → Goal) → Goal
number-then f d value gives then =
    bind-then (bound_or (number_in (range_of f)) (field_of f) (absent f) d) _ value gives (λ n is made. then n is (ok-same _ value made))

divisor-stated : (f : Bound) (d : Data) (value : Size) → number_in (range_of f) ≡ multiple → absent f ≡ 1 → number_stated f d ≡ Ok value → max value.width 1 ≤ most_multiple
divisor-stated f d value reads one gives =
    number-then f d value gives (λ n is same.
    subst (λ (v : Size). max v.width 1 ≤ most_multiple) same (divisor-bounded (field_of f) d n (rw (reads, one) at is)))

area-stated : (d : Data) (value : Size) → number_stated MaxWidthTimesHeight d ≡ Ok value → 1 ≤ value.width
area-stated d value gives = number-then MaxWidthTimesHeight d value gives (λ n is same. subst (λ (v : Size). 1 ≤ v.width) same (area_some d n is))

bounds_of-are : (d : Data) (b : EntryBounds) → bounds_of d ≡ Ok b → AreAsked b
bounds_of-are d b gives =
    bind-then (stated_bounds d) _ b gives (λ s stated-is made.
    bind-then (stated_each all_bounds d) _ s stated-is (λ values each after.
    bind-then (flag_or field.RequireBytesPerRowAtPixelBoundary false d) _ s after (λ pixel is all.
    let size_alignment : stated_in SizeAlignment d ≡ Ok (value_among values SizeAlignment) = each-at all_bounds d values 2 MinSize _ each (omega arith) in
    let start_offset_divisor : stated_in StartOffsetDivisor d ≡ Ok (value_among values StartOffsetDivisor) = each-at all_bounds d values 6 MinSize _ each (omega arith) in
    let display_rect_alignment : stated_in DisplayRectAlignment d ≡ Ok (value_among values DisplayRectAlignment) = each-at all_bounds d values 7 MinSize _ each (omega arith) in
    let required_min_size : stated_in RequiredMinSize d ≡ Ok (value_among values RequiredMinSize) = each-at all_bounds d values 8 MinSize _ each (omega arith) in
    let max_width_times_height : stated_in MaxWidthTimesHeight d ≡ Ok (value_among values MaxWidthTimesHeight) = each-at all_bounds d values 10 MinSize _ each (omega arith) in
    let required = required_sides d (value_among values RequiredMinSize) required_min_size in
    subst AreAsked (ok-same _ b made) (subst (λ s. AreAsked (bounds_by s)) (ok-same _ s all) (record {
      size_alignment = alignment-bounded field.SizeAlignment d (value_among values SizeAlignment) size_alignment;
      start_offset_divisor = divisor-stated StartOffsetDivisor d (value_among values StartOffsetDivisor) refl refl start_offset_divisor;
      display_rect_alignment = alignment-bounded field.DisplayRectAlignment d (value_among values DisplayRectAlignment) display_rect_alignment;
      required_min_width = required.0;
      required_min_height = required.1;
      max_width_times_height = area-stated d (value_among values MaxWidthTimesHeight) max_width_times_height;
    })))))

with_colour-some : (set : ColourSet) (colour : ColourSpace) → with_colour set colour ≢ no_colours
with_colour-some set Srgb e = let t : true ≡ false = ap (λ (s : ColourSet). s.srgb) e in absurd (cc)
with_colour-some set Rec601Ntsc e = let t : true ≡ false = ap (λ (s : ColourSet). s.rec601_ntsc) e in absurd (cc)
with_colour-some set Rec601NtscFullRange e = let t : true ≡ false = ap (λ (s : ColourSet). s.rec601_ntsc_full_range) e in absurd (cc)
with_colour-some set Rec601Pal e = let t : true ≡ false = ap (λ (s : ColourSet). s.rec601_pal) e in absurd (cc)
with_colour-some set Rec601PalFullRange e = let t : true ≡ false = ap (λ (s : ColourSet). s.rec601_pal_full_range) e in absurd (cc)
with_colour-some set Rec709 e = let t : true ≡ false = ap (λ (s : ColourSet). s.rec709) e in absurd (cc)
with_colour-some set Rec2020 e = let t : true ≡ false = ap (λ (s : ColourSet). s.rec2020) e in absurd (cc)
with_colour-some set Rec2100 e = let t : true ≡ false = ap (λ (s : ColourSet). s.rec2100) e in absurd (cc)

listed-some : (set : ColourSet) (colour : Option ColourSpace) → with_colour_or_any set colour ≢ no_colours
listed-some set None e = let t : true ≡ false = ap (λ (s : ColourSet). s.any) e in absurd (cc)
listed-some set (Some colour) e = with_colour-some set colour e

with_listed-some : (set new : ColourSet) (d : Data) → with_listed set d ≡ Ok new → new ≢ no_colours
with_listed-some set new d gives =
    let (colour, is, made) = bind-ok (named _ _ d) _ new gives in
    subst (λ set. set ≢ no_colours) (ok-same _ new made) (listed-some set colour)

listed_in-some : (ds : Items) (set : ColourSet) → has_items ds ≡ true → read_each with_listed no_colours ds ≡ Ok set → set ≢ no_colours
listed_in-some no_items set some gives = absurd (cc)
listed_in-some (item d ds) set some gives =
    let (first, one, rest) = bind-ok (with_listed no_colours d) _ set gives in
    each-keeps with_listed (λ set. set ≢ no_colours) (λ before after v kept is. with_listed-some before after v is) ds first set (with_listed-some no_colours first d one) rest

colour_set_of-some : (d : Data) (set : ColourSet) → colour_set_of d ≡ Ok set → set ≢ no_colours
colour_set_of-some d set gives =
    let (items, with_colour_or_any, after) = bind-ok (list_of _ d) _ set gives in
    let (filled, tested, each) = bind-ok (passing _ has_items items) _ set after in
    listed_in-some filled set (passing-ok _ has_items items filled tested).holds each

-- the two pairs are of different formats or modifiers
abbrev ArePairsApart : AskedPair → AskedPair → Type 0
ArePairsApart a b = a.format ≡ b.format → a.modifier ≢ b.modifier

-- the pair is no tiled misfit
abbrev Fits : AskedPair → Type 0
Fits asked = (pair : Pair) → asked.format ≡ Some pair.format → asked.modifier ≡ Some pair.modifier → IsTiledMisfit pair → ⊥

same_format-itself : (f : Option PixelFormat) → same_format f f ≡ true
same_format-itself None = refl
same_format-itself (Some f) = search (rules, tests)

same_modifier-itself : (m : Option Modifier) → same_modifier m m ≡ true
same_modifier-itself None = refl
same_modifier-itself (Some m) = search (rules, tests)

apart : (a b : AskedPair) → same_asked a b ≡ false → ArePairsApart a b
apart a b differ formats modifiers =
    let f : same_format a.format b.format ≡ true = subst (λ f. same_format a.format f ≡ true) formats (same_format-itself a.format) in
    let m : same_modifier a.modifier b.modifier ≡ true = subst (λ m. same_modifier a.modifier m ≡ true) modifiers (same_modifier-itself a.modifier) in
    let h : true ≡ false = rw (f, m) at differ in
    absurd (cc)

fits : (f : Option PixelFormat) (m : Option Modifier) → asks_misfit f m ≡ false → Fits (record { format = f; modifier = m })
fits None m fit pair named tiled misfit = absurd (cc)
fits (Some f) None fit pair named tiled misfit = absurd (cc)
fits (Some f) (Some m) fit pair named tiled misfit =
    fitting (record { format = f; modifier = m }) fit (λ e. misfit.0 (sym (same_Some m pair.modifier tiled) ∙ e), λ e. misfit.1 (ap pixel_bytes (sym (same_Some f pair.format named)) ∙ e))

-- the pairs of an entry so far, after those of the entries before
record ArePairs (before pairs : List AskedPair) : Type 0 where
  few : length (before ++ pairs) ≤ 64
  distinct : AllPairs ArePairsApart (before ++ pairs)
  fitting : All Fits pairs

asked_by-entries : (p : AskedPair → Bool) (entries : List Entry) → list_any (λ entry. p (pair_asked entry)) entries ≡ list_any p (map pair_asked entries)
asked_by-entries p [] = refl
asked_by-entries p (e ∷ es) = ap (λ b. p (pair_asked e) || b) (asked_by-entries p es)

with_asked-keeps : (at : Field) (entries : List Entry) (pairs after : List AskedPair) (asked : AskedPair)
    → ArePairs (map pair_asked entries) pairs → with_asked None at entries pairs asked ≡ Ok after → ArePairs (map pair_asked entries) after
with_asked-keeps at entries pairs after asked kept gives =
    let before = map pair_asked entries in
    let (fit, fitted, a1) = bind-ok (passing _ (λ (pair : AskedPair). not (asks_misfit pair.format pair.modifier)) asked) _ after gives in
    let (roomy, room, a2) = bind-ok (passing _ (λ _. nat_lt (length entries + length pairs) 64) fit) _ after a1 in
    let (new, passes, made) = bind-ok (passing _ (λ pair. not (is_asked_already entries pair || has_asked pairs pair)) roomy) _ after a2 in
    let first = passing-ok _ (λ (pair : AskedPair). not (asks_misfit pair.format pair.modifier)) asked fit fitted in
    let roomed = passing-ok _ (λ _. nat_lt (length entries + length pairs) 64) fit roomy room in
    let passed = passing-ok _ (λ pair. not (is_asked_already entries pair || has_asked pairs pair)) roomy new passes in
    let less : length entries + length pairs < 64 = below _ roomed.holds in
    let counted : length before ≡ length entries = length-map entries pair_asked in
    let absent : (is_asked_already entries new || has_asked pairs new) ≡ false = not-true _ passed.holds in
    let none : list_any (λ pair. same_asked pair new) (before ++ pairs) ≡ false =
    list_any-append (λ pair. same_asked pair new) before pairs ∙ ap (λ b. b || has_asked pairs new) (sym (asked_by-entries (λ pair. same_asked pair new) entries)) ∙ absent in
    let fits-new : Fits new = subst Fits (roomed.same ∙ passed.same) (fits fit.format fit.modifier (not-true _ first.holds)) in
    let is : pairs ++ new ∷ [] ≡ after = ok-same _ _ made in
    let whole : (before ++ pairs) ++ new ∷ [] ≡ before ++ (pairs ++ new ∷ []) = append_assoc before pairs (new ∷ []) in
    subst (ArePairs before) is (record {
      few = rw (length-append before (pairs ++ new ∷ []), length-append pairs (new ∷ []), counted) (omega arith);
      distinct = subst (AllPairs ArePairsApart) whole (all_pairs_push ArePairsApart (before ++ pairs) new kept.distinct (λ k d within. apart _ _ (none_passes (λ pair. same_asked pair new) (before ++ pairs) k d none within)));
      fitting = All-push Fits pairs new kept.fitting fits-new;
    })

own_pair-by : (t : Bool) (entries : List Entry) (d : Data) (pairs : List AskedPair) → ArePairs (map pair_asked entries) []
    → cond t (asked_of d >>= with_asked None field.PixelFormat entries []) (no_pair d) ≡ Ok pairs → ArePairs (map pair_asked entries) pairs
own_pair-by true entries d pairs kept gives =
    let (asked, is, added) = bind-ok (asked_of d) _ pairs gives in
    with_asked-keeps field.PixelFormat entries [] pairs asked kept added
own_pair-by false entries d pairs kept gives =
    let (v, is, a1) = bind-ok (passing _ has_further d) _ pairs gives in
    let (m, is1, made) = bind-ok (modifier_beside None d) _ pairs a1 in
    subst (ArePairs (map pair_asked entries)) (ok-same _ pairs made) kept

asked_pairs-are : (entries : List Entry) (d : Data) (pairs : List AskedPair) → ArePairs (map pair_asked entries) []
    → asked_pairs None entries d ≡ Ok pairs → ArePairs (map pair_asked entries) pairs
asked_pairs-are entries d pairs kept gives =
    let (own, is, after) = bind-ok (own_pair None entries d) _ pairs gives in
    let owned = own_pair-by _ entries d own kept is in
    optional-keeps (ArePairs (map pair_asked entries)) field.PixelFormatAndModifiers own (further_of None entries own) d pairs owned (λ v further.
    let (items, with_colour_or_any, each) = bind-ok (list_of _ v) _ pairs further in
    each-keeps (with_further None entries) (ArePairs (map pair_asked entries)) (λ before after w so is.
    let (object, o, a1) = bind-ok (object_of _ _ w) _ after is in
    let (asked, a, added) = bind-ok (asked_of w) _ after a1 in
    with_asked-keeps field.PixelFormatAndModifiers entries before after asked so added) items own pairs owned each) after

-- the entries of a record
pub record AreEntries (entries : List Entry) : Type 0 where
  pub few : length entries ≤ 64
  pub distinct : AllPairs AreApart entries
  pub each : All IsEntry entries

-- entries are apart where their pairs are
apart-entries : (entries : List Entry) → AllPairs ArePairsApart (map pair_asked entries) → AllPairs AreApart entries
apart-entries entries h i j e before within =
    subst (λ (p : AskedPair). ArePairsApart p (pair_asked (get_or entries j e))) (get_or-map pair_asked entries i e (pair_asked e) (omega arith))
    (subst (λ (p : AskedPair). ArePairsApart (get_or (map pair_asked entries) i (pair_asked e)) p) (get_or-map pair_asked entries j e (pair_asked e) within)
    (h i j (pair_asked e) before (rw (length-map entries pair_asked) within)))

pairs-of : (colours : ColourSet) (bounds : EntryBounds) (pairs : List AskedPair) → map pair_asked (map (entry_with colours bounds) pairs) ≡ pairs
pairs-of colours bounds [] = refl
pairs-of colours bounds (p ∷ ps) = ap (λ ps. p ∷ ps) (pairs-of colours bounds ps)

-- the entries so far
record Entries (entries : List Entry) : Type 0 where
  few : length (map pair_asked entries) ≤ 64
  distinct : AllPairs ArePairsApart (map pair_asked entries)
  each : All IsEntry entries

no_pairs : (before : List AskedPair) → length before ≤ 64 → AllPairs ArePairsApart before → ArePairs before []
no_pairs before few distinct = record {
  few = rw (append-nil before) few;
  distinct = rw (append-nil before) distinct;
  fitting = λ k e within. absurd (omega arith);
}

with_entry-keeps : (es ts : List Entry) (d : Data) → Entries es → with_entry None es d ≡ Ok ts → Entries ts
with_entry-keeps es ts d kept gives =
    let (object, o, a1) = bind-ok (entry_object d) _ ts gives in
    let (pairs, p, a2) = bind-ok (asked_pairs None es d) _ ts a1 in
    let (colours, c, a3) = bind-ok (stated code.NoColourSpaces field.ColorSpaces d >>= colour_set_of) _ ts a2 in
    let (bounds, b, made) = bind-ok (bounds_of d) _ ts a3 in
    let (v, there, with_colour_or_any) = bind-ok (stated code.NoColourSpaces field.ColorSpaces d) colour_set_of colours c in
    let are = asked_pairs-are es d pairs (no_pairs (map pair_asked es) kept.few kept.distinct) p in
    let some = colour_set_of-some v colours with_colour_or_any in
    let asked = bounds_of-are d bounds b in
    let whole : map pair_asked (es ++ map (entry_with colours bounds) pairs) ≡ map pair_asked es ++ pairs =
    map-append pair_asked es (map (entry_with colours bounds) pairs) ∙ ap (λ ps. map pair_asked es ++ ps) (pairs-of colours bounds pairs) in
    let entry : (k : ℕ) (d : AskedPair) → k < length pairs → IsEntry (entry_with colours bounds (get_or pairs k d)) = λ k d within. record {
      fitting = are.fitting k d within;
      some_colours = some;
      size_alignment = asked.size_alignment;
      start_offset_divisor = asked.start_offset_divisor;
      display_rect_alignment = asked.display_rect_alignment;
      required_min_width = asked.required_min_width;
      required_min_height = asked.required_min_height;
      max_width_times_height = asked.max_width_times_height;
    } in
    subst Entries (ok-same _ ts made) (record {
      few = rw whole are.few;
      distinct = rw whole are.distinct;
      each = All-append IsEntry es (map (entry_with colours bounds) pairs) kept.each (All-map IsEntry (entry_with colours bounds) pairs entry);
    })

no_entries-are : AreEntries []
no_entries-are = record { few = omega arith; distinct = λ i j e before within. absurd (omega arith); each = λ k e within. absurd (omega arith) }

entries_of-are : (d : Data) (ts : List Entry) → entries_of None d ≡ Ok ts → AreEntries ts
entries_of-are d ts gives =
    let (items, with_colour_or_any, each) = bind-ok (list_of _ d) _ ts gives in
    let kept = each-keeps (with_entry None) Entries with_entry-keeps items [] ts (record { few = omega arith; distinct = λ i j e before within. absurd (omega arith); each = λ k e within. absurd (omega arith) }) each in
    record { few = rw (sym (length-map ts pair_asked)) kept.few; distinct = apart-entries ts kept.distinct; each = kept.each }

pub entries-are : (d : Data) (ts : List Entry) → optional field.ImageFormatConstraints [] (entries_of None) d ≡ Ok ts → AreEntries ts
entries-are d ts gives = optional-keeps AreEntries field.ImageFormatConstraints [] (entries_of None) d ts no_entries-are (λ v. entries_of-are v ts) gives
