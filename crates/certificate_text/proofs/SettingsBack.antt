-- Settings are read of what is told of them.
use Rattle.std.proofs.Common.{◌≡◌, ℕ, zero, suc, ◌+◌, ◌-◌, ◌^◌, ◌<◌, ◌≤◌, ◌&&◌, Bool, true, false, cond, not, List, [], ◌∷◌, length, map, get_or, AllPairs, Contains, position, slice_get, Option, Some, None, codes, nat_lt, option_map, if◌then◌else◌, Decides, refl, sym, ap, subst, ◌∙◌, arith, rules, tests, le-leb, lt-ltb, eq-eqb}
use Rattle.std.specs.List.{list_any, position_or_len}
use Rattle.std.proofs.lemmas.List.Folds.{Any-from_list_any, list_any_at}
use Rattle.std.proofs.lemmas.Option.{same_Some, none-some, slice_get_within, get_or_from_slice_get}
use Rattle.std.proofs.lemmas.Slice.Eq.{bytes_eq-Decides}
use Rattle.serde_json.specs.Data.{Data, string}
use Rattle.serde_json.specs.Find.{get, as_str}
use Rattle.sysmem_counts.specs.declared.field.Field.{Field}
use Rattle.sysmem_counts.specs.declared.field.Field.TheVariants as field
use Rattle.sysmem_counts.specs.Field.{field_name}
use Rattle.sysmem_formats.specs.declared.colour_space.ColourSpace.{ColourSpace}
use Rattle.sysmem_formats.specs.declared.offer.Offer.{Offer}
use Rattle.sysmem_formats.specs.declared.offer.Offer.TheVariants.{NoImage, Image}
use Rattle.sysmem_formats.specs.declared.offer.Pair.{Pair}
use Rattle.sysmem_formats.specs.Names.{colour_name, format_name, modifier_name}
use Rattle.sysmem_image.specs.declared.bounds.ImageBounds.{ImageBounds}
use Rattle.sysmem_image.specs.declared.size.Size.{Size}
use Rattle.sysmem_image.specs.Bounds.{IsInRange, IsOwn}
use Rattle.sysmem_image.specs.Fields as f
use Rattle.sysmem_image.specs.Fields.{Bound, all_bounds, sides_of, values_of}
use Rattle.sysmem_image.specs.Size.{square}
use Rattle.sysmem_counts.specs.Bounds.{most_number}
use Rattle.sysmem_memory.specs.declared.place.Place.{Place}
use Rattle.sysmem_memory.specs.Domain.{domain_name}
use Rattle.sysmem_memory.specs.Heap.{HeapFacts, same_heap}
use Rattle.sysmem_memory.specs.Place.{IsPlace}
use Rattle.sysmem_merge.specs.declared.settings.Settings.{Settings}
use Rattle.sysmem_merge.proofs.CallerLemmas.{offered_test}
use Rattle.negotiation_inputs.specs.Platform.{PlatformFacts, offers_of}
use Rattle.record_reading.specs.Reading.Names.{format_named, modifier_named, colour_named, domain_named}
use Rattle.negotiation_inputs.specs.Pairs.{same_pair, has_pair, same_colour, lists_colour}
use Rattle.certificate_text.specs.Bounds.{count_data, size_data, bounds_data}
use Rattle.certificate_text.specs.CanBeRead.{AreReadableSettings}
use Rattle.certificate_text.specs.Reading.{◌>>=◌, number_to, at_key, named_at}
use Rattle.certificate_text.specs.SettingsSaid.{any_number, unless_zero, some_number, size_said, any_size, unless_flat, some_size, said_in, said_each, values_said, bounds_by, bounds_beside, offered, image_said, offer_said, is_heap, heap_said, place_at, place_said, settings_said}
use Rattle.certificate_text.specs.Told.{heap_data, image_data, image_bounds_data, settings_data}
use Rattle.certificate_text.proofs.BoundsLemmas.{bounds_by-values_of, own_is_no_bounds}
use Rattle.sysmem_sanitise.proofs.CallerLemmas.{own_format_name, own_modifier_name, own_colour_name, own_domain_name}
use Rattle.certificate_text.proofs.RefutationsBack.{first, at_back, number_back}

-- what a text at a key names is read
text_back : {A : Type 0} (key : List ℕ) (named : List ℕ → Option A) (d : Data) (name : List ℕ) (x : A) → get key d ≡ Some (string name) → named name ≡ Some x → named_at key named d ≡ Some x
text_back key named d name x stands is = ap (λ e. (e >>= as_str) >>= named) stands ∙ is

-- ---- bounds

size_back : (w h : ℕ) → w ≤ most_number → h ≤ most_number → size_said (size_data w h) ≡ Some (record { width = w; height = h })
size_back w h wide high =
    first (number_to most_number (count_data w)) w _ _ (number_back most_number w wide)
    (first (number_to most_number (count_data h)) h _ _ (number_back most_number h high) refl)

number_at : (field : Field) (d : Data) (n : ℕ) → get (field_name field) d ≡ Some (count_data n) → n ≤ most_number → any_number field d ≡ Some n
number_at field d n stands fits = at_back (field_name field) (number_to most_number) d (count_data n) n stands (number_back most_number n fits)

some_at : (field : Field) (d : Data) (n : ℕ) → get (field_name field) d ≡ Some (count_data n) → n ≤ most_number → 1 ≤ n → some_number field d ≡ Some n
some_at field d n stands fits some = first (any_number field d) n unless_zero _ (number_at field d n stands fits) (rw (le-leb 1 n some) refl)

size_at : (field : Field) (d : Data) (s : Size) → get (field_name field) d ≡ Some (size_data s.width s.height) → s.width ≤ most_number → s.height ≤ most_number → any_size field d ≡ Some s
size_at field d s stands wide high = at_back (field_name field) size_said d (size_data s.width s.height) s stands (size_back s.width s.height wide high)

some_size_at : (field : Field) (d : Data) (s : Size) → get (field_name field) d ≡ Some (size_data s.width s.height) → s.width ≤ most_number → s.height ≤ most_number
    → 1 ≤ s.width → 1 ≤ s.height → some_size field d ≡ Some s
some_size_at field d s stands wide high w h = first (any_size field d) s unless_flat _ (size_at field d s stands wide high) (rw (le-leb 1 s.width w, le-leb 1 s.height h) refl)

each_back : (fs : List Bound) (d : Data) (v : Bound → Size) → ((f : Bound) → said_in f d ≡ Some (v f)) → said_each fs d ≡ Some (map v fs)
each_back [] d v says = refl
each_back (g ∷ fs) d v says = first (said_in g d) (v g) _ _ (says g) (first (said_each fs d) (map v fs) _ _ (each_back fs d v says) refl)

field_back : (b : ImageBounds) → IsInRange b → (g : Bound) → said_in g (bounds_data b) ≡ Some (sides_of b g)
field_back b fits f.MinSize = some_size_at field.MinSize (bounds_data b) b.min_size refl (fits f.MinSize f.Width) (fits f.MinSize f.Height) b.min_width_some b.min_height_some
field_back b fits f.MaxSize = size_at field.MaxSize (bounds_data b) b.max_size refl (fits f.MaxSize f.Width) (fits f.MaxSize f.Height)
field_back b fits f.SizeAlignment = some_size_at field.SizeAlignment (bounds_data b) b.size_alignment refl (fits f.SizeAlignment f.Width) (fits f.SizeAlignment f.Height) b.width_alignment_some b.height_alignment_some
field_back b fits f.MinBytesPerRow = ap (option_map square) (some_at field.MinBytesPerRow (bounds_data b) b.min_bytes_per_row refl (fits f.MinBytesPerRow f.Width) b.min_row_some)
field_back b fits f.MaxBytesPerRow = ap (option_map square) (number_at field.MaxBytesPerRow (bounds_data b) b.max_bytes_per_row refl (fits f.MaxBytesPerRow f.Width))
field_back b fits f.BytesPerRowDivisor = ap (option_map square) (some_at field.BytesPerRowDivisor (bounds_data b) b.bytes_per_row_divisor refl (fits f.BytesPerRowDivisor f.Width) b.row_divisor_some)
field_back b fits f.StartOffsetDivisor = ap (option_map square) (some_at field.StartOffsetDivisor (bounds_data b) b.start_offset_divisor refl (fits f.StartOffsetDivisor f.Width) b.start_divisor_some)
field_back b fits f.DisplayRectAlignment =
    some_size_at field.DisplayRectAlignment (bounds_data b) b.display_rect_alignment refl (fits f.DisplayRectAlignment f.Width) (fits f.DisplayRectAlignment f.Height) b.display_width_some b.display_height_some
field_back b fits f.RequiredMinSize = size_at field.RequiredMinSize (bounds_data b) b.required_min_size refl (fits f.RequiredMinSize f.Width) (fits f.RequiredMinSize f.Height)
field_back b fits f.RequiredMaxSize = size_at field.RequiredMaxSize (bounds_data b) b.required_max_size refl (fits f.RequiredMaxSize f.Width) (fits f.RequiredMaxSize f.Height)
field_back b fits f.MaxWidthTimesHeight = ap (option_map square) (number_back (2 ^ 64 - 1) b.max_width_times_height (omega (arith, fits f.MaxWidthTimesHeight f.Width)))

values_back : (b : ImageBounds) → IsInRange b → values_said (bounds_data b) ≡ Some (values_of b)
values_back b fits = each_back all_bounds (bounds_data b) (sides_of b) (field_back b fits)

bounds_back : (o : Offer) (b : ImageBounds) → IsInRange b → (o ≡ NoImage → IsOwn NoImage b) → bounds_beside o (image_bounds_data o b) ≡ Some b
bounds_back NoImage b fits own = ap Some (sym (own_is_no_bounds b (own refl)))
bounds_back (Image pair colour) b fits own = ap (option_map bounds_by) (values_back b fits) ∙ ap Some (bounds_by-values_of b)

-- ---- offers

pair_tells : (a b : Pair) → Decides (same_pair a b) (a ≡ b)
pair_tells a b = search (rules, tests)

colour_tells : (a b : ColourSpace) → Decides (same_colour a b) (a ≡ b)
colour_tells a b = search (rules, tests)

-- a test for one that is there, where two are told apart
among : {X : Type 0} (same : X → X → Bool) → ((a b : X) → Decides (same a b) (a ≡ b)) → (xs : List X) (x : X) → Decides (list_any (λ y. same y x) xs) (Contains xs x)
among same tells xs x = (
  λ yes.
      let any = Any-from_list_any (λ y. same y x) xs yes in
      let e : any.1 ≡ x = (tells any.1 x).0 any.4 in
      (any.0, any.2, subst (λ z. get_or xs any.0 z ≡ z) e any.3),
  λ has. list_any_at (λ y. same y x) xs has.0 x has.1 ((tells _ x).1 has.2),
)

image_offered : (platform : PlatformFacts) (pair : Pair) (colour : ColourSpace) → Contains (offers_of platform) (Image pair colour) → (has_pair platform.pairs pair && lists_colour platform.colours colour) ≡ true
image_offered platform pair colour has =
    (offered_test platform (Image pair colour) platform.pairs platform.colours pair colour (has_pair platform.pairs pair) (lists_colour platform.colours colour) refl refl refl
    (among same_pair pair_tells platform.pairs pair) (among same_colour colour_tells platform.colours colour)).1 has

image_back : (pair : Pair) (colour : ColourSpace) → image_said (image_data (Image pair colour)) ≡ Some (Image pair colour)
image_back pair colour =
    let d : Data = image_data (Image pair colour) in
    first (named_at (codes "color_space") colour_named d) colour _ _ (text_back (codes "color_space") colour_named d (colour_name colour) colour refl (own_colour_name colour))
    (first (named_at (field_name field.PixelFormat) format_named d) pair.format _ _ (text_back (field_name field.PixelFormat) format_named d (format_name pair.format) pair.format refl (own_format_name pair.format))
    (first (named_at (field_name field.PixelFormatModifier) modifier_named d) pair.modifier _ _
    (text_back (field_name field.PixelFormatModifier) modifier_named d (modifier_name pair.modifier) pair.modifier refl (own_modifier_name pair.modifier)) refl))

offer_back : (platform : PlatformFacts) (o : Offer) → Contains (offers_of platform) o → offer_said platform (image_data o) ≡ Some o
offer_back platform NoImage has = refl
offer_back platform (Image pair colour) has =
    first (image_said (image_data (Image pair colour))) (Image pair colour) (offered platform) _ (image_back pair colour) (rw (image_offered platform pair colour has) refl)

-- ---- places

AreDistinct : List HeapFacts → Type 0
AreDistinct heaps = AllPairs (λ a b. same_heap a.heap b.heap ≡ false) heaps

rest_distinct : (x : HeapFacts) (xs : List HeapFacts) → AreDistinct (x ∷ xs) → AreDistinct xs
unfolding AreDistinct
rest_distinct x xs distinct i j d before within = distinct (suc i) (suc j) d (omega (arith, before)) (omega (arith, within))

own_heap : (h : HeapFacts) → is_heap h.heap.heap_type h.heap.id h ≡ true
own_heap h = rw ((bytes_eq-Decides h.heap.heap_type h.heap.heap_type).1 refl, eq-eqb h.heap.id h.heap.id refl) refl

other_heap : (x h : HeapFacts) (xs : List HeapFacts) (k : ℕ) → AreDistinct (x ∷ xs) → slice_get xs k ≡ Some h → is_heap h.heap.heap_type h.heap.id x ≡ false
unfolding AreDistinct
other_heap x h xs k distinct has =
    let within : k < length xs = slice_get_within xs k h has in
    subst (λ y. same_heap x.heap y.heap ≡ false) (get_or_from_slice_get xs k h h has) (distinct 0 (suc k) h (omega arith) (omega (arith, within)))

-- the first heap of a name is the one that has it
found_at : (xs : List HeapFacts) (k : ℕ) (h : HeapFacts) → slice_get xs k ≡ Some h → AreDistinct xs → position_or_len (is_heap h.heap.heap_type h.heap.id) xs ≡ k
found_at [] k h has distinct = absurd (none-some h has)
found_at (x ∷ xs) zero h has distinct =
    let e : h ≡ x = sym (same_Some x h has) in
    ap (λ b. cond (not b) (1 + position_or_len (is_heap h.heap.heap_type h.heap.id) xs) 0) (subst (λ y. is_heap h.heap.heap_type h.heap.id y ≡ true) e (own_heap h))
found_at (x ∷ xs) (suc k) h has distinct =
    let next : position_or_len (is_heap h.heap.heap_type h.heap.id) xs ≡ k = found_at xs k h has (rest_distinct x xs distinct) in
    ap (λ b. cond (not b) (1 + position_or_len (is_heap h.heap.heap_type h.heap.id) xs) 0) (other_heap x h xs k distinct has) ∙ omega (arith, next)

position_back : (xs : List HeapFacts) (k : ℕ) (h : HeapFacts) → slice_get xs k ≡ Some h → AreDistinct xs → position (is_heap h.heap.heap_type h.heap.id) xs ≡ Some k
position_back xs k h has distinct =
    ap (λ n. cond (nat_lt n (length xs)) (Some n) None) (found_at xs k h has distinct)
    ∙ ap (λ b. cond b (Some k) None) (lt-ltb k (length xs) (slice_get_within xs k h has))

heap_back : (platform : PlatformFacts) (k : ℕ) (h : HeapFacts) → AreDistinct platform.heaps → slice_get platform.heaps k ≡ Some h → h.heap.id ≤ 2 ^ 64 - 1
    → heap_said platform (heap_data (Some h)) ≡ Some k
heap_back platform k h distinct has fits =
    first (number_to (2 ^ 64 - 1) (count_data h.heap.id)) h.heap.id (λ id. position (is_heap h.heap.heap_type id) platform.heaps) _ (number_back (2 ^ 64 - 1) h.heap.id fits)
    (position_back platform.heaps k h has distinct)

place_back : (platform : PlatformFacts) (p : Place) (h : HeapFacts) → IsPlace platform.heaps p h → place_at platform p.heap p.coherency ≡ Some p
place_back platform p h place =
    first (slice_get platform.heaps p.heap) h _ _ place.heap (ap (λ b. if b then Some p else None) place.domain)

pub settings_back : (platform : PlatformFacts) (s : Settings) → AllPairs (λ a b. same_heap a.heap b.heap ≡ false) platform.heaps → AreReadableSettings platform s
    → settings_said platform (settings_data platform s) ≡ Some s
unfolding AreDistinct
settings_back platform s distinct can =
    let d : Data = settings_data platform s in
    first (at_key (codes "count") (number_to most_number) d) s.count _ _ (at_back (codes "count") (number_to most_number) d (count_data s.count) s.count refl (number_back most_number s.count can.count))
    (first (at_key (codes "size_bytes") (number_to (2 ^ 64 - 1)) d) s.size_bytes _ _
    (at_back (codes "size_bytes") (number_to (2 ^ 64 - 1)) d (count_data s.size_bytes) s.size_bytes refl (number_back (2 ^ 64 - 1) s.size_bytes can.size_bytes))
    (first (place_said platform d) s.place _ _
    (first (named_at (codes "domain") domain_named d) s.place.coherency _ _ (text_back (codes "domain") domain_named d (domain_name s.place.coherency) s.place.coherency refl (own_domain_name s.place.coherency))
    (first (at_key (codes "heap") (heap_said platform) d) s.place.heap _ _
    (at_back (codes "heap") (heap_said platform) d (heap_data (Some can.heap)) s.place.heap (ap (λ h. Some (heap_data h)) can.place.heap) (heap_back platform s.place.heap can.heap distinct can.place.heap can.id))
    (place_back platform s.place can.heap can.place)))
    (first (at_key (codes "image") (offer_said platform) d) s.offer _ _ (at_back (codes "image") (offer_said platform) d (image_data s.offer) s.offer refl (offer_back platform s.offer can.offer))
    (first (at_key (codes "bounds") (bounds_beside s.offer) d) s.bounds _ _
    (at_back (codes "bounds") (bounds_beside s.offer) d (image_bounds_data s.offer s.bounds) s.bounds refl (bounds_back s.offer s.bounds can.bounds can.own)) refl))))
