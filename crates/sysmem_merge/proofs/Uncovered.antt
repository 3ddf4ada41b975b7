-- In which field settings fail a participant: fields that fail, and the first of them.
use Rattle.std.proofs.Common.{◌≡◌, ◌≢◌, ◌↔◌, ◌||◌, ◌==◌, ◌⊎◌, inl, inr, arith, Bool, true, false, cond, ℕ, ◌<◌, ◌≤◌, List, [], ◌∷◌, ◌++◌, map, length, Option, Some, None, All, IfSome, IfNone, IsSomeAnd, IsTrue, not, get_or, slice_get, refl, sym, ap, ◌∙◌, subst}
use Rattle.std.specs.Prelude.{⊤, is_some, nat_lt}
use Rattle.std.specs.List.{find, filter, AllByRecursion}
use Rattle.std.specs.Option.{option_map, option_map_or}
use Rattle.std.proofs.Math.Bool.{or-true}
use Rattle.std.proofs.lemmas.List.{append_assoc}
use Rattle.std.proofs.lemmas.List.Elements.{All-nil, All-cons, All-head, All-tail, All-append, All-from_recursion}
use Rattle.std.proofs.lemmas.Option.{IfSome_then, slice_get_read}
use Rattle.sysmem_counts.specs.declared.field.Field.{Field}
use Rattle.sysmem_counts.specs.declared.field.Field.TheVariants.{PixelFormat, ColorSpaces, MinSizeBytes, MaxSizeBytes, PermittedHeaps, PhysicallyContiguousRequired, SecureRequired, CpuDomainSupported, RamDomainSupported, InaccessibleDomainSupported, Usage}
use Rattle.sysmem_counts.specs.declared.field.Field.TheVariants as field
use Rattle.sysmem_image.proofs.CallerLemmas.{keeps_named}
use Rattle.sysmem_image.specs.declared.bounds.ImageBounds.{ImageBounds}
use Rattle.sysmem_image.specs.declared.entry.Entry.{Entry}
use Rattle.sysmem_image.specs.Bounds.{KeepsField, IsFirstFailing}
use Rattle.sysmem_image.specs.Entries.{effective, first_match, takes_colour}
use Rattle.sysmem_image.specs.Fields.{Bound, MinSize, MaxSize, SizeAlignment, MinBytesPerRow, MaxBytesPerRow, BytesPerRowDivisor, StartOffsetDivisor, DisplayRectAlignment, RequiredMinSize, RequiredMaxSize, MaxWidthTimesHeight, all_bounds, field_of, number_of, fields_before, KeepsIn, KeepsEach}
use Rattle.sysmem_memory.specs.Heap.{HeapFacts}
use Rattle.sysmem_memory.specs.PlaceTable.{refuses_by, place_fields, first_refusing}
use Rattle.sysmem_merge.specs.declared.settings.Settings.{Settings}
use Rattle.sysmem_merge.specs.Demands.{offer_demand}
use Rattle.sysmem_merge.specs.Failing.{FailsIn, IsFirstUncovered, offer_fields, size_fields}
use Rattle.sysmem_merge.specs.First.{IsFirstOf}
use Rattle.sysmem_merge.specs.Offers.{has_format, has_colour, entry_bounds, AcceptsOffer}
use Rattle.sysmem_merge.specs.Settings.{CoversOn}
use Rattle.sysmem_merge.proofs.Accepting.{covers_when}
use Rattle.negotiation_inputs.specs.Participant.{Participant}
use Rattle.negotiation_inputs.specs.Platform.{PlatformFacts}

-- the field fails in a bound of the participant's entry for the offer, or in the place
abbrev pub FailsElse : Field → HeapFacts → Settings → Participant → Type 0
FailsElse field heap s p = IsSomeAnd (entry_bounds s.offer (offer_demand p)) (λ b. ¬ KeepsField field s.bounds b)
    ⊎ (refuses_by field p.memory p.usage heap s.place.coherency ≡ true)

itself : (P : Type 0) → P ↔ P
itself P = (λ x. x, λ x. x)

-- a field that is neither the offer's nor a size's fails in a bound or in the place
pub fails_else : (field : Field) (heap : HeapFacts) (s : Settings) (p : Participant) → field ≢ PixelFormat → field ≢ ColorSpaces → field ≢ MinSizeBytes → field ≢ MaxSizeBytes
    → FailsElse field heap s p ↔ FailsIn field heap s p
fails_else PixelFormat heap s p f c least most = absurd (f refl)
fails_else ColorSpaces heap s p f c least most = absurd (c refl)
fails_else MinSizeBytes heap s p f c least most = absurd (least refl)
fails_else MaxSizeBytes heap s p f c least most = absurd (most refl)
fails_else field heap s p f c least most = itself (FailsElse field heap s p)

-- a bound's field fails in a bound or in the place
bound_else : (f : Bound) (heap : HeapFacts) (s : Settings) (p : Participant) → FailsIn (field_of f) heap s p → FailsElse (field_of f) heap s p
bound_else MinSize heap s p fails = fails
bound_else MaxSize heap s p fails = fails
bound_else SizeAlignment heap s p fails = fails
bound_else MinBytesPerRow heap s p fails = fails
bound_else MaxBytesPerRow heap s p fails = fails
bound_else BytesPerRowDivisor heap s p fails = fails
bound_else StartOffsetDivisor heap s p fails = fails
bound_else DisplayRectAlignment heap s p fails = fails
bound_else RequiredMinSize heap s p fails = fails
bound_else RequiredMaxSize heap s p fails = fails
bound_else MaxWidthTimesHeight heap s p fails = fails

-- and the other way round
else_bound : (f : Bound) (heap : HeapFacts) (s : Settings) (p : Participant) → FailsElse (field_of f) heap s p → FailsIn (field_of f) heap s p
else_bound MinSize heap s p fails = fails
else_bound MaxSize heap s p fails = fails
else_bound SizeAlignment heap s p fails = fails
else_bound MinBytesPerRow heap s p fails = fails
else_bound MaxBytesPerRow heap s p fails = fails
else_bound BytesPerRowDivisor heap s p fails = fails
else_bound StartOffsetDivisor heap s p fails = fails
else_bound DisplayRectAlignment heap s p fails = fails
else_bound RequiredMinSize heap s p fails = fails
else_bound RequiredMaxSize heap s p fails = fails
else_bound MaxWidthTimesHeight heap s p fails = fails

-- no bound's field refuses a place
bound_allows : (f : Bound) (heap : HeapFacts) (s : Settings) (p : Participant) → refuses_by (field_of f) p.memory p.usage heap s.place.coherency ≡ false
bound_allows MinSize heap s p = refl
bound_allows MaxSize heap s p = refl
bound_allows SizeAlignment heap s p = refl
bound_allows MinBytesPerRow heap s p = refl
bound_allows MaxBytesPerRow heap s p = refl
bound_allows BytesPerRowDivisor heap s p = refl
bound_allows StartOffsetDivisor heap s p = refl
bound_allows DisplayRectAlignment heap s p = refl
bound_allows RequiredMinSize heap s p = refl
bound_allows RequiredMaxSize heap s p = refl
bound_allows MaxWidthTimesHeight heap s p = refl

-- the bounds that stand after one in the table
abbrev fields_after : Bound → List Bound
fields_after f = filter (λ g. nat_lt (number_of f) (number_of g)) all_bounds

-- the table is what stands before a bound, the bound, and what stands after it
table_at : (f : Bound) → map field_of all_bounds ≡ map field_of (fields_before f) ++ field_of f ∷ map field_of (fields_after f)
table_at MinSize = refl
table_at MaxSize = refl
table_at SizeAlignment = refl
table_at MinBytesPerRow = refl
table_at MaxBytesPerRow = refl
table_at BytesPerRowDivisor = refl
table_at StartOffsetDivisor = refl
table_at DisplayRectAlignment = refl
table_at RequiredMinSize = refl
table_at RequiredMaxSize = refl
table_at MaxWidthTimesHeight = refl

-- what is so and not so of an option's value can't be
some_clash : {X : Type 0} (o : Option X) (P Q : X → Type 0) → ((x : X) → P x → ¬ Q x) → IfSome o P → IsSomeAnd o Q → ⊥
some_clash None P Q clash p q = q
some_clash (Some x) P Q clash p q = clash x p q

-- settings don't fail in the field of a bound that they keep to
bound_kept : (f : Bound) (heap : HeapFacts) (s : Settings) (p : Participant) → IfSome (entry_bounds s.offer (offer_demand p)) (KeepsIn f s.bounds) → ¬ FailsIn (field_of f) heap s p
bound_kept f heap s p kept fails = elim (bound_else f heap s p fails) as (λ _. ⊥) [
  | inl bounds ↦ some_clash (entry_bounds s.offer (offer_demand p)) (KeepsIn f s.bounds) (λ b. ¬ KeepsField (field_of f) s.bounds b) (λ b keeps failing. failing ((keeps_named f s.bounds b).0 keeps)) kept bounds
  | inr refuses ↦ cc (refuses, bound_allows f heap s p)
]

-- nor in those of bounds of a list
each_kept : (fs : List Bound) (heap : HeapFacts) (s : Settings) (p : Participant) (b : ImageBounds) → entry_bounds s.offer (offer_demand p) ≡ Some b → KeepsEach fs s.bounds b
    → All (λ f. ¬ FailsIn f heap s p) (map field_of fs)
each_kept [] heap s p b is kept = All-nil (λ f. ¬ FailsIn f heap s p)
each_kept (f ∷ fs) heap s p b is kept =
    All-cons (λ f. ¬ FailsIn f heap s p) (field_of f) (map field_of fs) (bound_kept f heap s p (subst (λ o. IfSome o (KeepsIn f s.bounds)) (sym is) kept.0)) (each_kept fs heap s p b is kept.1)

-- the first of a list is the first of a longer one
pub first_ahead : (xs ys : List Field) (field : Field) (heap : HeapFacts) (s : Settings) (p : Participant) → IsFirstOf (λ f. FailsIn f heap s p) xs field → IsFirstOf (λ f. FailsIn f heap s p) (xs ++ ys) field
first_ahead xs ys field heap s p first = record {
  earlier = first.earlier;
  later = first.later ++ ys;
  listed = ap (λ zs. zs ++ ys) first.listed ∙ append_assoc first.earlier (field ∷ first.later) ys;
  holds = first.holds;
  before = first.before;
}

-- behind fields that don't fail too
pub first_behind : (xs ys : List Field) (field : Field) (heap : HeapFacts) (s : Settings) (p : Participant) → All (λ f. ¬ FailsIn f heap s p) xs → IsFirstOf (λ f. FailsIn f heap s p) ys field
    → IsFirstOf (λ f. FailsIn f heap s p) (xs ++ ys) field
first_behind xs ys field heap s p none first = record {
  earlier = xs ++ first.earlier;
  later = first.later;
  listed = ap (λ zs. xs ++ zs) first.listed ∙ sym (append_assoc xs first.earlier (field ∷ first.later));
  holds = first.holds;
  before = All-append (λ f. ¬ FailsIn f heap s p) xs first.earlier none first.before;
}

-- where a test of each field of a list is exact, the first that passes it is the
-- first that fails the participant
found_first : (test : Field → Bool) (fields : List Field) (heap : HeapFacts) (s : Settings) (p : Participant) → All (λ f. FailsIn f heap s p ↔ (test f ≡ true)) fields
    → IfSome (find test fields) (λ field. IsFirstOf (λ f. FailsIn f heap s p) fields field)
found_first test [] heap s p exact = tt
found_first test (x ∷ xs) heap s p exact =
    at (test x) refl (found_first test xs heap s p (All-tail (λ f. FailsIn f heap s p ↔ (test f ≡ true)) x xs exact)) where
      Fails : Field → Type 0
      Fails f = FailsIn f heap s p

      here : Fails x ↔ (test x ≡ true)
      here = All-head (λ f. FailsIn f heap s p ↔ (test f ≡ true)) x xs exact

      at : (b : Bool) → test x ≡ b → IfSome (find test xs) (λ field. IsFirstOf (λ f. FailsIn f heap s p) xs field) → IfSome (cond b (Some x) (find test xs)) (λ field. IsFirstOf (λ f. FailsIn f heap s p) (x ∷ xs) field)
      at true is rest = record { earlier = []; later = xs; listed = refl; holds = here.1 is; before = All-nil (λ f. ¬ FailsIn f heap s p) }
      at false is rest = IfSome_then (find test xs) rest (λ field first. first_behind (x ∷ []) xs field heap s p
          (All-cons (λ f. ¬ FailsIn f heap s p) x [] (λ fails. cc (is, here.0 fails)) (All-nil (λ f. ¬ FailsIn f heap s p))) first)

-- whether a field is one of bounds
abbrev is_bound : Field → Bool
is_bound field.MinSize = true
is_bound field.MaxSize = true
is_bound field.SizeAlignment = true
is_bound field.MinBytesPerRow = true
is_bound field.MaxBytesPerRow = true
is_bound field.BytesPerRowDivisor = true
is_bound field.StartOffsetDivisor = true
is_bound field.DisplayRectAlignment = true
is_bound field.RequiredMinSize = true
is_bound field.RequiredMaxSize = true
is_bound field.MaxWidthTimesHeight = true
is_bound _ = false

bound_is : (f : Bound) → is_bound (field_of f) ≡ true
bound_is MinSize = refl
bound_is MaxSize = refl
bound_is SizeAlignment = refl
bound_is MinBytesPerRow = refl
bound_is MaxBytesPerRow = refl
bound_is BytesPerRowDivisor = refl
bound_is StartOffsetDivisor = refl
bound_is DisplayRectAlignment = refl
bound_is RequiredMinSize = refl
bound_is RequiredMaxSize = refl
bound_is MaxWidthTimesHeight = refl

-- bounds keep to others in a field that isn't one of bounds
no_bound : (field : Field) (a b : ImageBounds) → is_bound field ≡ false → KeepsField field a b
no_bound field a b none f is = absurd (cc (none, is, bound_is f))

-- a field that names no bound fails where it refuses the place
place_exact : (field : Field) (heap : HeapFacts) (s : Settings) (p : Participant) → is_bound field ≡ false → FailsElse field heap s p ↔ (refuses_by field p.memory p.usage heap s.place.coherency ≡ true)
place_exact field heap s p none = (
  λ fails. elim fails as (λ _. refuses_by field p.memory p.usage heap s.place.coherency ≡ true) [
    | inl bounds ↦ absurd (some_clash (entry_bounds s.offer (offer_demand p)) (λ _. ⊤) (λ b. ¬ KeepsField field s.bounds b) (λ b _ failing. failing (no_bound field s.bounds b none)) (if_any (entry_bounds s.offer (offer_demand p))) bounds)
    | inr refuses ↦ refuses
  ],
  λ refuses. inr refuses,
) where
  if_any : {X : Type 0} (o : Option X) → IfSome o (λ _. ⊤)
  if_any None = tt
  if_any (Some x) = tt

-- the first field that refuses the place is the first of its fields that fails
pub first_of_place : (heap : HeapFacts) (s : Settings) (p : Participant) (r : Option Field) → r ≡ first_refusing p.memory p.usage heap s.place.coherency
    → IfSome r (λ field. IsFirstOf (λ f. FailsIn f heap s p) place_fields field)
first_of_place heap s p r is = subst (λ o. IfSome o (λ field. IsFirstOf (λ f. FailsIn f heap s p) place_fields field)) (sym is)
    (found_first (λ f. refuses_by f p.memory p.usage heap s.place.coherency) place_fields heap s p
    (All-from_recursion (λ f. FailsIn f heap s p ↔ (refuses_by f p.memory p.usage heap s.place.coherency ≡ true)) place_fields (
      place_exact PermittedHeaps heap s p refl,
      (
        place_exact PhysicallyContiguousRequired heap s p refl,
        (
          place_exact SecureRequired heap s p refl,
          (
            place_exact CpuDomainSupported heap s p refl,
            (place_exact RamDomainSupported heap s p refl, (place_exact InaccessibleDomainSupported heap s p refl, (place_exact Usage heap s p refl, tt))),
          ),
        ),
      ),
    )))

-- a participant that takes the offer and the bounds doesn't fail in their fields
pub offer_kept : (heap : HeapFacts) (s : Settings) (p : Participant) → AcceptsOffer s.offer s.bounds (offer_demand p) → All (λ f. ¬ FailsIn f heap s p) offer_fields
offer_kept heap s p accepts = All-from_recursion (λ f. ¬ FailsIn f heap s p) offer_fields
    (λ fails. cc (fails, accepts.format), (λ fails. cc (fails, accepts.colour), all_kept)) where
      kept : (f : Bound) → ¬ FailsIn (field_of f) heap s p
      kept f = bound_kept f heap s p (IfSome_then (entry_bounds s.offer (offer_demand p)) accepts.bounds (λ b tight. tight f))

      all_kept : AllByRecursion (λ f. ¬ FailsIn f heap s p) (map field_of all_bounds)
      all_kept = (kept MinSize, (kept MaxSize, (kept SizeAlignment, (kept MinBytesPerRow, (kept MaxBytesPerRow, (kept BytesPerRowDivisor, (kept StartOffsetDivisor, (kept DisplayRectAlignment, (kept RequiredMinSize, (kept RequiredMaxSize, (kept MaxWidthTimesHeight, tt)))))))))))

-- nor one that takes the size in the sizes
pub size_kept : (heap : HeapFacts) (s : Settings) (p : Participant) → p.memory.min_size_bytes ≤ s.size_bytes → s.size_bytes ≤ p.memory.max_size_bytes → All (λ f. ¬ FailsIn f heap s p) size_fields
size_kept heap s p least most = All-from_recursion (λ f. ¬ FailsIn f heap s p) size_fields (λ fails. omega (arith, fails, least), (λ fails. omega (arith, fails, most), tt))

-- a size below the least that a participant takes fails first in it
pub first_least : (heap : HeapFacts) (s : Settings) (p : Participant) → s.size_bytes < p.memory.min_size_bytes → IsFirstOf (λ f. FailsIn f heap s p) size_fields MinSizeBytes
first_least heap s p below = record { earlier = []; later = MaxSizeBytes ∷ []; listed = refl; holds = below; before = All-nil (λ f. ¬ FailsIn f heap s p) }

-- a size above the greatest, and not below the least, fails first in that
pub first_most : (heap : HeapFacts) (s : Settings) (p : Participant) → p.memory.min_size_bytes ≤ s.size_bytes → p.memory.max_size_bytes < s.size_bytes → IsFirstOf (λ f. FailsIn f heap s p) size_fields MaxSizeBytes
first_most heap s p least above = record {
  earlier = MinSizeBytes ∷ [];
  later = [];
  listed = refl;
  holds = above;
  before = All-cons (λ f. ¬ FailsIn f heap s p) MinSizeBytes [] (λ fails. omega (arith, fails, least)) (All-nil (λ f. ¬ FailsIn f heap s p));
}

-- an offer for which a participant with entries has none fails first
pub first_format : (heap : HeapFacts) (s : Settings) (p : Participant) → (length p.entries == 0) ≡ false → first_match s.offer p.entries ≡ None → IsFirstOf (λ f. FailsIn f heap s p) offer_fields PixelFormat
first_format heap s p some none = record {
  earlier = [];
  later = ColorSpaces ∷ map field_of all_bounds;
  listed = refl;
  holds = ap (λ x. length p.entries == 0 || is_some x) none ∙ ap (λ x. x || false) some;
  before = All-nil (λ f. ¬ FailsIn f heap s p);
}

-- where there is an entry the format doesn't fail
format_kept : (heap : HeapFacts) (s : Settings) (p : Participant) (entry : Entry) → Some entry ≡ first_match s.offer p.entries → ¬ FailsIn PixelFormat heap s p
format_kept heap s p entry found fails = cc (fails, ap (λ x. length p.entries == 0 || is_some x) (sym found) ∙ or-true (length p.entries == 0))

-- an entry that lacks the colour space fails first
pub first_colour : (heap : HeapFacts) (s : Settings) (p : Participant) (entry : Entry) → Some entry ≡ first_match s.offer p.entries → takes_colour s.offer entry ≡ false
    → IsFirstOf (λ f. FailsIn f heap s p) offer_fields ColorSpaces
first_colour heap s p entry found lacks = record {
  earlier = PixelFormat ∷ [];
  later = map field_of all_bounds;
  listed = refl;
  holds = ap (λ x. option_map_or (takes_colour s.offer) x true) (sym found) ∙ lacks;
  before = All-cons (λ f. ¬ FailsIn f heap s p) PixelFormat [] (format_kept heap s p entry found) (All-nil (λ f. ¬ FailsIn f heap s p));
}

-- where the entry takes the colour space, the first of its bounds that fails is the first field
pub first_bound : (heap : HeapFacts) (s : Settings) (p : Participant) (entry : Entry) (field : Field) → Some entry ≡ first_match s.offer p.entries → takes_colour s.offer entry ≡ true
    → IsFirstFailing field s.bounds (effective s.offer entry) → IsFirstOf (λ f. FailsIn f heap s p) offer_fields field
first_bound heap s p entry field found takes first = subst (λ f. IsFirstOf (λ f. FailsIn f heap s p) offer_fields f) (sym first.named) (record {
  earlier = PixelFormat ∷ ColorSpaces ∷ map field_of (fields_before first.bound);
  later = map field_of (fields_after first.bound);
  listed = ap (λ zs. PixelFormat ∷ ColorSpaces ∷ zs) (table_at first.bound);
  holds = else_bound first.bound heap s p (inl (subst (λ o. IsSomeAnd o (λ b. ¬ KeepsField (field_of first.bound) s.bounds b)) (sym asked) (λ keeps. first.fails ((keeps_named first.bound s.bounds (effective s.offer entry)).1 keeps))));
  before = All-append (λ f. ¬ FailsIn f heap s p) (PixelFormat ∷ ColorSpaces ∷ []) (map field_of (fields_before first.bound))
      (All-from_recursion (λ f. ¬ FailsIn f heap s p) (PixelFormat ∷ ColorSpaces ∷ []) (format_kept heap s p entry found, (λ fails. cc (fails, colour), tt)))
      (each_kept (fields_before first.bound) heap s p (effective s.offer entry) asked first.before);
}) where
  asked : entry_bounds s.offer (offer_demand p) ≡ Some (effective s.offer entry)
  asked = ap (option_map (effective s.offer)) (sym found)

  colour : has_colour s.offer (offer_demand p) ≡ true
  colour = ap (λ x. option_map_or (takes_colour s.offer) x true) (sym found) ∙ takes

-- what is known where an option is none
pub none_of : {X : Type 0} (r : Option X) (P : Type 0) → is_some r ≡ false → IfNone r P → P
none_of None P is p = p
none_of (Some x) P is p = cc

-- a heap that is read by its index is the platform's
pub there : (read heaps : List HeapFacts) (index : ℕ) (heap : HeapFacts) → read ≡ heaps → index < length heaps → heap ≡ get_or read index heap → slice_get heaps index ≡ Some heap
there read heaps index heap same below is =
    subst (λ xs. slice_get xs index ≡ Some heap) same (slice_get_read read _ index heap refl (subst (λ xs. index < length xs) (sym same) below) is)

-- the first that fails among the offer's fields is the first of all
pub offer_uncovered : (platform : PlatformFacts) (s : Settings) (p : Participant) (heap : HeapFacts) (r : Option Field) → slice_get platform.heaps s.place.heap ≡ Some heap
    → IfSome r (λ field. IsFirstOf (λ f. FailsIn f heap s p) offer_fields field) → IfSome r (λ field. IsFirstUncovered field platform s p)
offer_uncovered platform s p heap r here first =
    IfSome_then r first (λ field x. record { heap = heap; has = here; first = first_ahead offer_fields (size_fields ++ place_fields) field heap s p x })

-- among the size's it is where the offer's don't fail
pub size_uncovered : (platform : PlatformFacts) (s : Settings) (p : Participant) (heap : HeapFacts) (offer size : Option Field) → slice_get platform.heaps s.place.heap ≡ Some heap
    → is_some offer ≡ false → IfNone offer (AcceptsOffer s.offer s.bounds (offer_demand p))
    → IfSome size (λ field. IsFirstOf (λ f. FailsIn f heap s p) size_fields field) → IfSome size (λ field. IsFirstUncovered field platform s p)
size_uncovered platform s p heap offer size here none kept first = IfSome_then size first (λ field x. record {
  heap = heap;
  has = here;
  first = first_behind offer_fields (size_fields ++ place_fields) field heap s p (offer_kept heap s p (none_of offer (AcceptsOffer s.offer s.bounds (offer_demand p)) none kept))
      (first_ahead size_fields place_fields field heap s p x);
})

-- among the place's it is where neither fail
pub place_uncovered : (platform : PlatformFacts) (s : Settings) (p : Participant) (heap : HeapFacts) (offer size place : Option Field) → slice_get platform.heaps s.place.heap ≡ Some heap
    → is_some offer ≡ false → IfNone offer (AcceptsOffer s.offer s.bounds (offer_demand p))
    → is_some size ≡ false → IfNone size ((p.memory.min_size_bytes ≤ s.size_bytes) × (s.size_bytes ≤ p.memory.max_size_bytes))
    → place ≡ first_refusing p.memory p.usage heap s.place.coherency → IfSome place (λ field. IsFirstUncovered field platform s p)
place_uncovered platform s p heap offer size place here none kept none_too kept_too is =
    let sizes = none_of size ((p.memory.min_size_bytes ≤ s.size_bytes) × (s.size_bytes ≤ p.memory.max_size_bytes)) none_too kept_too in
    IfSome_then place (first_of_place heap s p place is) (λ field x. record {
      heap = heap;
      has = here;
      first = first_behind offer_fields (size_fields ++ place_fields) field heap s p (offer_kept heap s p (none_of offer (AcceptsOffer s.offer s.bounds (offer_demand p)) none kept))
          (first_behind size_fields place_fields field heap s p (size_kept heap s p sizes.0 sizes.1) x);
    })

-- where none fails the participant accepts the settings
pub none_uncovered : (platform : PlatformFacts) (s : Settings) (p : Participant) (heap : HeapFacts) (offer size place : Option Field) → slice_get platform.heaps s.place.heap ≡ Some heap
    → is_some offer ≡ false → IfNone offer (AcceptsOffer s.offer s.bounds (offer_demand p))
    → is_some size ≡ false → IfNone size ((p.memory.min_size_bytes ≤ s.size_bytes) × (s.size_bytes ≤ p.memory.max_size_bytes))
    → place ≡ first_refusing p.memory p.usage heap s.place.coherency → IfNone place (CoversOn platform s p)
none_uncovered platform s p heap offer size None here none kept none_too kept_too is =
    covers_when platform s p heap here (sym is) (none_of size ((p.memory.min_size_bytes ≤ s.size_bytes) × (s.size_bytes ≤ p.memory.max_size_bytes)) none_too kept_too)
    (none_of offer (AcceptsOffer s.offer s.bounds (offer_demand p)) none kept)
none_uncovered platform s p heap offer size (Some field) here none kept none_too kept_too is = tt

-- a fact that isn't so is false
not_false : (r fact : Bool) → r ≡ fact → IsTrue (not r) ↔ (fact ≡ false)
not_false true fact same = (λ never. cc (never), λ fails. cc (same, fails))
not_false false fact same = (λ _. sym same, λ _. refl)

-- a test of the format is exact
pub format_exact : (field : Field) (heap : HeapFacts) (s : Settings) (p : Participant) (r : Bool) → field ≡ PixelFormat → r ≡ has_format s.offer (offer_demand p) → IsTrue (not r) ↔ FailsIn field heap s p
format_exact field heap s p r is same = subst (λ f. IsTrue (not r) ↔ FailsIn f heap s p) (sym is) (not_false r (has_format s.offer (offer_demand p)) same)

-- and one of the colour space
pub colour_exact : (field : Field) (heap : HeapFacts) (s : Settings) (p : Participant) (r : Bool) → field ≡ ColorSpaces → r ≡ has_colour s.offer (offer_demand p) → IsTrue (not r) ↔ FailsIn field heap s p
colour_exact field heap s p r is same = subst (λ f. IsTrue (not r) ↔ FailsIn f heap s p) (sym is) (not_false r (has_colour s.offer (offer_demand p)) same)

-- a bound that doesn't fail leaves the place to be tested
pub place_test : (field : Field) (heap : HeapFacts) (s : Settings) (p : Participant) (bounds place : Bool) → FailsElse field heap s p ↔ FailsIn field heap s p
    → IsTrue bounds ↔ IsSomeAnd (entry_bounds s.offer (offer_demand p)) (λ b. ¬ KeepsField field s.bounds b) → bounds ≡ false
    → place ≡ refuses_by field p.memory p.usage heap s.place.coherency → IsTrue place ↔ FailsIn field heap s p
place_test field heap s p bounds place else exact none same = (
  λ yes. else.0 (inr (sym same ∙ yes)),
  λ fails. elim (else.1 fails) as (λ _. IsTrue place) [ inl b ↦ absurd (cc (exact.1 b, none)) | inr refuses ↦ same ∙ refuses ],
)
