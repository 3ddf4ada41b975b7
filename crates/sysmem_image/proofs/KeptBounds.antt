-- What is kept of a list, with one more, and the lines that are read from it.
use Rattle.std.proofs.Common.{◌≡◌, ◌↔◌, inl, inr, refl, ℕ, ◌≤◌, Bool, not, is_some, true, false, IsTrue, List, [], ◌∷◌, ◌++◌, Option, Some, None, IfSome, sym, subst}
use Rattle.std.specs.Option.{option_map}
use Rattle.sysmem_formats.specs.declared.offer.Offer.{Offer}
use Rattle.sysmem_image.specs.declared.bounds.ImageBounds.{ImageBounds}
use Rattle.sysmem_image.specs.declared.read.BoundsRead.{BoundsRead}
use Rattle.sysmem_image.specs.declared.size.Size.{Size}
use Rattle.sysmem_image.specs.Size.{IsSizeInRange}
use Rattle.sysmem_counts.specs.Bounds.{most_number}
use Rattle.sysmem_image.specs.Fields.{Bound, MinSize, MaxSize, SizeAlignment, MinBytesPerRow, MaxBytesPerRow, BytesPerRowDivisor, StartOffsetDivisor, DisplayRectAlignment, RequiredMinSize, RequiredMaxSize, MaxWidthTimesHeight, Side, Width, Height, Multiple, Keeps, rule_of, most, value, own_value}
use Rattle.sysmem_image.specs.Lines.{MeetsIn}
use Rattle.sysmem_image.specs.Merged.{IsMergeOf, IsMergedBy}
use Rattle.sysmem_image.specs.Multiples.{IsLcm, IsAboveLimit, IsJoined, IsSizeJoined}
use Rattle.sysmem_image.specs.Read.{size_in, number_in, kept_of, IsRead, AreRead}
use Rattle.sysmem_image.proofs.Rows.{more_by}
use Rattle.sysmem_image.proofs.Steps.{common_merged, none_above, meets_fewer}

-- a size whose dimensions stand for those of a field
pub size_read : (f : Bound) (o : Offer) (es : List ImageBounds) (s : Size) → IsMergeOf (Keeps (rule_of f)) (own_value o f Width) (value f Width) es s.width
    → IsMergeOf (Keeps (rule_of f)) (own_value o f Height) (value f Height) es s.height → IsRead f o es (Some (size_in s))
size_read f o es s w h Width = w
size_read f o es s w h Height = h

-- both dimensions of a size are up to a number
pub size_small : (s : Size) → IsSizeInRange s → (side : Side) → size_in s side ≤ most_number
size_small s small Width = small.width
size_small s small Height = small.height

-- the same of what is kept of a field of sizes
pub sizes_small : (k : Option Size) → IfSome k IsSizeInRange → IfSome (option_map size_in k) (λ m. (side : Side) → m side ≤ most_number)
sizes_small None small = tt
sizes_small (Some s) small = size_small s small

pub number_small : (k : Option ℕ) → IfSome k (λ n. n ≤ most_number) → IfSome (option_map number_in k) (λ m. (side : Side) → m side ≤ most_number)
number_small None small = tt
number_small (Some n) small = λ side. small

-- one more is merged into a size
pub size_more : (f : Bound) (o : Offer) (es : List ImageBounds) (b : ImageBounds) (a m : Size) → IsMergedBy (rule_of f) a.width (value f Width b) m.width → IsMergedBy (rule_of f) a.height (value f Height b) m.height
    → IsRead f o es (Some (size_in a)) → IsRead f o (es ++ b ∷ []) (Some (size_in m))
size_more f o es b a m w h old = size_read f o (es ++ b ∷ []) m
    (more_by (rule_of f) (own_value o f Width) (value f Width) es b a.width m.width w (old Width))
    (more_by (rule_of f) (own_value o f Height) (value f Height) es b a.height m.height h (old Height))

-- one more is merged into a number
pub number_more : (f : Bound) (o : Offer) (es : List ImageBounds) (b : ImageBounds) (a m : ℕ) → ((side : Side) → IsMergedBy (rule_of f) a (value f side b) m)
    → IsRead f o es (Some (number_in a)) → IsRead f o (es ++ b ∷ []) (Some (number_in m))
number_more f o es b a m is old = λ side. more_by (rule_of f) (own_value o f side) (value f side) es b a m (is side) (old side)

-- a number above whose common multiples with one more there is nothing up to the limit
lost : (f : Bound) → rule_of f ≡ Multiple → (side : Side) (o : Offer) (es : List ImageBounds) (b : ImageBounds) (a more : ℕ) → value f side b ≡ more → IsAboveLimit a more
    → IsMergeOf (Keeps (rule_of f)) (own_value o f side) (value f side) es a → ¬ MeetsIn f o (es ++ b ∷ [])
lost f rule side o es b a more same above old = λ meet.
    none_above (own_value o f side) (value f side) es b a (subst (λ r. IsMergeOf (Keeps r) (own_value o f side) (value f side) es a) rule old) (subst (IsAboveLimit a) (sym same) above) (meet side)

-- what is merged by a common multiple
by_multiple : (f : Bound) → rule_of f ≡ Multiple → (a b more m : ℕ) → b ≡ more → IsLcm a more m → IsMergedBy (rule_of f) a b m
by_multiple f rule a b more m same lcm = subst (λ r. IsMergedBy r a b m) (sym rule) (subst (λ n. IsLcm a n m) (sym same) lcm)

-- one more joins an alignment or a divisor of one number
pub number_joined : (f : Bound) → rule_of f ≡ Multiple → (o : Offer) (es : List ImageBounds) (b : ImageBounds) (a m : Option ℕ) (more : ℕ) → ((side : Side) → value f side b ≡ more) → IsJoined a more m
    → IsRead f o es (option_map number_in a) → IsRead f o (es ++ b ∷ []) (option_map number_in m)
number_joined f rule o es b None m more same joined old = subst (λ k. IsRead f o (es ++ b ∷ []) (option_map number_in k)) (sym joined) (λ meet. old (meets_fewer f o es b meet))
number_joined f rule o es b (Some a) None more same joined old = lost f rule Width o es b a more (same Width) joined (old Width)
number_joined f rule o es b (Some a) (Some m) more same joined old = number_more f o es b a m (λ side. by_multiple f rule a (value f side b) more m (same side) joined) old

-- one more joins an alignment of two numbers
pub size_joined : (f : Bound) → rule_of f ≡ Multiple → (o : Offer) (es : List ImageBounds) (b : ImageBounds) (a m : Option Size) (more : Size) → value f Width b ≡ more.width → value f Height b ≡ more.height
    → IsSizeJoined a more m → IsRead f o es (option_map size_in a) → IsRead f o (es ++ b ∷ []) (option_map size_in m)
size_joined f rule o es b None m more w h joined old = subst (λ k. IsRead f o (es ++ b ∷ []) (option_map size_in k)) (sym joined) (λ meet. old (meets_fewer f o es b meet))
size_joined f rule o es b (Some a) None more w h joined old = elim joined as (λ _. ¬ MeetsIn f o (es ++ b ∷ [])) [
  | inl above ↦ lost f rule Width o es b a.width more.width w above (old Width)
  | inr above ↦ lost f rule Height o es b a.height more.height h above (old Height)
]
size_joined f rule o es b (Some a) (Some m) more w h joined old =
    size_more f o es b a m (by_multiple f rule a.width (value f Width b) more.width m.width w joined.width) (by_multiple f rule a.height (value f Height b) more.height m.height h joined.height) old

-- numbers that stand for those of a list are common multiples
pub meet_of : (f : Bound) → rule_of f ≡ Multiple → (o : Offer) (es : List ImageBounds) (m : Side → ℕ) → ((side : Side) → 1 ≤ m side) → ((side : Side) → m side ≤ most_number) → IsRead f o es (Some m) → MeetsIn f o es
meet_of f rule o es m some small old = λ side.
    common_merged (own_value o f side) (value f side) es (m side) (some side) (small side) (subst (λ r. IsMergeOf (Keeps r) (own_value o f side) (value f side) es (m side)) rule (old side))

-- nothing is kept of a field exactly where its numbers have no common multiples up to the limit
pub number_lacks : (f : Bound) → rule_of f ≡ Multiple → (o : Offer) (es : List ImageBounds) (k : Option ℕ) (test : Bool) → is_some k ≡ not test → IfSome k (λ n. 1 ≤ n) → IfSome (option_map number_in k) (λ m. (side : Side) → m side ≤ most_number)
    → IsRead f o es (option_map number_in k) → IsTrue test ↔ (¬ MeetsIn f o es)
number_lacks f rule o es None true same some small old = (λ _. old, λ _. refl)
number_lacks f rule o es None false same some small old = absurd (cc same)
number_lacks f rule o es (Some n) true same some small old = absurd (cc same)
number_lacks f rule o es (Some n) false same some small old = (λ no. absurd (cc no), λ none. absurd (none (meet_of f rule o es (number_in n) (λ _. some) small old)))

-- both dimensions of a size are 1 or more
size_some : (s : Size) → 1 ≤ s.width → 1 ≤ s.height → (side : Side) → 1 ≤ size_in s side
size_some s w h Width = w
size_some s w h Height = h

pub size_lacks : (f : Bound) → rule_of f ≡ Multiple → (o : Offer) (es : List ImageBounds) (k : Option Size) (test : Bool) → is_some k ≡ not test → IfSome k (λ s. 1 ≤ s.width) → IfSome k (λ s. 1 ≤ s.height)
    → IfSome (option_map size_in k) (λ m. (side : Side) → m side ≤ most_number) → IsRead f o es (option_map size_in k) → IsTrue test ↔ (¬ MeetsIn f o es)
size_lacks f rule o es None true same w h small old = (λ _. old, λ _. refl)
size_lacks f rule o es None false same w h small old = absurd (cc same)
size_lacks f rule o es (Some s) true same w h small old = absurd (cc same)
size_lacks f rule o es (Some s) false same w h small old = (λ no. absurd (cc no), λ none. absurd (none (meet_of f rule o es (size_in s) (size_some s w h) small old)))

-- where something is kept of a field, its numbers have common multiples up to the limit
pub number_meets : (f : Bound) → rule_of f ≡ Multiple → (o : Offer) (es : List ImageBounds) (k : Option ℕ) (n : ℕ) → k ≡ Some n → IfSome k (λ n. 1 ≤ n) → IfSome (option_map number_in k) (λ m. (side : Side) → m side ≤ most_number)
    → IsRead f o es (option_map number_in k) → MeetsIn f o es
number_meets f rule o es None n is some small old = absurd (cc is)
number_meets f rule o es (Some m) n is some small old = meet_of f rule o es (number_in m) (λ _. some) small old

pub sizes_meet : (f : Bound) → rule_of f ≡ Multiple → (o : Offer) (es : List ImageBounds) (k : Option Size) (s : Size) → k ≡ Some s → IfSome k (λ s. 1 ≤ s.width) → IfSome k (λ s. 1 ≤ s.height)
    → IfSome (option_map size_in k) (λ m. (side : Side) → m side ≤ most_number) → IsRead f o es (option_map size_in k) → MeetsIn f o es
sizes_meet f rule o es None s is w h small old = absurd (cc is)
sizes_meet f rule o es (Some m) s is w h small old = meet_of f rule o es (size_in m) (size_some m w h) small old

-- what is kept is in range where each of its numbers is
kept_small : (k : BoundsRead) → IsSizeInRange k.min_size → IsSizeInRange k.max_size → IfSome k.size_alignment IsSizeInRange → k.min_bytes_per_row ≤ most_number → k.max_bytes_per_row ≤ most_number → IfSome k.bytes_per_row_divisor (λ n. n ≤ most_number) → IfSome k.start_offset_divisor (λ n. n ≤ most_number) → IfSome k.display_rect_alignment IsSizeInRange → IsSizeInRange k.required_min_size → IsSizeInRange k.required_max_size → k.max_width_times_height ≤ 18446744073709551615
    → (f : Bound) → IfSome (kept_of f k) (λ m. (side : Side) → m side ≤ most f)
kept_small k n0 n1 n2 n3 n4 n5 n6 n7 n8 n9 n10 MinSize = size_small k.min_size n0
kept_small k n0 n1 n2 n3 n4 n5 n6 n7 n8 n9 n10 MaxSize = size_small k.max_size n1
kept_small k n0 n1 n2 n3 n4 n5 n6 n7 n8 n9 n10 SizeAlignment = sizes_small k.size_alignment n2
kept_small k n0 n1 n2 n3 n4 n5 n6 n7 n8 n9 n10 MinBytesPerRow = λ _. n3
kept_small k n0 n1 n2 n3 n4 n5 n6 n7 n8 n9 n10 MaxBytesPerRow = λ _. n4
kept_small k n0 n1 n2 n3 n4 n5 n6 n7 n8 n9 n10 BytesPerRowDivisor = number_small k.bytes_per_row_divisor n5
kept_small k n0 n1 n2 n3 n4 n5 n6 n7 n8 n9 n10 StartOffsetDivisor = number_small k.start_offset_divisor n6
kept_small k n0 n1 n2 n3 n4 n5 n6 n7 n8 n9 n10 DisplayRectAlignment = sizes_small k.display_rect_alignment n7
kept_small k n0 n1 n2 n3 n4 n5 n6 n7 n8 n9 n10 RequiredMinSize = size_small k.required_min_size n8
kept_small k n0 n1 n2 n3 n4 n5 n6 n7 n8 n9 n10 RequiredMaxSize = size_small k.required_max_size n9
kept_small k n0 n1 n2 n3 n4 n5 n6 n7 n8 n9 n10 MaxWidthTimesHeight = λ _. n10

-- what is kept stands for a list where each of its fields does
kept_each : (o : Offer) (es : List ImageBounds) (k : BoundsRead)
    → IsRead MinSize o es (Some (size_in k.min_size))
    → IsRead MaxSize o es (Some (size_in k.max_size))
    → IsRead SizeAlignment o es (option_map size_in k.size_alignment)
    → IsRead MinBytesPerRow o es (Some (number_in k.min_bytes_per_row))
    → IsRead MaxBytesPerRow o es (Some (number_in k.max_bytes_per_row))
    → IsRead BytesPerRowDivisor o es (option_map number_in k.bytes_per_row_divisor)
    → IsRead StartOffsetDivisor o es (option_map number_in k.start_offset_divisor)
    → IsRead DisplayRectAlignment o es (option_map size_in k.display_rect_alignment)
    → IsRead RequiredMinSize o es (Some (size_in k.required_min_size))
    → IsRead RequiredMaxSize o es (Some (size_in k.required_max_size))
    → IsRead MaxWidthTimesHeight o es (Some (number_in k.max_width_times_height))
    → (f : Bound) → IsRead f o es (kept_of f k)
kept_each o es k n0 n1 n2 n3 n4 n5 n6 n7 n8 n9 n10 MinSize = n0
kept_each o es k n0 n1 n2 n3 n4 n5 n6 n7 n8 n9 n10 MaxSize = n1
kept_each o es k n0 n1 n2 n3 n4 n5 n6 n7 n8 n9 n10 SizeAlignment = n2
kept_each o es k n0 n1 n2 n3 n4 n5 n6 n7 n8 n9 n10 MinBytesPerRow = n3
kept_each o es k n0 n1 n2 n3 n4 n5 n6 n7 n8 n9 n10 MaxBytesPerRow = n4
kept_each o es k n0 n1 n2 n3 n4 n5 n6 n7 n8 n9 n10 BytesPerRowDivisor = n5
kept_each o es k n0 n1 n2 n3 n4 n5 n6 n7 n8 n9 n10 StartOffsetDivisor = n6
kept_each o es k n0 n1 n2 n3 n4 n5 n6 n7 n8 n9 n10 DisplayRectAlignment = n7
kept_each o es k n0 n1 n2 n3 n4 n5 n6 n7 n8 n9 n10 RequiredMinSize = n8
kept_each o es k n0 n1 n2 n3 n4 n5 n6 n7 n8 n9 n10 RequiredMaxSize = n9
kept_each o es k n0 n1 n2 n3 n4 n5 n6 n7 n8 n9 n10 MaxWidthTimesHeight = n10

-- the two together
pub read_by : (o : Offer) (es : List ImageBounds) (k : BoundsRead) → IsSizeInRange k.min_size → IsSizeInRange k.max_size → IfSome k.size_alignment IsSizeInRange → k.min_bytes_per_row ≤ most_number → k.max_bytes_per_row ≤ most_number → IfSome k.bytes_per_row_divisor (λ n. n ≤ most_number) → IfSome k.start_offset_divisor (λ n. n ≤ most_number) → IfSome k.display_rect_alignment IsSizeInRange → IsSizeInRange k.required_min_size → IsSizeInRange k.required_max_size → k.max_width_times_height ≤ 18446744073709551615
    → IsRead MinSize o es (Some (size_in k.min_size))
    → IsRead MaxSize o es (Some (size_in k.max_size))
    → IsRead SizeAlignment o es (option_map size_in k.size_alignment)
    → IsRead MinBytesPerRow o es (Some (number_in k.min_bytes_per_row))
    → IsRead MaxBytesPerRow o es (Some (number_in k.max_bytes_per_row))
    → IsRead BytesPerRowDivisor o es (option_map number_in k.bytes_per_row_divisor)
    → IsRead StartOffsetDivisor o es (option_map number_in k.start_offset_divisor)
    → IsRead DisplayRectAlignment o es (option_map size_in k.display_rect_alignment)
    → IsRead RequiredMinSize o es (Some (size_in k.required_min_size))
    → IsRead RequiredMaxSize o es (Some (size_in k.required_max_size))
    → IsRead MaxWidthTimesHeight o es (Some (number_in k.max_width_times_height))
    → AreRead o es k
read_by o es k n0 n1 n2 n3 n4 n5 n6 n7 n8 n9 n10 m0 m1 m2 m3 m4 m5 m6 m7 m8 m9 m10 = record { in_range = kept_small k n0 n1 n2 n3 n4 n5 n6 n7 n8 n9 n10; each = kept_each o es k m0 m1 m2 m3 m4 m5 m6 m7 m8 m9 m10 }
