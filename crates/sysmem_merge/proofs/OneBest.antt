-- Participants have one best settings.
use denote.Enum.Bare.{Bare, sameb, same_true, same_false}
use denote.Enum.Declared.{Declared}
use Rattle.std.proofs.Common.{arith, ℕ, zero, suc, ◌≡◌, ◌≢◌, ◌≤◌, ◌⊎◌, inl, inr, Bool, true, false, List, [], ◌∷◌, Some, Contains, slice_get, refl, sym, ap, ◌∙◌}
use Rattle.std.proofs.Math.Nat.{le_antisymm}
use Rattle.std.proofs.lemmas.Bool.{cases_lt}
use Rattle.std.proofs.lemmas.Option.{same_Some}
use Rattle.sysmem_formats.specs.contracts.colour_space.ColourSpace.{the_type as colour_type}
use Rattle.sysmem_formats.specs.contracts.modifier.Modifier.{the_type as modifier_type}
use Rattle.sysmem_formats.specs.contracts.pixel_format.PixelFormat.{the_type as format_type}
use Rattle.sysmem_formats.specs.declared.offer.Offer.{Offer}
use Rattle.sysmem_formats.specs.declared.offer.Offer.TheVariants.{NoImage, Image}
use Rattle.sysmem_formats.specs.declared.offer.Pair.{Pair}
use Rattle.sysmem_image.specs.contracts.bounds.ImageBounds.{the_type as bounds_type}
use Rattle.sysmem_image.specs.declared.bounds.ImageBounds.{ImageBounds}
use Rattle.sysmem_image.specs.declared.size.Size.{Size}
use Rattle.sysmem_image.specs.Bounds.{IsTighter}
use Rattle.sysmem_image.specs.Fields.{MinSize, MaxSize, SizeAlignment, MinBytesPerRow, MaxBytesPerRow, BytesPerRowDivisor, StartOffsetDivisor, DisplayRectAlignment, RequiredMinSize, RequiredMaxSize, MaxWidthTimesHeight, Width, Height}
use Rattle.sysmem_image.proofs.CallerLemmas.{tighter_both}
use Rattle.sysmem_memory.proofs.CallerLemmas.{places_are_in_one_order}
use Rattle.offer_fits.specs.contracts.fit.Fit.{the_type as fit_type}
use Rattle.sysmem_merge.specs.contracts.settings.Settings.{the_type as settings_type}
use Rattle.sysmem_merge.specs.Best.{IsEarlierOffer, IsNoBetter}
use Rattle.sysmem_merge.specs.Laws.{OneBest, OneFit}
use Rattle.sysmem_merge.specs.Settings.{MeetsLoosely}
use Rattle.negotiation_inputs.specs.Platform.{offers_of}
use Rattle.sysmem_merge.proofs.FirstFits.{place_of}
use Rattle.sysmem_merge.proofs.Together.{loosely}

-- values of an enum without fields are equal or not
enum_cases : (D : Declared) → Bare D.parts → (a b : D.D) → (a ≡ b) ⊎ (a ≢ b)
enum_cases D bare a b = by_test (sameb D a b) refl where
  by_test : (t : Bool) → sameb D a b ≡ t → (a ≡ b) ⊎ (a ≢ b)
  by_test true is = inl (same_true D bare a b is)
  by_test false is = inr (same_false D a b is)

-- pairs are equal or not
pair_cases : (p q : Pair) → (p ≡ q) ⊎ (p ≢ q)
pair_cases p q = elim (enum_cases format_type tt p.format q.format) as (λ _. (p ≡ q) ⊎ (p ≢ q)) [
  | inr differ ↦ inr (λ same. differ (ap (λ (r : Pair). r.format) same))
  | inl formats ↦ elim (enum_cases modifier_type tt p.modifier q.modifier) as (λ _. (p ≡ q) ⊎ (p ≢ q)) [
    | inr differ ↦ inr (λ same. differ (ap (λ (r : Pair). r.modifier) same))
    | inl modifiers ↦ inl (ap (λ f. record { format = f; modifier = p.modifier }) formats ∙ ap (λ m. record { format = q.format; modifier = m }) modifiers)
  ]
]

-- offers are equal or not
offer_cases : (a b : Offer) → (a ≡ b) ⊎ (a ≢ b)
offer_cases NoImage NoImage = inl refl
offer_cases NoImage (Image q d) = inr (λ same. cc)
offer_cases (Image p c) NoImage = inr (λ same. cc)
offer_cases (Image p c) (Image q d) = elim (pair_cases p q) as (λ _. (Image p c ≡ Image q d) ⊎ (Image p c ≢ Image q d)) [
  | inr differ ↦ inr (λ same. differ (cc))
  | inl pairs ↦ elim (enum_cases colour_type tt c d) as (λ _. (Image p c ≡ Image q d) ⊎ (Image p c ≢ Image q d)) [
    | inr differ ↦ inr (λ same. differ (cc))
    | inl colours ↦ inl (cc)
  ]
]

-- an offer's first place in a list
record IsFirstAt (os : List Offer) (o : Offer) (k : ℕ) : Type 0 where
  here : slice_get os k ≡ Some o
  first : (j : ℕ) → slice_get os j ≡ Some o → k ≤ j

-- what has a place has a first one
first_at : (os : List Offer) (o : Offer) (k : ℕ) → slice_get os k ≡ Some o → (i : ℕ) × IsFirstAt os o i
first_at [] o k here = cc
first_at (p ∷ os) o k here = elim (offer_cases p o) as (λ _. (i : ℕ) × IsFirstAt (p ∷ os) o i) [
  | inl same ↦ (0, record { here = ap (λ q. Some q) same; first = λ j there. omega arith })
  | inr differ ↦ later (λ j there. first_at os o j there) k here differ
] where
  behind : (i : ℕ) → IsFirstAt os o i → p ≢ o → (j : ℕ) → slice_get (p ∷ os) j ≡ Some o → suc i ≤ j
  behind i at differ zero there = absurd (differ (same_Some p o there))
  behind i at differ (suc j) there = let before = at.first j there in omega arith

  later : ((j : ℕ) → slice_get os j ≡ Some o → (i : ℕ) × IsFirstAt os o i) → (k : ℕ) → slice_get (p ∷ os) k ≡ Some o → p ≢ o → (i : ℕ) × IsFirstAt (p ∷ os) o i
  later rest zero here differ = absurd (differ (same_Some p o here))
  later rest (suc k) here differ = let at = rest k here in (suc at.0, record { here = at.1.here; first = behind at.0 at.1 differ })

-- contained offers of which neither is earlier are one
same_offer : (os : List Offer) (a b : Offer) → Contains os a → Contains os b → ¬ (IsEarlierOffer os a b) → ¬ (IsEarlierOffer os b a) → a ≡ b
same_offer os a b has_a has_b not_before not_behind =
    let of_a = place_of os a has_a in
    let of_b = place_of os b has_b in
    let at_a = first_at os a of_a.0 of_a.2 in
    let at_b = first_at os b of_b.0 of_b.2 in
    elim (cases_lt at_a.0 at_b.0) as (λ _. a ≡ b) [
      | inl before ↦ absurd (not_before (record { index = at_a.0; here = at_a.1.here; before = λ k there. omega (arith, at_b.1.first k there) }))
      | inr not ↦ elim (cases_lt at_b.0 at_a.0) as (λ _. a ≡ b) [
        | inl behind ↦ absurd (not_behind (record { index = at_b.0; here = at_b.1.here; before = λ k there. omega (arith, at_a.1.first k there) }))
        | inr neither ↦
            let same : at_a.0 ≡ at_b.0 = omega arith in
            same_Some a b (sym at_a.1.here ∙ (ap (λ k. slice_get os k) same ∙ at_b.1.here))
      ]
    ]

-- sizes of the same sides are one
same_sizes : (a b : Size) → a.width ≡ b.width → a.height ≡ b.height → a ≡ b
same_sizes a b wide high =
    ap (λ w. record { width = w; height = a.height }) wide ∙ ap (λ h. record { width = b.width; height = h }) high

-- bounds that keep to each other are one
pub same_bounds : (a b : ImageBounds) → IsTighter a b → IsTighter b a → a ≡ b
same_bounds a b up down =
    let same = tighter_both a b up down in
    let min_size = same_sizes a.min_size b.min_size (same MinSize Width) (same MinSize Height) in
    let max_size = same_sizes a.max_size b.max_size (same MaxSize Width) (same MaxSize Height) in
    let size_alignment = same_sizes a.size_alignment b.size_alignment (same SizeAlignment Width) (same SizeAlignment Height) in
    let min_bytes_per_row : a.min_bytes_per_row ≡ b.min_bytes_per_row = same MinBytesPerRow Width in
    let max_bytes_per_row : a.max_bytes_per_row ≡ b.max_bytes_per_row = same MaxBytesPerRow Width in
    let bytes_per_row_divisor : a.bytes_per_row_divisor ≡ b.bytes_per_row_divisor = same BytesPerRowDivisor Width in
    let start_offset_divisor : a.start_offset_divisor ≡ b.start_offset_divisor = same StartOffsetDivisor Width in
    let display_rect_alignment = same_sizes a.display_rect_alignment b.display_rect_alignment (same DisplayRectAlignment Width) (same DisplayRectAlignment Height) in
    let required_min_size = same_sizes a.required_min_size b.required_min_size (same RequiredMinSize Width) (same RequiredMinSize Height) in
    let required_max_size = same_sizes a.required_max_size b.required_max_size (same RequiredMaxSize Width) (same RequiredMaxSize Height) in
    let max_width_times_height : a.max_width_times_height ≡ b.max_width_times_height = same MaxWidthTimesHeight Width in
    bounds_type.to_one a b (cc)

-- two fits that aren't better than each other are one
pub one_fit : OneFit
one_fit a b offer up down =
    let size : a.size_bytes ≡ b.size_bytes = le_antisymm down.size up.size in
    let bounds = same_bounds a.bounds b.bounds up.bounds down.bounds in
    fit_type.to_one a b (cc)

-- two best settings are one, part by part
pub one_best : OneBest
one_best whole platform ps a b of_a of_b =
    let met_a : MeetsLoosely platform ps a = loosely whole platform ps a of_a.meets in
    let met_b : MeetsLoosely platform ps b = loosely whole platform ps b of_b.meets in
    let up : IsNoBetter platform a b = of_b.best a of_a.meets in
    let down : IsNoBetter platform b a = of_a.best b of_b.meets in
    let offer = same_offer (offers_of platform) a.offer b.offer met_a.sound.offer met_b.sound.offer up.offer down.offer in
    let place = places_are_in_one_order a.place b.place (up.place offer) (down.place (sym offer)) in
    let count : a.count ≡ b.count = le_antisymm down.count up.count in
    let size : a.size_bytes ≡ b.size_bytes = le_antisymm (down.fit (sym offer) (sym place)).size (up.fit offer place).size in
    let bounds = same_bounds a.bounds b.bounds (up.fit offer place).bounds (down.fit (sym offer) (sym place)).bounds in
    settings_type.to_one a b (cc)
