-- Of each offer a line is true of participants, or some bounds and a size of it suit them.
use Rattle.std.proofs.Common.{◌≡◌, ◌⊎◌, inl, inr, arith, ℕ, ◌^◌, ◌<◌, ◌≤◌, Bool, true, false, ◌&&◌, List, [], ◌∷◌, All, IfSome, Option, Some, None, refl, sym, subst}
use Rattle.std.specs.List.{filter_map, cons_option}
use Rattle.std.specs.Option.{option_map}
use Rattle.std.proofs.lemmas.List.Elements.{All-nil, All-cons, All-head, All-tail}
use Rattle.std.proofs.Math.Nat.{one-dvd}
use Rattle.sysmem_counts.specs.declared.field.Field.{Field}
use Rattle.sysmem_counts.specs.declared.field.Field.TheVariants as field
use Rattle.sysmem_formats.specs.declared.offer.Offer.{Offer}
use Rattle.sysmem_formats.specs.declared.offer.Offer.TheVariants.{NoImage, Image}
use Rattle.sysmem_formats.specs.Layout.{image_bytes_of}
use Rattle.sysmem_image.specs.declared.bounds.ImageBounds.{ImageBounds}
use Rattle.sysmem_image.specs.declared.entry.Entry.{Entry}
use Rattle.sysmem_image.specs.Bounds.{IsTighter, IsInRange, IsOwn}
use Rattle.sysmem_image.specs.Entries.{effective, first_match}
use Rattle.sysmem_image.specs.Fields as bound
use Rattle.sysmem_image.specs.Fields.{Width, Height}
use Rattle.sysmem_image.specs.Images.{Image as AnImage, IsSoundBounds}
use Rattle.sysmem_image.specs.Lines.{AlignmentsMeet, DivisorsMeet, IsBoundsLine}
use Rattle.sysmem_image.specs.Size.{square}
use Rattle.sysmem_image.proofs.CallerLemmas.{image_bytes_mono}
use Rattle.offer_fits.specs.Demands.{OfferDemand}
use Rattle.offer_fits.specs.Fit.{MeetsFit, OwnWithoutImage}
use Rattle.offer_fits.specs.Offers.{has_format, has_colour, entry_bounds, bounds_asked, Asks, is_named, is_format_named, is_modifier_named, is_colour_named}
use Rattle.offer_fits.specs.OfferLines.{IsOfferLine}
use Rattle.sysmem_merge.specs.Reasons.{IsUnnamedLine, IsOfferRefused}
use Rattle.verdict_claims.proofs.Deciding.{Told, told_le, told_lt, told_bool, told_both, told_all, any_or_all, search_below}
use Rattle.verdict_claims.proofs.SmallestImages.{told_meets, Smallest, bounds_of, keeps_all, the_image, sound_bounds, smallest_or_line}

-- bounds and a size of the offer that suit the participants
pub record FitFor (o : Offer) (ds : List OfferDemand) : Type 0 where
  pub bounds : ImageBounds
  pub size : ℕ
  pub meets : MeetsFit ds (record { offer = o; bounds = bounds; size_bytes = size })

abbrev pub LineOrFit : Offer → List OfferDemand → Type 0
LineOrFit o ds = ((field : Field) × IsOfferLine field o ds) ⊎ FitFor o ds

-- what each number that is asked has, each who asks one asks so
from_each : {X Y : Type 0} (g : X → Option Y) (P : Y → Type 0) (xs : List X) → All P (filter_map g xs) → All (λ x. IfSome (g x) P) xs
from_each g P [] all = All-nil (λ x. IfSome (g x) P)
from_each {X} {Y} g P (x ∷ xs) all = at (g x) refl all (λ rest. from_each g P xs rest) where
  at : (y : Option Y) → g x ≡ y → All P (cons_option y (filter_map g xs)) → (All P (filter_map g xs) → All (λ z. IfSome (g z) P) xs) → All (λ z. IfSome (g z) P) (x ∷ xs)
  at None is asked more = All-cons (λ z. IfSome (g z) P) x xs (subst (λ z. IfSome z P) (sym is) tt) (more asked)
  at (Some y) is asked more = All-cons (λ z. IfSome (g z) P) x xs (subst (λ z. IfSome z P) (sym is) (All-head P y (filter_map g xs) asked)) (more (All-tail P y (filter_map g xs) asked))

-- a line of bounds is a line of the offer
bounds_line : (field : Field) (o : Offer) (ds : List OfferDemand) → IsBoundsLine field o (bounds_asked o ds) → IsOfferLine field o ds
bounds_line field.PixelFormat o ds line = absurd line
bounds_line field.ColorSpaces o ds line = absurd line
bounds_line field.MaxSizeBytes o ds line = absurd line
bounds_line field o ds line = line

-- a size of 64 bits, not below the bytes, that all take
abbrev IsSize : List OfferDemand → ℕ → ℕ → Type 0
IsSize ds bytes n = (n < 2 ^ 64) × ((1 ≤ n) × ((bytes ≤ n) × (All (λ d. d.min_size_bytes ≤ n) ds × All (λ d. n ≤ d.max_size_bytes) ds)))

told_size : (ds : List OfferDemand) (bytes n : ℕ) → Told (IsSize ds bytes n)
told_size ds bytes n =
    told_both (n < 2 ^ 64) ((1 ≤ n) × ((bytes ≤ n) × (All (λ d. d.min_size_bytes ≤ n) ds × All (λ d. n ≤ d.max_size_bytes) ds))) (told_lt n (2 ^ 64))
    (told_both (1 ≤ n) ((bytes ≤ n) × (All (λ d. d.min_size_bytes ≤ n) ds × All (λ d. n ≤ d.max_size_bytes) ds)) (told_le 1 n)
    (told_both (bytes ≤ n) (All (λ d. d.min_size_bytes ≤ n) ds × All (λ d. n ≤ d.max_size_bytes) ds) (told_le bytes n)
    (told_both (All (λ d. d.min_size_bytes ≤ n) ds) (All (λ d. n ≤ d.max_size_bytes) ds)
    (told_all (λ d. d.min_size_bytes ≤ n) (λ d. told_le d.min_size_bytes n) ds) (told_all (λ d. n ≤ d.max_size_bytes) (λ d. told_le n d.max_size_bytes) ds))))

-- where all take the offer, its colour space, the bounds and the size, these suit them
meets : (o : Offer) (ds : List OfferDemand) (b : ImageBounds) (n : ℕ) (i : AnImage) → All (λ d. has_format o d ≡ true) ds → All (λ d. has_colour o d ≡ true) ds → All (Asks o (IsTighter b)) ds
    → OwnWithoutImage o b → IsSoundBounds o b i → IsSize ds (image_bytes_of o i.row i.height) n → MeetsFit ds (record { offer = o; bounds = b; size_bytes = n })
meets o ds b n i formats colours asks own sound size = record {
  sound = record { some = size.1.0; fits = size.0; own = own; holds = record { image = i; bounds = sound; bytes = size.1.1.0 } };
  covers = λ k d below. record {
    offer = record { format = formats k d below; colour = colours k d below; bounds = asks k d below };
    min_size = size.1.1.1.0 k d below;
    max_size = size.1.1.1.1 k d below;
  };
}

-- of an image
by_size : (o : Offer) (ds : List OfferDemand) → ((b : ImageBounds) → OwnWithoutImage o b) → All (λ d. has_format o d ≡ true) ds → All (λ d. has_colour o d ≡ true) ds
    → Smallest o (bounds_asked o ds) → LineOrFit o ds
by_size o ds free formats colours s = elim (search_below (IsSize ds (image_bytes_of o s.row s.height)) (told_size ds (image_bytes_of o s.row s.height)) (2 ^ 64)) as (λ _. LineOrFit o ds) [
  | inl found ↦ inr (record {
    bounds = bounds_of o (bounds_asked o ds) s;
    size = found.number;
    meets = meets o ds (bounds_of o (bounds_asked o ds) s) found.number (the_image o (bounds_asked o ds) s) formats colours
        (from_each (entry_bounds o) (IsTighter (bounds_of o (bounds_asked o ds) s)) ds (keeps_all o (bounds_asked o ds) s))
        (free (bounds_of o (bounds_asked o ds) s)) (sound_bounds o (bounds_asked o ds) s) found.holds;
  })
  | inr none ↦ inl (
    field.MaxSizeBytes,
    (
      s.alignments,
      s.divisors,
      λ w h r n wide high long holds some small mins maxs.
          let mono = image_bytes_mono o s.row r s.height h (s.least_row w r wide long) (s.least_height h high) in
          none n small (small, (some, (omega (arith, mono, holds), (mins, maxs)))),
    ),
  )
]

-- where all take the offer and its colour space, else a line says who doesn't
taken_by_all : (o : Offer) (ds : List OfferDemand) → (All (λ d. has_format o d ≡ true) ds → All (λ d. has_colour o d ≡ true) ds → LineOrFit o ds) → LineOrFit o ds
taken_by_all o ds further =
    elim (any_or_all (λ d. has_format o d ≡ false) (λ d. has_format o d ≡ true) (λ d. told_bool (has_format o d)) ds) as (λ _. LineOrFit o ds) [
      | inl lacks ↦ inl (field.PixelFormat, lacks)
      | inr formats ↦ elim (any_or_all (λ d. has_colour o d ≡ false) (λ d. has_colour o d ≡ true) (λ d. told_bool (has_colour o d)) ds) as (λ _. LineOrFit o ds) [
        | inl lacks ↦ inl (field.ColorSpaces, lacks)
        | inr colours ↦ further formats colours
      ]
    ]

image_cases : (o : Offer) (ds : List OfferDemand) → ((b : ImageBounds) → OwnWithoutImage o b) → LineOrFit o ds
image_cases o ds free = taken_by_all o ds (λ formats colours. elim (smallest_or_line o (bounds_asked o ds)) as (λ _. LineOrFit o ds) [
  | inl line ↦ inl (line.0, bounds_line line.0 o ds line.1)
  | inr s ↦ by_size o ds free formats colours s
])

-- without an image the bounds are the absent values
no_bounds : ImageBounds
no_bounds = record {
  min_size = square 1;
  min_width_some = omega arith;
  min_height_some = omega arith;
  max_size = square 4294967295;
  size_alignment = square 1;
  width_alignment_some = omega arith;
  height_alignment_some = omega arith;
  min_bytes_per_row = 1;
  min_row_some = omega arith;
  max_bytes_per_row = 4294967295;
  bytes_per_row_divisor = 1;
  row_divisor_some = omega arith;
  start_offset_divisor = 1;
  start_divisor_some = omega arith;
  display_rect_alignment = square 1;
  display_width_some = omega arith;
  display_height_some = omega arith;
  required_min_size = square 4294967295;
  required_max_size = square 0;
  max_width_times_height = 18446744073709551615;
}

no_bounds_own : IsOwn NoImage no_bounds
unfolding no_bounds
no_bounds_own bound.MinSize Width = refl
no_bounds_own bound.MinSize Height = refl
no_bounds_own bound.MaxSize Width = refl
no_bounds_own bound.MaxSize Height = refl
no_bounds_own bound.SizeAlignment Width = refl
no_bounds_own bound.SizeAlignment Height = refl
no_bounds_own bound.MinBytesPerRow Width = refl
no_bounds_own bound.MinBytesPerRow Height = refl
no_bounds_own bound.MaxBytesPerRow Width = refl
no_bounds_own bound.MaxBytesPerRow Height = refl
no_bounds_own bound.BytesPerRowDivisor Width = refl
no_bounds_own bound.BytesPerRowDivisor Height = refl
no_bounds_own bound.StartOffsetDivisor Width = refl
no_bounds_own bound.StartOffsetDivisor Height = refl
no_bounds_own bound.DisplayRectAlignment Width = refl
no_bounds_own bound.DisplayRectAlignment Height = refl
no_bounds_own bound.RequiredMinSize Width = refl
no_bounds_own bound.RequiredMinSize Height = refl
no_bounds_own bound.RequiredMaxSize Width = refl
no_bounds_own bound.RequiredMaxSize Height = refl
no_bounds_own bound.MaxWidthTimesHeight Width = refl
no_bounds_own bound.MaxWidthTimesHeight Height = refl

no_bounds_in_range : IsInRange no_bounds
unfolding no_bounds
no_bounds_in_range bound.MinSize Width = omega arith
no_bounds_in_range bound.MinSize Height = omega arith
no_bounds_in_range bound.MaxSize Width = omega arith
no_bounds_in_range bound.MaxSize Height = omega arith
no_bounds_in_range bound.SizeAlignment Width = omega arith
no_bounds_in_range bound.SizeAlignment Height = omega arith
no_bounds_in_range bound.MinBytesPerRow Width = omega arith
no_bounds_in_range bound.MinBytesPerRow Height = omega arith
no_bounds_in_range bound.MaxBytesPerRow Width = omega arith
no_bounds_in_range bound.MaxBytesPerRow Height = omega arith
no_bounds_in_range bound.BytesPerRowDivisor Width = omega arith
no_bounds_in_range bound.BytesPerRowDivisor Height = omega arith
no_bounds_in_range bound.StartOffsetDivisor Width = omega arith
no_bounds_in_range bound.StartOffsetDivisor Height = omega arith
no_bounds_in_range bound.DisplayRectAlignment Width = omega arith
no_bounds_in_range bound.DisplayRectAlignment Height = omega arith
no_bounds_in_range bound.RequiredMinSize Width = omega arith
no_bounds_in_range bound.RequiredMinSize Height = omega arith
no_bounds_in_range bound.RequiredMaxSize Width = omega arith
no_bounds_in_range bound.RequiredMaxSize Height = omega arith
no_bounds_in_range bound.MaxWidthTimesHeight Width = omega arith
no_bounds_in_range bound.MaxWidthTimesHeight Height = omega arith

abbrev one_pixel : AnImage
one_pixel = record { width = 1; height = 1; row = 1 }

no_bounds_sound : IsSoundBounds NoImage no_bounds one_pixel
unfolding no_bounds
no_bounds_sound = record {
  in_range = no_bounds_in_range;
  suits = record { width = one-dvd 1; height = one-dvd 1; row = one-dvd 1 };
  required = record { width = omega arith; height = omega arith };
  admitted = record {
    min_width = omega arith;
    min_height = omega arith;
    max_width = omega arith;
    max_height = omega arith;
    width_alignment = one-dvd 1;
    height_alignment = one-dvd 1;
    min_row = omega arith;
    max_row = omega arith;
    row_divisor = one-dvd 1;
    row_bytes = omega arith;
    area = omega arith;
  };
  large = record { width = omega arith; height = omega arith };
}

no_match : (entries : List Entry) → first_match NoImage entries ≡ None
no_match [] = refl
no_match (entry ∷ entries) = no_match entries

none_ask : (P : ImageBounds → Type 0) (ds : List OfferDemand) → All (Asks NoImage P) ds
none_ask P [] = All-nil (Asks NoImage P)
none_ask P (d ∷ ds) = All-cons (Asks NoImage P) d ds (subst (λ e. IfSome (option_map (effective NoImage) e) P) (sym (no_match d.entries)) tt) (none_ask P ds)

no_image_by_size : (ds : List OfferDemand) → AlignmentsMeet NoImage (bounds_asked NoImage ds) → DivisorsMeet NoImage (bounds_asked NoImage ds)
    → All (λ d. has_format NoImage d ≡ true) ds → All (λ d. has_colour NoImage d ≡ true) ds → LineOrFit NoImage ds
no_image_by_size ds alignments divisors formats colours = elim (search_below (IsSize ds 0) (told_size ds 0) (2 ^ 64)) as (λ _. LineOrFit NoImage ds) [
  | inl found ↦ inr (record {
    bounds = no_bounds;
    size = found.number;
    meets = meets NoImage ds no_bounds found.number one_pixel formats colours (none_ask (IsTighter no_bounds) ds) no_bounds_own no_bounds_sound found.holds;
  })
  | inr none ↦ inl (field.MaxSizeBytes, (alignments, divisors, λ w h r n wide high long holds some small mins maxs. none n small (small, (some, (omega arith, (mins, maxs))))))
]

no_image_cases : (ds : List OfferDemand) → LineOrFit NoImage ds
no_image_cases ds = taken_by_all NoImage ds (λ formats colours.
    elim (told_meets bound.SizeAlignment NoImage (bounds_asked NoImage ds)) as (λ _. LineOrFit NoImage ds) [
      | inr fails ↦ inl (field.SizeAlignment, fails)
      | inl alignments ↦ elim (told_meets bound.BytesPerRowDivisor NoImage (bounds_asked NoImage ds)) as (λ _. LineOrFit NoImage ds) [
        | inr fails ↦ inl (field.BytesPerRowDivisor, fails)
        | inl divisors ↦ no_image_by_size ds alignments divisors formats colours
      ]
    ])

pub line_or_fit : (o : Offer) (ds : List OfferDemand) → LineOrFit o ds
line_or_fit NoImage ds = no_image_cases ds
line_or_fit (Image pair colour) ds = image_cases (Image pair colour) ds (λ b. tt)

-- the parts of an image's name
one_false : (P : Type 0) (a b c : Bool) → a && b && c ≡ false → (a ≡ false → P) → (b ≡ false → P) → (c ≡ false → P) → P
one_false P false b c lacking on_a on_b on_c = on_a refl
one_false P true false c lacking on_a on_b on_c = on_b refl
one_false P true true c lacking on_a on_b on_c = on_c lacking

-- an offer that isn't named has a part that nobody names
unnamed_line : (o : Offer) (ds : List OfferDemand) → is_named o ds ≡ false → (field : Field) × IsUnnamedLine field o ds
unnamed_line NoImage ds unnamed = cc
unnamed_line (Image pair colour) ds unnamed =
    let image : Image pair colour ≡ NoImage → ⊥ = λ same. cc in
    one_false ((field : Field) × IsUnnamedLine field (Image pair colour) ds)
    (is_format_named (Image pair colour) ds) (is_modifier_named (Image pair colour) ds) (is_colour_named (Image pair colour) ds) unnamed
    (λ no_format. (field.UnnamedPixelFormat, (image, no_format)))
    (λ no_modifier. (field.UnnamedPixelFormatModifier, (image, no_modifier)))
    (λ no_colour. (field.UnnamedColorSpace, (image, no_colour)))

-- bounds and a size suit them, and where they are all that a decision has the image is named
abbrev pub NamedFit : Bool → List OfferDemand → Offer → Type 0
NamedFit whole ds o = FitFor o ds × (whole ≡ true → is_named o ds ≡ true)

pub refused_or_fit : (whole : Bool) (ds : List OfferDemand) (o : Offer) → NamedFit whole ds o ⊎ IsOfferRefused whole o ds
refused_or_fit whole ds o = elim (line_or_fit o ds) as (λ _. NamedFit whole ds o ⊎ IsOfferRefused whole o ds) [
  | inl line ↦ inr (inl line)
  | inr fit ↦ by whole (is_named o ds) refl refl fit
] where
  by : (w named : Bool) → whole ≡ w → is_named o ds ≡ named → FitFor o ds → NamedFit whole ds o ⊎ IsOfferRefused whole o ds
  by false named is naming fit = inl (fit, λ e. absurd (cc (is, e)))
  by true true is naming fit = inl (fit, λ e. naming)
  by true false is naming fit = inr (inr (is, unnamed_line o ds naming))
