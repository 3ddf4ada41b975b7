-- What is read of an offer with one more participant, and the lines that are read from it.
use Rattle.std.proofs.Common.{◌≡◌, ◌≢◌, ◌↔◌, ◌||◌, ◌&&◌, ◌==◌, ◌⊎◌, inl, inr, arith, rules, ℕ, ◌≤◌, ◌<◌, ◌^◌, Bool, true, false, not, IsTrue, List, [], ◌∷◌, ◌++◌, length, Option, Some, None, All, Any, max, min, IfSome, IfNone, slice_get, get_or, take, drop, suc, length-take, drop-cons, refl, sym, ap, ◌∙◌, subst, nat_lt}
use Rattle.std.specs.Prelude.{is_some}
use Rattle.std.specs.List.{list_any, cons_option}
use Rattle.std.specs.Option.{option_map, option_map_or}
use Rattle.std.proofs.Math.Bool.{or-false, or-true}
use Rattle.std.proofs.lemmas.Bool.{cases_lt}
use Rattle.std.proofs.lemmas.List.{append-nil, take-append-drop, get_or-take}
use Rattle.std.proofs.lemmas.List.Elements.{All-nil, All-cons}
use Rattle.std.proofs.lemmas.Option.{get_or_from_slice_get, slice_get_within, slice_get-get_or}
use Rattle.std.proofs.lemmas.List.Folds.{Any-from_list_any, list_any-from_Any}
use Rattle.sysmem_counts.specs.declared.field.Field.{Field}
use Rattle.sysmem_counts.specs.declared.field.Field.TheVariants.{PixelFormat, ColorSpaces, SizeAlignment, BytesPerRowDivisor, StartOffsetDivisor, DisplayRectAlignment, RequiredMinSize, MaxSize, MaxWidthTimesHeight, MaxBytesPerRow, MaxSizeBytes, UnnamedPixelFormat, UnnamedPixelFormatModifier, UnnamedColorSpace}
use Rattle.sysmem_formats.specs.declared.colour_space.ColourSpace.{ColourSpace}
use Rattle.sysmem_formats.specs.declared.offer.Offer.{Offer}
use Rattle.sysmem_formats.specs.declared.offer.Offer.TheVariants.{NoImage, Image}
use Rattle.sysmem_formats.specs.declared.offer.Pair.{Pair}
use Rattle.sysmem_formats.specs.Layout.{image_bytes_of}
use Rattle.sysmem_image.specs.declared.bounds.ImageBounds.{ImageBounds}
use Rattle.sysmem_image.specs.declared.entry.Entry.{Entry}
use Rattle.sysmem_image.specs.Entries.{effective, first_match, takes_colour}
use Rattle.sysmem_image.specs.Lines.{IsBoundsLine, AlignmentsMeet, DivisorsMeet}
use Rattle.sysmem_image.specs.Read.{AreRead, FitLeast, FitsLeastRow}
use Rattle.sysmem_image.proofs.CallerLemmas.{image_bytes_mono}
use Rattle.offer_fits.proofs.CallerLemmas.{bounds_asked_push}
use Rattle.sysmem_merge.specs.declared.offer_read.OfferRead.{OfferRead}
use Rattle.sysmem_merge.specs.Aggregate.{AreSizes, IsListed}
use Rattle.sysmem_merge.specs.Demands.{OfferDemand}
use Rattle.sysmem_merge.specs.First.{IsFirstOf}
use Rattle.sysmem_merge.specs.OfferRead.{IsOfferRead, IsRefusingLine, offer_lines}
use Rattle.sysmem_merge.specs.Offers.{has_format, has_colour, bounds_asked, names_format, names_modifier, names_colour, is_format_named, is_modifier_named, is_colour_named, is_named}
use Rattle.sysmem_merge.specs.Reasons.{IsOfferLine, IsUnnamedLine}
use Rattle.sysmem_merge.proofs.FirstFits.{unnamed_line}
use Rattle.sysmem_merge.proofs.Keeping.{asked_entry, named_push}
use Rattle.sysmem_merge.proofs.Sizes.{sizes_push}

-- one more participant, part by part; x is its entry for the offer
read_more : (o : Offer) (ds : List OfferDemand) (d : OfferDemand) (x : Option Entry) (old new : OfferRead) → x ≡ first_match o d.entries → IsOfferRead o ds old
    → new.offer ≡ old.offer → AreRead o (bounds_asked o (ds ++ d ∷ [])) new.bounds
    → new.format_refused ≡ (old.format_refused || not (has_format o d)) → new.colour_refused ≡ (old.colour_refused || not (has_colour o d))
    → new.format_named ≡ (old.format_named || names_format x) → new.modifier_named ≡ (old.modifier_named || names_modifier x) → new.colour_named ≡ (old.colour_named || names_colour o x)
    → new.least_size ≡ max old.least_size d.min_size_bytes → new.greatest_size ≡ min old.greatest_size d.max_size_bytes
    → IsOfferRead o (ds ++ d ∷ []) new
read_more o ds d x old new found read same bounds format colour named modifier coloured least greatest = record {
  offer = same ∙ read.offer;
  bounds = bounds;
  format = format ∙ named_push (λ e. not (has_format o e)) ds d old.format_refused read.format;
  colour = colour ∙ named_push (λ e. not (has_colour o e)) ds d old.colour_refused read.colour;
  format_named = named ∙ (ap (λ e. old.format_named || names_format e) found ∙ named_push (λ e. names_format (first_match o e.entries)) ds d old.format_named read.format_named);
  modifier_named = modifier ∙ (ap (λ e. old.modifier_named || names_modifier e) found ∙ named_push (λ e. names_modifier (first_match o e.entries)) ds d old.modifier_named read.modifier_named);
  colour_named = coloured ∙ (ap (λ e. old.colour_named || names_colour o e) found ∙ named_push (λ e. names_colour o (first_match o e.entries)) ds d old.colour_named read.colour_named);
  sizes = rw (least, greatest) (sizes_push ds d old.least_size old.greatest_size read.sizes);
}

-- what is read of its entry for the offer, and of its sizes
pub record IsEntryRead (entry : Entry) (d : OfferDemand) (old new : OfferRead) : Type 0 where
  pub offer : new.offer ≡ old.offer
  pub least : new.least_size ≡ max old.least_size d.min_size_bytes
  pub greatest : new.greatest_size ≡ min old.greatest_size d.max_size_bytes
  pub refused : new.format_refused ≡ old.format_refused
  pub bounds : (es : List ImageBounds) → AreRead old.offer es old.bounds → AreRead old.offer (es ++ effective old.offer entry ∷ []) new.bounds
  pub colour : new.colour_refused ≡ (old.colour_refused || not (takes_colour old.offer entry))
  pub format_named : new.format_named ≡ (old.format_named || names_format (Some entry))
  pub modifier_named : new.modifier_named ≡ (old.modifier_named || names_modifier (Some entry))
  pub colour_named : new.colour_named ≡ (old.colour_named || names_colour old.offer (Some entry))

-- a participant whose entry for the offer was read
entry_of : (ds : List OfferDemand) (d : OfferDemand) (entry : Entry) (old new : OfferRead) → Some entry ≡ first_match old.offer d.entries → IsEntryRead entry d old new
    → IsOfferRead old.offer ds old → IsOfferRead old.offer (ds ++ d ∷ []) new
entry_of ds d entry old new found more read =
    let o = old.offer in
    read_more o ds d (Some entry) old new found read more.offer
    (subst (λ es. AreRead o es new.bounds) (sym (asked_entry o ds d entry found)) (more.bounds (bounds_asked o ds) read.bounds))
    (more.refused ∙ sym (ap (λ b. old.format_refused || not b) (ap (λ x. length d.entries == 0 || is_some x) (sym found) ∙ or-true (length d.entries == 0)) ∙ or-false old.format_refused))
    (more.colour ∙ ap (λ x. old.colour_refused || not (option_map_or (takes_colour o) x true)) found)
    more.format_named more.modifier_named more.colour_named more.least more.greatest

pub entry_read : (o : Offer) (ds : List OfferDemand) (d : OfferDemand) (entry : Entry) (old new : OfferRead) → Some entry ≡ first_match old.offer d.entries → IsEntryRead entry d old new
    → IsOfferRead o ds old → IsOfferRead o (ds ++ d ∷ []) new
entry_read o ds d entry old new found more read =
    subst (λ p. IsOfferRead p (ds ++ d ∷ []) new) read.offer (entry_of ds d entry old new found more (subst (λ p. IsOfferRead p ds old) (sym read.offer) read))

-- what is read of a participant without an entry for the offer
pub record IsNoEntryRead (d : OfferDemand) (old new : OfferRead) : Type 0 where
  pub offer : new.offer ≡ old.offer
  pub least : new.least_size ≡ max old.least_size d.min_size_bytes
  pub greatest : new.greatest_size ≡ min old.greatest_size d.max_size_bytes
  pub refused : new.format_refused ≡ (old.format_refused || not (length d.entries == 0))
  pub bounds : new.bounds ≡ old.bounds
  pub colour : new.colour_refused ≡ old.colour_refused
  pub format_named : new.format_named ≡ old.format_named
  pub modifier_named : new.modifier_named ≡ old.modifier_named
  pub colour_named : new.colour_named ≡ old.colour_named

none_named : (b : Bool) (o : Offer) → (b || names_colour o None) ≡ b
none_named b NoImage = or-false b
none_named b (Image pair colour) = or-false b

-- a participant without an entry for the offer
no_entry_of : (ds : List OfferDemand) (d : OfferDemand) (old new : OfferRead) → None ≡ first_match old.offer d.entries → IsNoEntryRead d old new
    → IsOfferRead old.offer ds old → IsOfferRead old.offer (ds ++ d ∷ []) new
no_entry_of ds d old new found more read =
    let o = old.offer in
    read_more o ds d None old new found read more.offer
    (subst (λ es. AreRead o es new.bounds) (sym (bounds_asked_push o ds d ∙ (ap (λ x. bounds_asked o ds ++ cons_option (option_map (effective o) x) []) (sym found) ∙ append-nil (bounds_asked o ds))))
    (subst (λ k. AreRead o (bounds_asked o ds) k) (sym more.bounds) read.bounds))
    (more.refused ∙ ap (λ b. old.format_refused || not b) (sym (or-false (length d.entries == 0)) ∙ ap (λ x. length d.entries == 0 || is_some x) found))
    (more.colour ∙ sym (ap (λ x. old.colour_refused || not (option_map_or (takes_colour o) x true)) (sym found) ∙ or-false old.colour_refused))
    (more.format_named ∙ sym (or-false old.format_named)) (more.modifier_named ∙ sym (or-false old.modifier_named)) (more.colour_named ∙ sym (none_named old.colour_named o))
    more.least more.greatest

pub no_entry_read : (o : Offer) (ds : List OfferDemand) (d : OfferDemand) (old new : OfferRead) → None ≡ first_match old.offer d.entries → IsNoEntryRead d old new
    → IsOfferRead o ds old → IsOfferRead o (ds ++ d ∷ []) new
no_entry_read o ds d old new found more read =
    subst (λ p. IsOfferRead p (ds ++ d ∷ []) new) read.offer (no_entry_of ds d old new found more (subst (λ p. IsOfferRead p ds old) (sym read.offer) read))

-- what one of a list has, of some other property that follows
any_then : {X : Type 0} (P Q : X → Type 0) (xs : List X) → ((x : X) → P x → Q x) → Any P xs → Any Q xs
any_then P Q xs then (k, x, below, is, p) = (k, x, below, is, then x p)

not_true : (b : Bool) → not b ≡ true → b ≡ false
not_true true is = cc is
not_true false is = refl

-- a test that one fails, kept as a fact
pub any_fails : (f : OfferDemand → Bool) (ds : List OfferDemand) (b : Bool) → b ≡ list_any (λ d. not (f d)) ds → IsTrue b ↔ Any (λ d. f d ≡ false) ds
any_fails f ds b is = (
  λ yes. any_then (λ d. not (f d) ≡ true) (λ d. f d ≡ false) ds (λ d. not_true (f d)) (Any-from_list_any (λ d. not (f d)) ds (sym is ∙ yes)),
  λ any. is ∙ list_any-from_Any (λ d. not (f d)) ds (any_then (λ d. f d ≡ false) (λ d. not (f d) ≡ true) ds (λ d no. ap not no) any),
)

or_false : (a b : Bool) → (a || b) ≡ false → (a ≡ false) × (b ≡ false)
or_false true b is = cc is
or_false false b is = (refl, is)

not_false : (b : Bool) → not b ≡ false → b ≡ true
not_false true is = refl
not_false false is = cc is

-- where nobody is refused all take the offer and its colour space
pub all_listed : (o : Offer) (ds : List OfferDemand) → list_any (λ d. not (has_format o d)) ds ≡ false → list_any (λ d. not (has_colour o d)) ds ≡ false → All (IsListed o) ds
all_listed o [] formats colours = All-nil (IsListed o)
all_listed o (d ∷ ds) formats colours =
    let f = or_false (not (has_format o d)) (list_any (λ e. not (has_format o e)) ds) formats in
    let c = or_false (not (has_colour o d)) (list_any (λ e. not (has_colour o e)) ds) colours in
    All-cons (IsListed o) d ds (record { format = not_false (has_format o d) f.0; colour = not_false (has_colour o d) c.0 }) (all_listed o ds f.1 c.1)

-- a field that is neither of the other three heads a line of bounds, or none
pub line_else : (field : Field) (o : Offer) (ds : List OfferDemand) → field ≢ PixelFormat → field ≢ ColorSpaces → field ≢ MaxSizeBytes → IsBoundsLine field o (bounds_asked o ds) ↔ IsOfferLine field o ds
line_else PixelFormat o ds format colour size = absurd (format refl)
line_else ColorSpaces o ds format colour size = absurd (colour refl)
line_else MaxSizeBytes o ds format colour size = absurd (size refl)
line_else field o ds format colour size = (λ line. line, λ line. line)

-- the least size that holds the least image is above the greatest
-- exactly where the size's line is true
size_exact : (o : Offer) (ds : List OfferDemand) (least greatest w h r bytes : ℕ) → AreSizes ds least greatest → greatest < 2 ^ 64 → FitLeast o (bounds_asked o ds) w h
    → FitsLeastRow o (bounds_asked o ds) w r → AlignmentsMeet o (bounds_asked o ds) → DivisorsMeet o (bounds_asked o ds) → bytes ≡ image_bytes_of o r h
    → (greatest < max (max bytes least) 1) ↔ IsOfferLine MaxSizeBytes o ds
size_exact o ds least greatest w h r bytes sizes small sides row meet divisors is = (
  λ above. (
    meet,
    divisors,
    λ v g q n wide high long holds some fits mins maxs.
        let mono = image_bytes_mono o r q h g (row.least v q wide long) (sides.least_height g high) in
        omega (arith, is, mono, holds, above, some, (sizes.low n).1 mins, (sizes.high n fits).1 maxs),
  ),
  λ line. elim (cases_lt greatest (max (max bytes least) 1)) as (λ _. greatest < max (max bytes least) 1) [
    | inl above ↦ above
    | inr within ↦
        let fits : max (max bytes least) 1 < 2 ^ 64 = omega (arith, within, small) in
        let holds : image_bytes_of o r h ≤ max (max bytes least) 1 = omega (arith, is) in
        absurd (line.2 w h r (max (max bytes least) 1) sides.width sides.height row.row holds (omega arith) fits
        ((sizes.low (max (max bytes least) 1)).0 (omega arith)) ((sizes.high (max (max bytes least) 1) fits).0 (omega (arith, within))))
  ],
)

-- a test of the least size tells whether the size's line is true
pub size_test : (o : Offer) (ds : List OfferDemand) (read : OfferRead) (w h r bytes size top : ℕ) → IsOfferRead o ds read → read.greatest_size < 2 ^ 64 → FitLeast o (bounds_asked o ds) w h
    → FitsLeastRow o (bounds_asked o ds) w r → AlignmentsMeet o (bounds_asked o ds) → DivisorsMeet o (bounds_asked o ds) → bytes ≡ image_bytes_of o r h
    → size ≡ max (max bytes read.least_size) 1 → top ≡ read.greatest_size → IsTrue (nat_lt top size) ↔ IsOfferLine MaxSizeBytes o ds
size_test o ds read w h r bytes size top stands small sides row meet divisors is sized topped =
    let exact = size_exact o ds read.least_size read.greatest_size w h r bytes stands.sizes small sides row meet divisors is in (
      λ test. exact.0 (let above : top < size = search (rules, test) in omega (arith, above, sized, topped)),
      λ line.
          let below : read.greatest_size < max (max bytes read.least_size) 1 = exact.1 line in
          let above : top < size = omega (arith, below, sized, topped) in
          search (rules, above),
    )

-- no image has no unnamed line
pub unnamed_none : (field : Field) (o : Offer) (ds : List OfferDemand) → o ≡ NoImage → ¬ IsUnnamedLine field o ds
unnamed_none UnnamedPixelFormat o ds none line = line.0 none
unnamed_none UnnamedPixelFormatModifier o ds none line = line.0 none
unnamed_none UnnamedColorSpace o ds none line = line.0 none
unnamed_none _ o ds none line = line

-- a field that is none of the three heads no unnamed line
pub unnamed_else : (field : Field) (o : Offer) (ds : List OfferDemand) → field ≢ UnnamedPixelFormat → field ≢ UnnamedPixelFormatModifier → field ≢ UnnamedColorSpace → ¬ IsUnnamedLine field o ds
unnamed_else UnnamedPixelFormat o ds format modifier colour line = format refl
unnamed_else UnnamedPixelFormatModifier o ds format modifier colour line = modifier refl
unnamed_else UnnamedColorSpace o ds format modifier colour line = colour refl
unnamed_else _ o ds format modifier colour line = line

-- of an image a part that is kept as unnamed is
pub unnamed_test : (o : Offer) (named fact : Bool) → o ≢ NoImage → named ≡ fact → IsTrue (not named) ↔ ((o ≢ NoImage) × (fact ≡ false))
unnamed_test o named fact image same = (λ no. (image, sym same ∙ not_true named no), λ line. ap not (same ∙ line.1))

-- an image is named where each part of its name is
pub named_image : (o : Offer) (ds : List OfferDemand) (read : OfferRead) (pair : Pair) (colour : ColourSpace) → IsOfferRead o ds read → read.offer ≡ Image pair colour
    → (read.format_named && read.modifier_named && read.colour_named) ≡ is_named o ds
named_image o ds read pair colour stands image =
    rw (stands.format_named, stands.modifier_named, stands.colour_named) (by_image o (sym stands.offer ∙ image)) where
      by_image : (p : Offer) → p ≡ Image pair colour → (is_format_named p ds && is_modifier_named p ds && is_colour_named p ds) ≡ is_named p ds
      by_image NoImage is = cc is
      by_image (Image q c) is = refl

pub named_none : (o : Offer) (ds : List OfferDemand) → o ≡ NoImage → true ≡ is_named o ds
named_none o ds none = rw none refl

-- a line is refusing where it is true, or unnamed and all are there
pub refusing_test : (whole : Bool) (field : Field) (o : Offer) (ds : List OfferDemand) (line unnamed : Bool) → IsTrue line ↔ IsOfferLine field o ds → IsTrue unnamed ↔ IsUnnamedLine field o ds
    → IsTrue (line || (whole && unnamed)) ↔ IsRefusingLine whole o ds field
refusing_test whole field o ds true unnamed exact named = (λ _. inl (exact.0 refl), λ _. refl)
refusing_test true field o ds false unnamed exact named = (
  λ yes. inr (refl, named.0 yes),
  λ either. elim either as (λ _. IsTrue unnamed) [ inl line ↦ absurd (cc (exact.1 line)) | inr none ↦ named.1 none.1 ],
)
refusing_test false field o ds false unnamed exact named = (
  λ yes. cc yes,
  λ either. elim either as (λ _. IsTrue false) [ inl line ↦ absurd (cc (exact.1 line)) | inr none ↦ absurd (cc none.0) ],
)

-- what holds of a list's elements holds of the one at a place
all_at : (P : Field → Type 0) (xs : List Field) (k : ℕ) (x : Field) → slice_get xs k ≡ Some x → All P xs → P x
all_at P xs k x here all = subst P (get_or_from_slice_get xs k x x here) (all k x (slice_get_within xs k x here))

-- where no line of the table is refusing none is
pub none_refuses : (whole : Bool) (o : Offer) (ds : List OfferDemand) → All (λ f. ¬ IsRefusingLine whole o ds f) offer_lines → (field : Field) → ¬ IsRefusingLine whole o ds field
none_refuses whole o ds none PixelFormat line = all_at (λ f. ¬ IsRefusingLine whole o ds f) offer_lines 0 PixelFormat refl none line
none_refuses whole o ds none ColorSpaces line = all_at (λ f. ¬ IsRefusingLine whole o ds f) offer_lines 1 ColorSpaces refl none line
none_refuses whole o ds none SizeAlignment line = all_at (λ f. ¬ IsRefusingLine whole o ds f) offer_lines 2 SizeAlignment refl none line
none_refuses whole o ds none BytesPerRowDivisor line = all_at (λ f. ¬ IsRefusingLine whole o ds f) offer_lines 3 BytesPerRowDivisor refl none line
none_refuses whole o ds none StartOffsetDivisor line = all_at (λ f. ¬ IsRefusingLine whole o ds f) offer_lines 4 StartOffsetDivisor refl none line
none_refuses whole o ds none DisplayRectAlignment line = all_at (λ f. ¬ IsRefusingLine whole o ds f) offer_lines 5 DisplayRectAlignment refl none line
none_refuses whole o ds none RequiredMinSize line = all_at (λ f. ¬ IsRefusingLine whole o ds f) offer_lines 6 RequiredMinSize refl none line
none_refuses whole o ds none MaxSize line = all_at (λ f. ¬ IsRefusingLine whole o ds f) offer_lines 7 MaxSize refl none line
none_refuses whole o ds none MaxWidthTimesHeight line = all_at (λ f. ¬ IsRefusingLine whole o ds f) offer_lines 8 MaxWidthTimesHeight refl none line
none_refuses whole o ds none MaxBytesPerRow line = all_at (λ f. ¬ IsRefusingLine whole o ds f) offer_lines 9 MaxBytesPerRow refl none line
none_refuses whole o ds none MaxSizeBytes line = all_at (λ f. ¬ IsRefusingLine whole o ds f) offer_lines 10 MaxSizeBytes refl none line
none_refuses whole o ds none UnnamedPixelFormat line = all_at (λ f. ¬ IsRefusingLine whole o ds f) offer_lines 11 UnnamedPixelFormat refl none line
none_refuses whole o ds none UnnamedPixelFormatModifier line = all_at (λ f. ¬ IsRefusingLine whole o ds f) offer_lines 12 UnnamedPixelFormatModifier refl none line
none_refuses whole o ds none UnnamedColorSpace line = all_at (λ f. ¬ IsRefusingLine whole o ds f) offer_lines 13 UnnamedColorSpace refl none line
none_refuses whole o ds none _ line = elim line as (λ _. ⊥) [ inl offer ↦ offer | inr unnamed ↦ unnamed.1 ]

-- so where there is no fit, or a name that is wanted isn't there,
-- some line of the table is refusing
pub refused_clash : (whole : Bool) (o : Offer) (ds : List OfferDemand) → All (λ f. ¬ IsRefusingLine whole o ds f) offer_lines
    → ((field : Field) × IsOfferLine field o ds) ⊎ ((whole ≡ true) × (is_named o ds ≡ false)) → ⊥
refused_clash whole o ds none refused = elim refused as (λ _. ⊥) [
  | inl line ↦ none_refuses whole o ds none line.0 (inl line.1)
  | inr unnamed ↦ let line = unnamed_line o ds unnamed.1 in none_refuses whole o ds none line.0 (inr (unnamed.0, line.1))
]

-- what is so of the offer that was read is so of this one
pub for_own : (Goal : Offer → Type 0) (o : Offer) (ds : List OfferDemand) (k : OfferRead) → IsOfferRead o ds k → (IsOfferRead k.offer ds k → Goal k.offer) → Goal o
for_own Goal o ds k read at = subst Goal read.offer (at (subst (λ p. IsOfferRead p ds k) (sym read.offer) read))

-- what is known where an option is some
pub some_of : {X : Type 0} (r : Option X) (P : X → Type 0) → is_some r ≡ true → IfSome r P → (x : X) × P x
some_of None P is p = absurd (cc is)
some_of (Some x) P is p = (x, p)

-- where nothing can't be, all is so of it
pub none_clash : {X : Type 0} (r : Option X) (P Q : Type 0) → IfNone r P → (P → ⊥) → IfNone r Q
none_clash None P Q p never = absurd (never p)
none_clash (Some x) P Q p never = tt

-- a field of a list that has the property, where those before it have not, is the first
pub first_at : (P : Field → Type 0) (xs : List Field) (i : ℕ) (x : Field) → slice_get xs i ≡ Some x → P x → ((k : ℕ) (y : Field) → k < i → slice_get xs k ≡ Some y → ¬ P y) → IsFirstOf P xs x
first_at P xs i x here holds before =
    let within : i < length xs = slice_get_within xs i x here in
    let cell : get_or xs i x ≡ x = get_or_from_slice_get xs i x x here in
    record {
      earlier = take i xs;
      later = drop (suc i) xs;
      listed = sym (take-append-drop i xs) ∙ ap (λ zs. take i xs ++ zs) (drop-cons xs i x within ∙ ap (λ z. z ∷ drop (suc i) xs) cell);
      holds = holds;
      before = λ k d below.
          let small : k < i = omega (arith, length-take i xs, below) in
          subst (λ y. ¬ P y) (sym (get_or-take i xs k d small)) (before k (get_or xs k d) small (slice_get-get_or xs k d (omega (arith, small, within))));
    }
