-- What a line says of an offer in one colour space it says in each, unless it speaks of
-- colour spaces; and what nobody names.
use Rattle.std.proofs.Common.{◌≡◌, ◌<◌, ℕ, zero, suc, ◌+◌, Bool, true, false, List, [], ◌∷◌, ◌++◌, Option, refl, sym, subst, arith, inl, inr}
use Rattle.std.specs.Prelude.{◌≢◌, ◌||◌, ◌⊎◌, ◌↔◌}
use Rattle.std.specs.List.{cons_option, filter_map, list_any}
use Rattle.std.proofs.lemmas.Bool.{cases_eq}
use Rattle.sysmem_counts.specs.declared.field.Field.{Field}
use Rattle.sysmem_counts.specs.declared.field.Field.TheVariants.{PixelFormat, ColorSpaces, MaxSize, MaxWidthTimesHeight, MaxBytesPerRow, MaxSizeBytes, UnnamedPixelFormat, UnnamedPixelFormatModifier, UnnamedColorSpace}
use Rattle.sysmem_formats.specs.declared.colour_space.ColourSpace.{ColourSpace}
use Rattle.sysmem_formats.specs.declared.offer.Offer.{Offer}
use Rattle.sysmem_formats.specs.declared.offer.Offer.TheVariants.{Image}
use Rattle.sysmem_formats.specs.declared.offer.Pair.{Pair}
use Rattle.sysmem_image.specs.declared.bounds.ImageBounds.{ImageBounds}
use Rattle.sysmem_image.specs.Entries.{first_match}
use Rattle.sysmem_image.specs.Lines.{FitsWidth, FitsHeight, FitsRow, WidthAbove, HeightAbove}
use Rattle.offer_fits.specs.Demands.{OfferDemand, offer_demands}
use Rattle.offer_fits.specs.Offers.{names_format, names_modifier, names_colour}
use Rattle.offer_fits.specs.OfferLines.{IsOfferLine}
use Rattle.sysmem_merge.specs.Reasons.{IsUnnamedLine}
use Rattle.negotiation_inputs.specs.Participant.{Participant}
use Rattle.sysmem_tree.specs.Shape.{Member}
use Rattle.verdict_claims.specs.Conflict.{RefusesOffer}
use Rattle.verdict_claims.specs.Line.{LineFacts}
use Rattle.verdict_claims.specs.Roll.{RollFacts, asked_on}
use Rattle.verdict_claims.proofs.Marked.{below, asked_below}

module _ (p : Pair) (c d : ColourSpace) where
  width_in : (es : List ImageBounds) (w : ℕ) → FitsWidth (Image p d) es w → FitsWidth (Image p c) es w
  width_in es w f = record { some = f.some; own = f.own; alignments = f.alignments; least = f.least; required = f.required }

  height_in : (es : List ImageBounds) (h : ℕ) → FitsHeight (Image p d) es h → FitsHeight (Image p c) es h
  height_in es h f = record { some = f.some; own = f.own; alignments = f.alignments; least = f.least; required = f.required }

  row_in : (es : List ImageBounds) (w r : ℕ) → FitsRow (Image p d) es w r → FitsRow (Image p c) es w r
  row_in es w r f = record { some = f.some; own = f.own; divisors = f.divisors; least = f.least; row_bytes = f.row_bytes }

  either_above : (es : List ImageBounds) → WidthAbove (Image p c) es ⊎ HeightAbove (Image p c) es → WidthAbove (Image p d) es ⊎ HeightAbove (Image p d) es
  either_above es (inl above) = inl (λ w most fits under. above w most (width_in es w fits) under)
  either_above es (inr above) = inr (λ h most fits under. above h most (height_in es h fits) under)

module _ (p : Pair) (c d : ColourSpace) (ds : List OfferDemand) where
  pub same_line : (field : Field) → field ≢ ColorSpaces → IsOfferLine field (Image p c) ds → IsOfferLine field (Image p d) ds
  same_line PixelFormat other line = line
  same_line ColorSpaces other line = absurd (other refl)
  same_line MaxSizeBytes other line =
      (line.0, line.1, λ w h r n width height row holds some fits least most. line.2 w h r n (width_in p c d _ w width) (height_in p c d _ h height) (row_in p c d _ w r row) holds some fits least most)
  same_line MaxSize other line = (line.0, either_above p c d _ line.1)
  same_line MaxWidthTimesHeight other line = (line.0, λ w h small width height under. line.1 w h small (width_in p c d _ w width) (height_in p c d _ h height) under)
  same_line MaxBytesPerRow other line = (line.0, line.1, λ w r most width row under. line.2 w r most (width_in p c d _ w width) (row_in p c d _ w r row) under)
  same_line _ other line = line

  pub same_unnamed : (field : Field) → field ≢ UnnamedColorSpace → IsUnnamedLine field (Image p c) ds → IsUnnamedLine field (Image p d) ds
  same_unnamed UnnamedPixelFormat other line = ((λ e. absurd (cc)), line.1)
  same_unnamed UnnamedPixelFormatModifier other line = ((λ e. absurd (cc)), line.1)
  same_unnamed UnnamedColorSpace other line = absurd (other refl)
  same_unnamed _ other line = line

-- a line that refuses an offer refuses the others of the pair
pub same_refusal : (whole : Bool) (ms : List Member) (p : Pair) (c d : ColourSpace) (before line : LineFacts) → before.field ≡ line.field → before.nodes ≡ line.nodes
    → line.field ≢ ColorSpaces → line.field ≢ UnnamedColorSpace → RefusesOffer whole ms (Image p c) before → RefusesOffer whole ms (Image p d) line
same_refusal whole ms p c d before line one two takes names refuses =
    by (subst (λ l. RefusesOffer whole ms (Image p c) l) (λ i. record { field = one i; nodes = two i }) refuses) where
      by : RefusesOffer whole ms (Image p c) line → RefusesOffer whole ms (Image p d) line
      by (ps, named, inl is) = (ps, named, inl (same_line p c d _ line.field takes is))
      by (ps, named, inr is) = (ps, named, inr (is.0, same_unnamed p c d _ line.field names is.1))

-- what nobody of several names
either_none : (f : OfferDemand → Bool) (ds es : List OfferDemand) → list_any f (ds ++ es) ≡ false ↔ ((list_any f ds ≡ false) × (list_any f es ≡ false))
either_none f [] es = (λ h. (refl, h), λ h. h.1)
either_none f (d ∷ ds) es = by (f d) (either_none f ds es) where
  by : (t : Bool) → list_any f (ds ++ es) ≡ false ↔ ((list_any f ds ≡ false) × (list_any f es ≡ false))
      → (t || list_any f (ds ++ es)) ≡ false ↔ (((t || list_any f ds) ≡ false) × (list_any f es ≡ false))
  by true h = (λ e. absurd (cc), λ e. absurd (cc))
  by false h = h

pub unnamed_both : (field : Field) (o : Offer) (ds es : List OfferDemand) → IsUnnamedLine field o (ds ++ es) ↔ (IsUnnamedLine field o ds × IsUnnamedLine field o es)
unnamed_both UnnamedPixelFormat o ds es = let e = either_none (λ d. names_format (first_match o d.entries)) ds es in
    (λ h. ((h.0, (e.0 h.1).0), (h.0, (e.0 h.1).1)), λ h. (h.0.0, e.1 (h.0.1, h.1.1)))
unnamed_both UnnamedPixelFormatModifier o ds es = let e = either_none (λ d. names_modifier (first_match o d.entries)) ds es in
    (λ h. ((h.0, (e.0 h.1).0), (h.0, (e.0 h.1).1)), λ h. (h.0.0, e.1 (h.0.1, h.1.1)))
unnamed_both UnnamedColorSpace o ds es = let e = either_none (λ d. names_colour o (first_match o d.entries)) ds es in
    (λ h. ((h.0, (e.0 h.1).0), (h.0, (e.0 h.1).1)), λ h. (h.0.0, e.1 (h.0.1, h.1.1)))
unnamed_both _ o ds es = (λ h. absurd h, λ h. absurd h.0)

-- who is on a roll, by their numbers
module _ (roll : RollFacts) (field : Field) (o : Offer) where
  abbrev pub Silent : ℕ → Type 0
  Silent k = IsUnnamedLine field o (offer_demands (filter_map (asked_on roll) (below k)))

  abbrev pub SilentAt : Option Participant → Type 0
  SilentAt one = IsUnnamedLine field o (offer_demands (cons_option one []))

  -- one more is silent
  pub still_silent : (k : ℕ) (one : Option Participant) → one ≡ asked_on roll k → Silent k → SilentAt one → Silent (k + 1)
  still_silent k one is before here = subst (IsUnnamedLine field o) (asked_below roll k one is) ((unnamed_both field o _ _).1 (before, here))

  -- where all are, each is
  pub silent_one : (n k : ℕ) → k < n → Silent n → SilentAt (asked_on roll k)
  silent_one zero k less line = absurd (omega (arith, less))
  silent_one (suc n) k less line =
      let next : suc n ≡ n + 1 = omega arith in
      let both = (unnamed_both field o (offer_demands (filter_map (asked_on roll) (below n))) (offer_demands (cons_option (asked_on roll n) []))).0
      (subst (IsUnnamedLine field o) (sym (asked_below roll n (asked_on roll n) refl)) (subst Silent next line)) in
      either (silent_one n k) both (cases_eq n k) where
        either : (k < n → Silent n → SilentAt (asked_on roll k)) → Silent n × SilentAt (asked_on roll n) → (n ≡ k) ⊎ (n ≡ k → ⊥) → SilentAt (asked_on roll k)
        either before both (inl same) = subst (λ j. SilentAt (asked_on roll j)) same both.1
        either before both (inr other) = before (omega (arith, less, other)) both.0
