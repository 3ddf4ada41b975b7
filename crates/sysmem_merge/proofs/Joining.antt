-- What is kept of an offer for the participants of two lists.
use Rattle.std.proofs.Common.{arith, ℕ, ◌+◌, ◌<◌, ◌≤◌, ◌≡◌, ◌||◌, Bool, false, List, ◌++◌, Any, Some, length, slice_get, slice_set, refl, sym, ap, ◌∙◌, subst, below_more}
use Rattle.std.specs.List.{list_any}
use Rattle.std.proofs.lemmas.List.{length-set}
use Rattle.std.proofs.lemmas.List.Elements.{All-append, filter_map-append, Contains-append_left, Contains-append_right}
use Rattle.std.proofs.lemmas.List.Folds.{list_any-append}
use Rattle.std.proofs.lemmas.Option.{slice_get_within}
use Rattle.list_lemmas.proofs.CallerLemmas.{slice_get_some, slice_get-set_same, slice_get-set_other}
use Rattle.sysmem_counts.specs.declared.field.Field.{Field}
use Rattle.sysmem_counts.specs.declared.field.Field.TheVariants.{PixelFormat, ColorSpaces, SizeAlignment, BytesPerRowDivisor, StartOffsetDivisor, DisplayRectAlignment}
use Rattle.sysmem_formats.specs.declared.offer.Offer.{Offer}
use Rattle.sysmem_image.specs.declared.bounds.ImageBounds.{ImageBounds}
use Rattle.sysmem_image.specs.Entries.{first_match}
use Rattle.sysmem_image.specs.Lines.{IsBoundsLine, IsFirstLine, IsSteady}
use Rattle.sysmem_image.specs.Merged.{MergedOf}
use Rattle.sysmem_image.proofs.CallerLemmas.{steady_first, steady_second}
use Rattle.sysmem_merge.specs.declared.kept.KeptBounds.{KeptBounds}
use Rattle.sysmem_merge.specs.declared.kept.KeptBounds.TheVariants.{Merged, Refused}
use Rattle.sysmem_merge.specs.declared.kept.KeptOffer.{KeptOffer}
use Rattle.sysmem_merge.specs.Aggregate.{IsLasting, IsListed, AreKeptBounds, IsKept, AreKept}
use Rattle.sysmem_merge.specs.Demands.{OfferDemand}
use Rattle.sysmem_merge.specs.Offers.{has_format, has_colour, entry_bounds, bounds_asked, names_format, names_modifier, names_colour}
use Rattle.sysmem_merge.specs.Reasons.{IsOfferLine}
use Rattle.sysmem_merge.proofs.Keeping.{steady_lasts, IsRefusing}
use Rattle.sysmem_merge.proofs.Many.{IsKeptAt}

-- the bounds that two lists ask
asked_both : (o : Offer) (ds es : List OfferDemand) → bounds_asked o (ds ++ es) ≡ bounds_asked o ds ++ bounds_asked o es
asked_both o ds es = filter_map-append (entry_bounds o) ds es

-- what some of either list have, some of both have
any_first : {X : Type 0} (P : X → Type 0) (xs ys : List X) → Any P xs → Any P (xs ++ ys)
any_first P xs ys (k, x, below, is, p) = let at = Contains-append_left xs ys x (k, below, is) in (at.0, x, at.1, at.2, p)

any_second : {X : Type 0} (P : X → Type 0) (xs ys : List X) → Any P ys → Any P (xs ++ ys)
any_second P xs ys (k, x, below, is, p) = let at = Contains-append_right xs ys x (k, below, is) in (at.0, x, at.1, at.2, p)

-- a line about a common multiple that is true of either is true of both
steady_of_first : (f : Field) → IsSteady f → (o : Offer) (ds es : List OfferDemand) → IsBoundsLine f o (bounds_asked o ds) → IsBoundsLine f o (bounds_asked o (ds ++ es))
steady_of_first f steady o ds es line = subst (IsBoundsLine f o) (sym (asked_both o ds es)) (steady_first f steady o (bounds_asked o ds) (bounds_asked o es) line)

steady_of_second : (f : Field) → IsSteady f → (o : Offer) (ds es : List OfferDemand) → IsBoundsLine f o (bounds_asked o es) → IsBoundsLine f o (bounds_asked o (ds ++ es))
steady_of_second f steady o ds es line = subst (IsBoundsLine f o) (sym (asked_both o ds es)) (steady_second f steady o (bounds_asked o ds) (bounds_asked o es) line)

-- a lasting line of either is a line of both
lasting_first : (f : Field) → IsLasting f → (o : Offer) (ds es : List OfferDemand) → IsOfferLine f o ds → IsOfferLine f o (ds ++ es)
lasting_first PixelFormat lasting o ds es line = any_first (λ d. has_format o d ≡ false) ds es line
lasting_first ColorSpaces lasting o ds es line = any_first (λ d. has_colour o d ≡ false) ds es line
lasting_first SizeAlignment lasting o ds es line = steady_of_first SizeAlignment tt o ds es line
lasting_first BytesPerRowDivisor lasting o ds es line = steady_of_first BytesPerRowDivisor tt o ds es line
lasting_first StartOffsetDivisor lasting o ds es line = steady_of_first StartOffsetDivisor tt o ds es line
lasting_first DisplayRectAlignment lasting o ds es line = steady_of_first DisplayRectAlignment tt o ds es line
lasting_first _ lasting o ds es line = absurd lasting

lasting_second : (f : Field) → IsLasting f → (o : Offer) (ds es : List OfferDemand) → IsOfferLine f o es → IsOfferLine f o (ds ++ es)
lasting_second PixelFormat lasting o ds es line = any_second (λ d. has_format o d ≡ false) ds es line
lasting_second ColorSpaces lasting o ds es line = any_second (λ d. has_colour o d ≡ false) ds es line
lasting_second SizeAlignment lasting o ds es line = steady_of_second SizeAlignment tt o ds es line
lasting_second BytesPerRowDivisor lasting o ds es line = steady_of_second BytesPerRowDivisor tt o ds es line
lasting_second StartOffsetDivisor lasting o ds es line = steady_of_second StartOffsetDivisor tt o ds es line
lasting_second DisplayRectAlignment lasting o ds es line = steady_of_second DisplayRectAlignment tt o ds es line
lasting_second _ lasting o ds es line = absurd lasting

-- what either refuses, both refuse
pub refused_first : (f : Field) (o : Offer) (ds es : List OfferDemand) → AreKeptBounds o ds (Refused f) → AreKeptBounds o (ds ++ es) (Refused f)
refused_first f o ds es are = (are.0, lasting_first f are.0 o ds es are.1)

pub refused_second : (f : Field) (o : Offer) (ds es : List OfferDemand) → AreKeptBounds o es (Refused f) → AreKeptBounds o (ds ++ es) (Refused f)
refused_second f o ds es are = (are.0, lasting_second f are.0 o ds es are.1)

-- the bounds that were merged of both
pub merged_together : (o : Offer) (ds es : List OfferDemand) (a b m : ImageBounds) → AreKeptBounds o ds (Merged a) → AreKeptBounds o es (Merged b)
    → MergedOf o (bounds_asked o ds ++ bounds_asked o es) m → AreKeptBounds o (ds ++ es) (Merged m)
merged_together o ds es a b m left right merged = (
  subst (λ bs. MergedOf o bs m) (sym (asked_both o ds es)) merged,
  All-append (IsListed o) ds es left.1 right.1,
)

-- the multiple of both bounds is above the limit
pub refused_together : (f : Field) (o : Offer) (ds es : List OfferDemand) → IsSteady f → IsFirstLine f o (bounds_asked o ds ++ bounds_asked o es)
    → AreKeptBounds o (ds ++ es) (Refused f)
refused_together f o ds es steady first =
    steady_lasts f steady o (ds ++ es) (subst (IsBoundsLine f o) (sym (asked_both o ds es)) first.line)

-- whether one of two lists passes a test
both_named : (f : OfferDemand → Bool) (ds es : List OfferDemand) (a b : Bool) → a ≡ list_any f ds → b ≡ list_any f es → (a || b) ≡ list_any f (ds ++ es)
both_named f ds es a b first second = ap (λ z. z || b) first ∙ (ap (λ z. list_any f ds || z) second ∙ sym (list_any-append f ds es))

-- what is kept of the offer for both, part by part
pub kept_together : (o : Offer) (ds es : List OfferDemand) (a b : KeptOffer) (bounds : KeptBounds) → AreKeptBounds o (ds ++ es) bounds → IsKept o ds a → IsKept o es b
    → IsKept o (ds ++ es) (record {
      bounds = bounds;
      format_named = a.format_named || b.format_named;
      modifier_named = a.modifier_named || b.modifier_named;
      colour_named = a.colour_named || b.colour_named;
    })
kept_together o ds es a b bounds are left right = record {
  bounds = are;
  format = both_named (λ d. names_format (first_match o d.entries)) ds es a.format_named b.format_named left.format right.format;
  modifier = both_named (λ d. names_modifier (first_match o d.entries)) ds es a.modifier_named b.modifier_named left.modifier right.modifier;
  colour = both_named (λ d. names_colour o (first_match o d.entries)) ds es a.colour_named b.colour_named left.colour right.colour;
}

-- the first i offers are kept for these participants
pub record AreKeptBefore (i : ℕ) (os : List Offer) (ds : List OfferDemand) (kept : List KeptOffer) : Type 0 where
  pub many : length kept ≡ length os
  pub done : (k : ℕ) → k < i → IsKeptAt os ds kept k

-- before the first, whatever is kept
pub none_yet : (os : List Offer) (others ds : List OfferDemand) (kept : List KeptOffer) → AreKept os others kept → AreKeptBefore 0 os ds kept
none_yet os others ds kept are = record { many = are.many; done = λ k below. absurd (omega (arith, below)) }

-- one offer more
pub one_joined : (i : ℕ) (os : List Offer) (ds : List OfferDemand) (kept : List KeptOffer) (one new : KeptOffer) → slice_get kept i ≡ Some one
    → ((o : Offer) → slice_get os i ≡ Some o → IsKept o ds new) → AreKeptBefore i os ds kept → AreKeptBefore (i + 1) os ds (slice_set kept i new)
one_joined i os ds kept one new here is before = record {
  many = length-set kept i new ∙ before.many;
  done = below_more (IsKeptAt os ds (slice_set kept i new)) i
      (λ k below o sooner there got. before.done k below o sooner there (slice_get-set_other kept i k new sooner (λ e. omega (arith, e, below)) got))
      (λ o written there got. subst (IsKept o ds) (slice_get-set_same kept i new written (slice_get_within kept i one here) got) (is o there));
}

-- after the last, all
pub all_joined : (i : ℕ) (os : List Offer) (ds : List OfferDemand) (kept : List KeptOffer) → length kept ≤ i → AreKeptBefore i os ds kept → AreKept os ds kept
all_joined i os ds kept past before = record { many = before.many; each = λ k o one there got. before.done k (omega (arith, past, slice_get_within kept k one got)) o one there got }

-- what is kept of the offer at a place of both lists
pub joined_at : (i : ℕ) (os : List Offer) (ds es : List OfferDemand) (above more : List KeptOffer) (new : KeptOffer) → AreKept os ds above → AreKept os es more
    → ((a b : KeptOffer) → slice_get above i ≡ Some a → slice_get more i ≡ Some b → (o : Offer) (ds es : List OfferDemand) → IsKept o ds a → IsKept o es b → IsKept o (ds ++ es) new)
    → (o : Offer) → slice_get os i ≡ Some o → IsKept o (ds ++ es) new
joined_at i os ds es above more new kept_above kept_more joins o there =
    let within = slice_get_within os i o there in
    let a = slice_get_some above i (omega (arith, within, kept_above.many)) in
    let b = slice_get_some more i (omega (arith, within, kept_more.many)) in
    joins a.0 b.0 a.1 b.1 o ds es (kept_above.each i o a.0 there a.1) (kept_more.each i o b.0 there b.1)

-- where the second is refused, both are, for its field if the first wasn't
pub refused_by_second : (f : Field) (o : Offer) (ds es : List OfferDemand) (old new : KeptBounds) → IsRefusing f old new → AreKeptBounds o ds old → AreKeptBounds o es (Refused f)
    → AreKeptBounds o (ds ++ es) new
refused_by_second f o ds es (Merged b) new refusing left right = rw (refusing.first b refl) (refused_second f o ds es right)
refused_by_second f o ds es (Refused earlier) new refusing left right = rw (refusing.still earlier refl) (refused_first earlier o ds es left)
