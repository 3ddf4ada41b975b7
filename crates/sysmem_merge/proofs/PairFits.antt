-- The first offer that suits participants, by pairs.
use Rattle.std.proofs.Common.{arith, ℕ, suc, ◌+◌, ◌-◌, ◌≡◌, inl, inr, Bool, true, false, ◌&&◌, List, [], ◌∷◌, ◌++◌, Some, Contains, ◌⊎◌, append_assoc, length, map, take, drop, slice_get, refl, sym, ap, ◌∙◌, subst}
use Rattle.std.specs.Option.{option_map}
use Rattle.std.proofs.lemmas.Bool.{cases_lt}
use Rattle.std.proofs.lemmas.Grind.{flat_map-append}
use Rattle.std.proofs.Math.Seq.{take-suc}
use Rattle.std.proofs.lemmas.List.{append-nil, length-map, take-append-drop}
use Rattle.std.proofs.lemmas.Option.{slice_get_within, slice_get-map, get_or_from_slice_get, same_Some}
use Rattle.list_lemmas.proofs.CallerLemmas.{slice_get_some, slice_get-append_left, slice_get-append_add}
use Rattle.sysmem_formats.specs.declared.colour_space.ColourSpace.{ColourSpace}
use Rattle.sysmem_formats.specs.declared.offer.Offer.{Offer}
use Rattle.sysmem_formats.specs.declared.offer.Offer.TheVariants.{NoImage, Image}
use Rattle.sysmem_formats.specs.declared.offer.Pair.{Pair}
use Rattle.sysmem_formats.specs.Offers.{images, offers}
use Rattle.sysmem_counts.specs.declared.field.Field.{Field}
use Rattle.sysmem_counts.specs.declared.field.Field.TheVariants.{ColorSpaces}
use Rattle.offer_fits.specs.declared.fit.Fit.{Fit}
use Rattle.sysmem_merge.specs.declared.kept.KeptBounds.{KeptBounds}
use Rattle.sysmem_merge.specs.declared.kept.KeptBounds.TheVariants.{Merged, Refused}
use Rattle.sysmem_merge.specs.declared.pair.KeptPair.{KeptPair}
use Rattle.sysmem_merge.specs.Pairs.{IsPairKept}
use Rattle.sysmem_merge.specs.Pairs as pairs
use Rattle.sysmem_merge.proofs.AnyColour.{line_any}
use Rattle.sysmem_merge.proofs.PairKeeping.{refused_offer}
use Rattle.sysmem_merge.specs.Aggregate.{AreKeptBounds}
use Rattle.sysmem_merge.specs.Best.{IsEarlierOffer}
use Rattle.sysmem_merge.specs.Demands.{OfferDemand}
use Rattle.sysmem_merge.specs.FirstFit.{IsFirstFit}
use Rattle.sysmem_merge.specs.Fit.{IsBestFit}
use Rattle.sysmem_merge.specs.Offers.{is_named, is_format_named, is_modifier_named, is_colour_named}
use Rattle.sysmem_merge.specs.Reasons.{IsOfferLine, IsOfferRefused, AreOffersRefused}
use Rattle.sysmem_merge.proofs.FirstFits.{place_of, contained_at, unnamed_line}

-- an offer that is earlier than one of the front is earlier there
pub earlier_before : (xs ys : List Offer) (o p : Offer) → Contains xs p → IsEarlierOffer (xs ++ ys) o p → IsEarlierOffer xs o p
earlier_before xs ys o p has earlier =
    let at = place_of xs p has in
    let within = at.1 in
    let below = earlier.before at.0 (slice_get-append_left xs ys at.0 within ∙ at.2) in
    record {
      index = earlier.index;
      here = sym (slice_get-append_left xs ys earlier.index (omega (arith, below, within))) ∙ earlier.here;
      before = λ k here. earlier.before k (slice_get-append_left xs ys k (slice_get_within xs k p here) ∙ here);
    }

-- one that is earlier is of the front, or earlier behind it
pub earlier_after : (xs ys : List Offer) (o p : Offer) → IsEarlierOffer (xs ++ ys) o p → Contains xs o ⊎ IsEarlierOffer ys o p
earlier_after xs ys o p earlier = elim (cases_lt earlier.index (length xs)) as (λ _. Contains xs o ⊎ IsEarlierOffer ys o p) [
  | inl below ↦ inl (contained_at xs earlier.index o (sym (slice_get-append_left xs ys earlier.index below) ∙ earlier.here))
  | inr above ↦
      let is : earlier.index ≡ length xs + (earlier.index - length xs) = omega (arith, above) in
      inr (record {
        index = earlier.index - length xs;
        here = sym (slice_get-append_add xs ys (length xs) (earlier.index - length xs) refl) ∙ (ap (slice_get (xs ++ ys)) (sym is) ∙ earlier.here);
        before = λ k here. let less = earlier.before (length xs + k) (slice_get-append_add xs ys (length xs) k refl ∙ here) in omega (arith, above, less);
      })
]

-- the offer at a place of a pair's
pub offer_in : (pair : Pair) (colours : List ColourSpace) (k : ℕ) (c : ColourSpace) (o : Offer) → slice_get colours k ≡ Some c → slice_get (map (Image pair) colours) k ≡ Some o → Image pair c ≡ o
offer_in pair colours k c o here there =
    same_Some (Image pair c) o (sym (slice_get-map (Image pair) colours k ∙ ap (option_map (Image pair)) here) ∙ there)

-- a list up to a place, its element there, and what is left
split_at : {X : Type 0} (i : ℕ) (xs : List X) (x : X) → slice_get xs i ≡ Some x → take (i + 1) xs ≡ take i xs ++ x ∷ []
split_at i xs x here =
    let next : i + 1 ≡ suc i = omega arith in
    ap (λ n. take n xs) next ∙ (take-suc xs i x (slice_get_within xs i x here) ∙ ap (λ y. take i xs ++ y ∷ []) (get_or_from_slice_get xs i x x here))

-- the offers of the pairs so far and of this one
pub images_more : (i : ℕ) (pairs : List Pair) (colours : List ColourSpace) (pair : Pair) → slice_get pairs i ≡ Some pair
    → images (take (i + 1) pairs) colours ≡ images (take i pairs) colours ++ map (Image pair) colours
images_more i pairs colours pair here =
    ap (λ ps. images ps colours) (split_at i pairs pair here)
    ∙ (flat_map-append (λ p. map (λ c. Image p c) colours) (take i pairs) (pair ∷ []) ∙ ap (λ os. images (take i pairs) colours ++ os) (append-nil (map (Image pair) colours)))

-- all offers: those of the pairs before, of this one and of those behind
pub offers_split : (i : ℕ) (pairs : List Pair) (colours : List ColourSpace) (pair : Pair) → slice_get pairs i ≡ Some pair
    → (NoImage ∷ images (take i pairs) colours) ++ (map (Image pair) colours ++ images (drop (i + 1) pairs) colours) ≡ offers pairs colours
offers_split i pairs colours pair here =
    let rest = images (drop (i + 1) pairs) colours in
    sym (append_assoc (NoImage ∷ images (take i pairs) colours) (map (Image pair) colours) rest)
    ∙ (ap (λ os. NoImage ∷ (os ++ rest)) (sym (images_more i pairs colours pair here))
    ∙ ap (λ os. NoImage ∷ os) (sym (flat_map-append (λ p. map (λ c. Image p c) colours) (take (i + 1) pairs) (drop (i + 1) pairs)) ∙ ap (λ ps. images ps colours) (take-append-drop (i + 1) pairs)))

module _ (whole : Bool) (ds : List OfferDemand) where
  -- the only offer of a list
  one_offer : (o p : Offer) → Contains (o ∷ []) p → o ≡ p
  one_offer o p has =
      let at = place_of (o ∷ []) p has in
      let first : at.0 ≡ 0 = omega (arith, at.1) in
      same_Some o p (subst (λ k. slice_get (o ∷ []) k ≡ Some p) first at.2)

  pub one_refused : (o : Offer) → IsOfferRefused whole o ds → AreOffersRefused whole (o ∷ []) ds
  one_refused o refused p has = subst (λ q. IsOfferRefused whole q ds) (one_offer o p has) refused

  -- no image is the first of all offers
  pub first_without : (pairs : List Pair) (colours : List ColourSpace) (s : Fit) → IsBestFit NoImage ds s → (whole ≡ true → is_named NoImage ds ≡ true) → IsFirstFit whole (offers pairs colours) ds s
  first_without pairs colours s best named =
      let same = best.offer in record {
        offered = contained_at (offers pairs colours) 0 s.offer (ap (λ q. Some q) (sym same));
        best = subst (λ q. IsBestFit q ds s) (sym same) best;
        named = subst (λ q. whole ≡ true → is_named q ds ≡ true) (sym same) named;
        first = λ p earlier. absurd (let less = earlier.before 0 (ap (λ q. Some q) (sym same)) in omega (arith, less));
      }

-- bounds that are refused refuse each of the pair's offers
pub refused_pair : (whole : Bool) (pair : Pair) (colours : List ColourSpace) (ds : List OfferDemand) (kept : KeptPair) (f : Field) → kept.bounds ≡ Refused f → IsPairKept pair ds kept
    → AreOffersRefused whole (map (Image pair) colours) ds
refused_pair whole pair colours ds kept f is keeps o has =
    let at = place_of (map (Image pair) colours) o has in
    let c = slice_get_some colours at.0 (omega (arith, at.1, length-map colours (Image pair))) in
    subst (λ p. IsOfferRefused whole p ds) (offer_in pair colours at.0 c.0 o c.1 at.2)
    (inl (refused_offer (Image pair c.0) ds (pairs.has kept.taken c.0) f (rw is at (keeps.each c.0).bounds)))

-- a name is not whole without its first two parts
two_false : (f m c : Bool) → (f && m) ≡ false → (f && m && c) ≡ false
two_false false m c missing = refl
two_false true false c missing = refl
two_false true true c missing = absurd (cc missing)

-- where nobody names the pair's format, or its modifier, each of its offers lacks a name
pub unnamed_pair : (whole : Bool) (pair : Pair) (colours : List ColourSpace) (ds : List OfferDemand) (kept : KeptPair) → whole ≡ true
    → (pairs.says_format kept.named && pairs.says_modifier kept.named) ≡ false → IsPairKept pair ds kept → AreOffersRefused whole (map (Image pair) colours) ds
unnamed_pair whole pair colours ds kept is missing keeps o has =
    let at = place_of (map (Image pair) colours) o has in
    let c = slice_get_some colours at.0 (omega (arith, at.1, length-map colours (Image pair))) in
    let offer = Image pair c.0 in
    let one = keeps.each c.0 in
    subst (λ p. IsOfferRefused whole p ds) (offer_in pair colours at.0 c.0 o c.1 at.2)
    (inr (
      is,
      unnamed_line offer ds
          (two_false (is_format_named offer ds) (is_modifier_named offer ds) (is_colour_named offer ds) (rw one.format at (rw one.modifier at missing))),
    ))

-- a line in a colour space that everybody takes refuses the offer in each that they take
alike_refused : (pair : Pair) (ds : List OfferDemand) (c c' : ColourSpace) (taken taken' : Bool) (bounds : KeptBounds) (f : Field) → taken ≡ true
    → AreKeptBounds (Image pair c) ds (pairs.bounds_where taken bounds) → AreKeptBounds (Image pair c') ds (pairs.bounds_where taken' bounds)
    → IsOfferLine f (Image pair c) ds → (field : Field) × IsOfferLine field (Image pair c') ds
alike_refused pair ds c c' false taken' bounds f is one other line = cc is
alike_refused pair ds c c' true false bounds f is one other line = (ColorSpaces, other.1)
alike_refused pair ds c c' true true (Merged b) f is one other line = (f, line_any pair c c' f ds one.1 line)
alike_refused pair ds c c' true true (Refused g) f is one other line = (g, other.1)

-- so it refuses each of the pair's offers
pub line_refuses : (whole : Bool) (pair : Pair) (colours : List ColourSpace) (ds : List OfferDemand) (kept : KeptPair) (c : ColourSpace) (f : Field)
    → pairs.has kept.taken c ≡ true → IsPairKept pair ds kept → IsOfferLine f (Image pair c) ds → AreOffersRefused whole (map (Image pair) colours) ds
line_refuses whole pair colours ds kept c f is keeps line o has =
    let at = place_of (map (Image pair) colours) o has in
    let other = slice_get_some colours at.0 (omega (arith, at.1, length-map colours (Image pair))) in
    subst (λ p. IsOfferRefused whole p ds) (offer_in pair colours at.0 other.0 o other.1 at.2)
    (inl (alike_refused pair ds c other.0 (pairs.has kept.taken c) (pairs.has kept.taken other.0) kept.bounds f is (keeps.each c).bounds (keeps.each other.0).bounds line))
