-- The parts of sound settings, as they are tested.
use Rattle.std.proofs.Common.{arith, ◌≡◌, ◌↔◌, ◌&&◌, ◌⊎◌, inl, inr, Bool, true, false, zero, suc, IsTrue, List, [], ◌∷◌, map, Contains, Decides, refl, sym, ap, ◌∙◌, subst}
use Rattle.std.proofs.lemmas.List.Elements.{Contains-append_left, Contains-append_right, Contains-append_cases}
use Rattle.sysmem_formats.specs.declared.colour_space.ColourSpace.{ColourSpace}
use Rattle.sysmem_formats.specs.declared.offer.Offer.{Offer}
use Rattle.sysmem_formats.specs.declared.offer.Offer.TheVariants.{NoImage, Image}
use Rattle.sysmem_formats.specs.declared.offer.Pair.{Pair}
use Rattle.sysmem_formats.specs.Offers.{offers, images}
use Rattle.sysmem_image.specs.declared.bounds.ImageBounds.{ImageBounds}
use Rattle.sysmem_image.specs.Bounds.{IsOwn, IsTighter}
use Rattle.sysmem_image.specs.Fields.{Bound, Side, Keeps, rule_of, value}
use Rattle.sysmem_image.proofs.CallerLemmas.{tighter_refl}
use Rattle.sysmem_merge.specs.Fit.{OwnWithoutImage}
use Rattle.sysmem_merge.proofs.OneBest.{same_bounds}
use Rattle.negotiation_inputs.specs.Platform.{PlatformFacts, offers_of}

-- bounds with the same numbers keep to each other
tighter : (a b : ImageBounds) → ((f : Bound) (side : Side) → value f side a ≡ value f side b) → IsTighter a b
tighter a b same f side = subst (λ n. Keeps (rule_of f) n (value f side a)) (same f side) (tighter_refl a f side)

-- bounds are those of no entry exactly where they equal one that is
own_test : (o : Offer) (b own : ImageBounds) (r : Bool) → IsOwn o own → Decides r (b ≡ own) → IsTrue r ↔ IsOwn o b
own_test o b own r is decides = (
  λ yes f side. ap (value f side) (decides.0 yes) ∙ is f side,
  λ owns. decides.1 (same_bounds b own (tighter b own (λ f side. owns f side ∙ sym (is f side))) (tighter own b (λ f side. is f side ∙ sym (owns f side)))),
)

-- the same where there is no image
pub own_none : (o : Offer) (b own : ImageBounds) (r : Bool) → o ≡ NoImage → IsOwn o own → Decides r (b ≡ own) → IsTrue r ↔ OwnWithoutImage o b
own_none o b own r none is decides = subst (λ p. IsTrue r ↔ OwnWithoutImage p b) (sym none) (own_test NoImage b own r (subst (λ p. IsOwn p own) none is) decides)

-- an element of a list is its first, or one of the others
cons_cases : {X : Type 0} (x : X) (xs : List X) (y : X) → Contains (x ∷ xs) y → (x ≡ y) ⊎ Contains xs y
cons_cases x xs y (zero, below, is) = inl is
cons_cases x xs y (suc k, below, is) = inr (k, omega (arith, below), is)

no_element : {X : Type 0} (y : X) → Contains [] y → ⊥
no_element y (k, below, is) = omega (arith, below)

later : {X : Type 0} (x : X) (xs : List X) (y : X) → Contains xs y → Contains (x ∷ xs) y
later x xs y has = Contains-append_right (x ∷ []) xs y has

-- an image of a pair in each colour space
colours_in : (p : Pair) (cs : List ColourSpace) (c : ColourSpace) → Contains cs c → Contains (map (λ d. Image p d) cs) (Image p c)
colours_in p [] c has = absurd (no_element c has)
colours_in p (d ∷ cs) c has = elim (cons_cases d cs c has) as (λ _. Contains (map (λ e. Image p e) (d ∷ cs)) (Image p c)) [
  | inl same ↦ (0, omega arith, ap (λ e. Image p e) same)
  | inr there ↦ later (Image p d) (map (λ e. Image p e) cs) (Image p c) (colours_in p cs c there)
]

colours_out : (p : Pair) (cs : List ColourSpace) (q : Pair) (c : ColourSpace) → Contains (map (λ d. Image p d) cs) (Image q c) → (p ≡ q) × Contains cs c
colours_out p [] q c has = absurd (no_element (Image q c) has)
colours_out p (d ∷ cs) q c has = elim (cons_cases (Image p d) (map (λ e. Image p e) cs) (Image q c) has) as (λ _. (p ≡ q) × Contains (d ∷ cs) c) [
  | inl same ↦ (cc same, (0, omega arith, cc same))
  | inr there ↦ let rest = colours_out p cs q c there in (rest.0, later d cs c rest.1)
]

-- an image of each pair in each colour space
images_in : (ps : List Pair) (cs : List ColourSpace) (p : Pair) (c : ColourSpace) → Contains ps p → Contains cs c → Contains (images ps cs) (Image p c)
images_in [] cs p c has_pair has_colour = absurd (no_element p has_pair)
images_in (q ∷ ps) cs p c has_pair has_colour = elim (cons_cases q ps p has_pair) as (λ _. Contains (images (q ∷ ps) cs) (Image p c)) [
  | inl same ↦ Contains-append_left (map (λ d. Image q d) cs) (images ps cs) (Image p c)
      (subst (λ r. Contains (map (λ d. Image r d) cs) (Image p c)) (sym same) (colours_in p cs c has_colour))
  | inr there ↦ Contains-append_right (map (λ d. Image q d) cs) (images ps cs) (Image p c) (images_in ps cs p c there has_colour)
]

images_out : (ps : List Pair) (cs : List ColourSpace) (p : Pair) (c : ColourSpace) → Contains (images ps cs) (Image p c) → Contains ps p × Contains cs c
images_out [] cs p c has = absurd (no_element (Image p c) has)
images_out (q ∷ ps) cs p c has = elim (Contains-append_cases (map (λ d. Image q d) cs) (images ps cs) (Image p c) has) as (λ _. Contains (q ∷ ps) p × Contains cs c) [
  | inl here ↦ let of_q = colours_out q cs p c here in ((0, omega arith, of_q.0), of_q.1)
  | inr there ↦ let rest = images_out ps cs p c there in (later q ps p rest.0, rest.1)
]

both_true : (a b : Bool) → (a && b) ≡ true → (a ≡ true) × (b ≡ true)
both_true true true is = (refl, refl)
both_true true false is = cc is
both_true false b is = cc is

-- an image is offered exactly where its pair and its colour space are listed
image_test : (ps : List Pair) (cs : List ColourSpace) (p : Pair) (c : ColourSpace) (has_pair has_colour : Bool) → Decides has_pair (Contains ps p) → Decides has_colour (Contains cs c)
    → Decides (has_pair && has_colour) (Contains (offers ps cs) (Image p c))
image_test ps cs p c has_pair has_colour pairs colours = (
  λ yes.
      let both = both_true has_pair has_colour yes in
      later NoImage (images ps cs) (Image p c) (images_in ps cs p c (pairs.0 both.0) (colours.0 both.1)),
  λ has. elim (cons_cases NoImage (images ps cs) (Image p c) has) as (λ _. (has_pair && has_colour) ≡ true) [
    | inl same ↦ absurd (cc same)
    | inr there ↦ let both = images_out ps cs p c there in ap (λ b. b && has_colour) (pairs.1 both.0) ∙ colours.1 both.1
  ],
)

-- the same of a platform's lists as they are read
pub offered_test : (platform : PlatformFacts) (o : Offer) (ps : List Pair) (cs : List ColourSpace) (p : Pair) (c : ColourSpace) (has_pair has_colour : Bool) → o ≡ Image p c
    → ps ≡ platform.pairs → cs ≡ platform.colours → Decides has_pair (Contains ps p) → Decides has_colour (Contains cs c)
    → Decides (has_pair && has_colour) (Contains (offers_of platform) o)
offered_test platform o ps cs p c has_pair has_colour is same_pairs same_colours pairs colours =
    subst (λ x. Decides (has_pair && has_colour) (Contains (offers_of platform) x)) (sym is)
    (subst (λ qs. Decides (has_pair && has_colour) (Contains (offers qs platform.colours) (Image p c))) same_pairs
    (subst (λ ds. Decides (has_pair && has_colour) (Contains (offers ps ds) (Image p c))) same_colours (image_test ps cs p c has_pair has_colour pairs colours)))
