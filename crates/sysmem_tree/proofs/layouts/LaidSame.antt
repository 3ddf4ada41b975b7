-- Two layouts, place by place.
use Rattle.std.proofs.Common.{◌≡◌, ◌≢◌, ◌↔◌, ℕ, suc, ◌+◌, ◌-◌, ◌<◌, ◌≤◌, List, [], ◌∷◌, length, map, drop, get_or, Option, Some, slice_get, refl, sym, ◌∙◌, ap, arith}
use Rattle.std.proofs.lemmas.List.{length-map, length-drop}
use Rattle.std.proofs.lemmas.Option.{get_or_from_slice_get}
use Rattle.sysmem_tree.specs.declared.layout.LayoutPlace.{LayoutPlace}
use Rattle.sysmem_tree.specs.Members.{shown_at}
use Rattle.sysmem_tree.specs.Node.{NodeFacts}
use Rattle.sysmem_tree.specs.Shape.{Member}
use Rattle.sysmem_tree.proofs.forests.Numbers.{front}
use Rattle.sysmem_tree.proofs.selections.Onward.{nothing_left}
use Rattle.sysmem_tree.proofs.layouts.Picking.{nodes_from}

-- what the nodes show that stand from a place on
abbrev pub shown_from : List NodeFacts → List LayoutPlace → ℕ → List (Option Member)
shown_from xs ps k = map (shown_at xs) (nodes_from ps k)

shown_here : (xs : List NodeFacts) (ps : List LayoutPlace) (k : ℕ) (d : LayoutPlace) → k < length ps → shown_from xs ps k ≡ shown_at xs (get_or ps k d).node ∷ shown_from xs ps (k + 1)
shown_here xs ps k d less =
    let (p, at, is) = front ps k less in
    let same : get_or ps k d ≡ p = get_or_from_slice_get ps k p d at in
    let next : suc k ≡ k + 1 = omega arith in
    ap (λ qs. map (shown_at xs) (map (λ (q : LayoutPlace). q.node) qs)) is
    ∙ (ap (λ (q : LayoutPlace). shown_at xs q.node ∷ shown_from xs ps (suc k)) (sym same)
    ∙ ap (λ (j : ℕ). shown_at xs (get_or ps k d).node ∷ shown_from xs ps j) next)

long_from : (xs : List NodeFacts) (ps : List LayoutPlace) (k : ℕ) → length (shown_from xs ps k) ≡ length ps - k
long_from xs ps k = length-map (nodes_from ps k) (shown_at xs) ∙ (length-map (drop k ps) (λ (q : LayoutPlace). q.node) ∙ length-drop k ps)

module _ (xs ys : List NodeFacts) (ps qs : List LayoutPlace) (long : length ps ≡ 128) (long' : length qs ≡ 128) where
  -- the nodes of both show the same from this place on
  abbrev pub ShowSame : ℕ → Type 0
  ShowSame k = shown_from xs ps k ≡ shown_from ys qs k

  pub same_on : (k : ℕ) (d e : LayoutPlace) → k < 128 → shown_at xs (get_or ps k d).node ≡ shown_at ys (get_or qs k e).node → ShowSame (k + 1) ↔ ShowSame k
  same_on k d e less same =
      let here = shown_here xs ps k d (omega (arith, less, long)) in
      let there = shown_here ys qs k e (omega (arith, less, long')) in (
        λ rest. here ∙ (ap (λ o. o ∷ shown_from xs ps (k + 1)) same ∙ (ap (λ os. shown_at ys (get_or qs k e).node ∷ os) rest ∙ sym there)),
        λ all. (let both = sym here ∙ (all ∙ there) in cc),
      )

  pub differ_here : (k : ℕ) (d e : LayoutPlace) → k < 128 → shown_at xs (get_or ps k d).node ≢ shown_at ys (get_or qs k e).node → ShowSame k → ⊥
  differ_here k d e less apart all =
      let both = sym (shown_here xs ps k d (omega (arith, less, long))) ∙ (all ∙ shown_here ys qs k e (omega (arith, less, long'))) in
      apart (cc)

  pub none_left : (k : ℕ) → 128 ≤ k → ShowSame k
  none_left k over =
      ap (λ rs. map (shown_at xs) (map (λ (q : LayoutPlace). q.node) rs)) (nothing_left ps k (omega (arith, over, long)))
      ∙ sym (ap (λ rs. map (shown_at ys) (map (λ (q : LayoutPlace). q.node) rs)) (nothing_left qs k (omega (arith, over, long'))))

  -- layouts that start elsewhere hold fewer nodes or more
  pub other_start : (j k : ℕ) → j ≤ 128 → k ≤ 128 → j ≢ k → shown_from xs ps j ≡ shown_from ys qs k → ⊥
  other_start j k few few' apart all = let many = ap length all in apart (omega (arith, many, few, few', long, long', long_from xs ps j, long_from ys qs k))
