-- What a child's place settles, and the walk over it.
use Rattle.std.proofs.Common.{◌≡◌, ◌≤◌, ◌<◌, ℕ, zero, suc, ◌+◌, ◌++◌, Bool, true, false, List, [], ◌∷◌, Option, Some, None, length, get_or, slice_get, refl, sym, ◌∙◌, ap, subst, arith}
use Rattle.std.specs.Prelude.{IfSome, IsPermutation, map}
use Rattle.std.proofs.lemmas.Bool.{lt-ltb, le-ltb}
use Rattle.std.proofs.lemmas.List.{append_assoc, map-append}
use Rattle.std.proofs.lemmas.List.Sorted.{IsPermutation-append_comm, IsPermutation-append_right}
use Rattle.std.proofs.lemmas.Option.{same_Some, slice_get_within, get_or_from_slice_get}
use Rattle.sysmem_tree.specs.declared.layout.Layout.{Layout}
use Rattle.sysmem_tree.specs.declared.layout.LayoutPlace.{LayoutPlace}
use Rattle.sysmem_tree.specs.Forest.{Forest, Empty, Plain, Group, each, settled, relabel}
use Rattle.sysmem_tree.specs.Layout.{Spot, start, behind, AreLaid, IsLayout}
use Rattle.sysmem_tree.specs.LayoutLaws.{Settles}
use Rattle.sysmem_tree.specs.OpenGroups.{node_of, IsChildPlace, HasChild, with_below, forest_between, end_of, tree_at, share_of, place_after, WalksTo}
use Rattle.sysmem_tree.specs.Selection.{after}
use Rattle.sysmem_tree.proofs.layouts.GroupWalks.{ChildSteps, child_steps, child_there}
use Rattle.sysmem_tree.proofs.layouts.Layouts.{starts_before}
use Rattle.sysmem_tree.proofs.forests.SameForest.{if_true, if_false}
use Rattle.sysmem_tree.proofs.selections.Selections.{settled_relabel}
use Rattle.sysmem_tree.proofs.layouts.Settling.{Meets, meets_settled}
use Rattle.sysmem_tree.proofs.layouts.Walks.{alternative_laid}

-- the places hold the forest that was laid out in them
module _ (ps : List LayoutPlace) where
  none_between : (many at to : ℕ) → to ≤ at → forest_between many ps at to ≡ Empty
  none_between zero at to less = refl
  none_between (suc many) at to less = if_false _ _ Empty (le-ltb at to less)

  some_between : (many at to : ℕ) (p : LayoutPlace) → at < to → slice_get ps at ≡ Some p → forest_between (suc many) ps at to ≡ with_below (forest_between many ps) at to (Some p)
  some_between many at to p less here = if_true _ _ Empty (lt-ltb at to less) ∙ ap (with_below (forest_between many ps) at to) here

  pub reads : (many : ℕ) (g : Bool) (w : Forest Spot) (at to : ℕ) (next : Option ℕ) → AreLaid g ps w to next → start w to ≡ at → to ≤ at + many → forest_between many ps at to ≡ relabel node_of w
  reads many g Empty at to next l s small = none_between many at to (omega (arith, s))
  reads zero g (Plain s kids rest) at to next l here small =
      let x = starts_before g ps rest to next l.2 in
      let y = starts_before false ps kids (start rest to) (behind g rest next) l.1 in absurd (omega (arith, x, y, l.0.kids_here, here, small))
  reads zero g (Group s kids rest) at to next l here small =
      let x = starts_before g ps rest to next l.2 in
      let y = starts_before true ps kids (start rest to) (behind g rest next) l.1 in absurd (omega (arith, x, y, l.0.kids_here, here, small))
  reads (suc many) g (Plain s kids rest) at to next l here small =
      let x = starts_before g ps rest to next l.2 in
      let y = starts_before false ps kids (start rest to) (behind g rest next) l.1 in
      let below = reads many false kids (at + 1) (start rest to) (behind g rest next) l.1 (l.0.kids_here ∙ ap (λ i. i + 1) here) (omega (arith, x, small)) in
      let others = reads many g rest (start rest to) to next l.2 refl (omega (arith, y, l.0.kids_here, here, small)) in
      some_between many at to _ (omega (arith, x, y, l.0.kids_here, here)) (ap (slice_get ps) (sym here) ∙ l.0.here)
      ∙ (ap (λ z. Plain s.node z (forest_between many ps (start rest to) to)) below ∙ ap (Plain s.node (relabel node_of kids)) others)
  reads (suc many) g (Group s kids rest) at to next l here small =
      let x = starts_before g ps rest to next l.2 in
      let y = starts_before true ps kids (start rest to) (behind g rest next) l.1 in
      let below = reads many true kids (at + 1) (start rest to) (behind g rest next) l.1 (l.0.kids_here ∙ ap (λ i. i + 1) here) (omega (arith, x, small)) in
      let others = reads many g rest (start rest to) to next l.2 refl (omega (arith, y, l.0.kids_here, here, small)) in
      some_between many at to _ (omega (arith, x, y, l.0.kids_here, here)) (ap (slice_get ps) (sym here) ∙ l.0.here)
      ∙ (ap (λ z. Group s.node z (forest_between many ps (start rest to) to)) below ∙ ap (Group s.node (relabel node_of kids)) others)

  -- an alternative has a place
  kid_there : (kids : Forest Spot) (to : ℕ) (next : Option ℕ) → AreLaid true ps kids to next → (k : ℕ) (kid : Forest Spot) → slice_get (each kids) k ≡ Some kid
      → (p : LayoutPlace) × (slice_get ps (start kid 0) ≡ Some p)
  kid_there Empty to next l k kid is = absurd (cc)
  kid_there (Plain s kk ks) to next l zero kid is = (_, ap (λ x. slice_get ps (start x 0)) (sym (same_Some (Plain s kk Empty) kid is)) ∙ l.0.here)
  kid_there (Group s kk ks) to next l zero kid is = (_, ap (λ x. slice_get ps (start x 0)) (sym (same_Some (Group s kk Empty) kid is)) ∙ l.0.here)
  kid_there (Plain s kk ks) to next l (suc k) kid is = kid_there ks to next l.2 k kid is
  kid_there (Group s kk ks) to next l (suc k) kid is = kid_there ks to next l.2 k kid is

  -- a walk meets the nodes of what it settles
  pub gives : (to at : ℕ) (ss : List Spot) → Meets ps to at ss → WalksTo ps at to (map node_of ss)
  gives to at [] m = m
  gives to at (s ∷ ss) m = let (p, there, node, up, on) = m.1 in (m.0, (p, there, node, up, gives to (place_after p at) ss on))

-- the child at a place
module _ (layout : Layout) (at : ℕ) (h : HasChild layout at) where
  pub child_entry : (p : LayoutPlace) × (slice_get layout.places at ≡ Some p)
  child_entry =
      let (p, there) = kid_there layout.places h.kids h.alternatives.to h.alternatives.next h.alternatives.laid h.number h.kid h.is_kid in
      (p, ap (slice_get layout.places) (sym h.here) ∙ there)

  pub child_within : at < length layout.places
  child_within = let (p, there) = child_entry in slice_get_within layout.places at p there

  end_read : (d : LayoutPlace) → end_of (slice_get layout.places at) ≡ (get_or layout.places at d).end
  end_read d =
      let (p, there) = child_entry in
      ap end_of there ∙ sym (ap (λ (q : LayoutPlace). q.end) (get_or_from_slice_get layout.places at p d there))

  pub child_tree : tree_at layout at ≡ relabel node_of h.kid
  child_tree =
      let (p, there) = child_entry in
      let (laid, from, small) = alternative_laid layout.places h.kids h.alternatives.to h.alternatives.next h.alternatives.laid h.alternatives.small h.number h.kid h.is_kid at h.here p in
      ap (forest_between 128 layout.places at) (end_read p) ∙ reads layout.places 128 true h.kid at (get_or layout.places at p).end h.alternatives.next laid from (omega (arith, small))

  pub child_share : share_of layout at ≡ map node_of (settled h.kid)
  child_share = ap settled child_tree ∙ settled_relabel node_of h.kid

  pub gives_share : (d : LayoutPlace) → WalksTo layout.places at (get_or layout.places at d).end (share_of layout at)
  gives_share d =
      let (laid, from, small) = alternative_laid layout.places h.kids h.alternatives.to h.alternatives.next h.alternatives.laid h.alternatives.small h.number h.kid h.is_kid at h.here d in
      let met = subst (λ i. Meets layout.places (get_or layout.places at d).end i (settled h.kid)) from (meets_settled layout.places true h.kid (get_or layout.places at d).end h.alternatives.next laid) in
      subst (WalksTo layout.places at (get_or layout.places at d).end) (sym child_share) (gives layout.places (get_or layout.places at d).end at (settled h.kid) met)

-- the same where the place is told by another name
pub gives_share_as : (layout : Layout) (at i : ℕ) → i ≡ at → HasChild layout at → (d : LayoutPlace) → WalksTo layout.places i (get_or layout.places i d).end (share_of layout at)
gives_share_as layout at i is h d = subst (λ j. WalksTo layout.places j (get_or layout.places j d).end (share_of layout at)) (sym is) (gives_share layout at h d)

-- what no choice settles
pub gives_first : (layout : Layout) (d : Forest ℕ) → IsLayout layout d → WalksTo layout.places layout.start 128 (settled d)
gives_first layout d laid =
    let met = subst (λ i. Meets layout.places 128 i (settled laid.spots)) laid.starts (meets_settled layout.places false laid.spots 128 None laid.laid) in
    subst (WalksTo layout.places layout.start 128) (sym (settled_relabel node_of laid.spots) ∙ ap settled laid.numbers) (gives layout.places 128 layout.start (settled laid.spots) met)

-- what a choice adds to what was settled
added : {X : Type 0} (fs bs ss : List X) → IsPermutation ((fs ++ bs) ++ ss) (fs ++ (ss ++ bs))
added fs bs ss = subst (λ xs. IsPermutation xs (fs ++ (ss ++ bs))) (sym (append_assoc fs bs ss)) (IsPermutation-append_right fs (bs ++ ss) (ss ++ bs) (IsPermutation-append_comm bs ss))

pub choice_settles_share : (layout : Layout) (d : Forest ℕ) (cs : List ℕ) (k at : ℕ) → IsChildPlace layout d cs k at → Settles layout d cs k at
choice_settles_share layout d cs k at h =
    let s : ChildSteps layout d cs k at h = child_steps layout d cs k at h in
    let fs = map node_of s.step.front in
    let bs = map node_of s.step.back in
    let share : share_of layout at ≡ map node_of (settled s.step.kid) = child_share layout at (child_there layout d cs k at h) ∙ ap (λ x. map node_of (settled x)) (sym s.same_kid) in
    let old : settled (relabel node_of h.left) ≡ fs ++ bs = settled_relabel node_of h.left ∙ (ap (map node_of) s.step.settled_before ∙ map-append node_of s.step.front s.step.back) in
    let new : settled (relabel node_of s.left) ≡ fs ++ (share_of layout at ++ bs) =
    settled_relabel node_of s.left ∙ (ap (map node_of) s.step.settled_after
    ∙ (map-append node_of s.step.front (settled s.step.kid ++ s.step.back) ∙ ap (λ xs. fs ++ xs) (map-append node_of (settled s.step.kid) s.step.back ∙ ap (λ xs. xs ++ bs) (sym share)))) in
    record {
      left = relabel node_of s.left;
      leads = s.leads;
      adds = subst (λ o. IfSome o (λ e. IsPermutation (settled e ++ share_of layout at) (settled (relabel node_of s.left)))) (sym h.leaves.leads)
          (subst (λ xs. IsPermutation (xs ++ share_of layout at) (settled (relabel node_of s.left))) (sym old)
          (subst (IsPermutation ((fs ++ bs) ++ share_of layout at)) (sym new) (added fs bs (share_of layout at))));
    }

-- one step of a walk
module _ (ps : List LayoutPlace) (at to : ℕ) where
  pub ends : (ns : List ℕ) → to ≤ at → WalksTo ps at to ns → ns ≡ []
  ends [] less g = refl
  ends (n ∷ ns) less g = absurd (omega (arith, less, g.0))

  pub walk_within : (ns : List ℕ) → at < to → WalksTo ps at to ns → at < length ps
  walk_within [] less g = absurd (omega (arith, less, g))
  walk_within (n ∷ ns) less g = let (p, there, _, _, _) = g.1 in slice_get_within ps at p there

  pub walks_on : (d : LayoutPlace) (ns : List ℕ) (after : ℕ) → at < to → WalksTo ps at to ns → after ≡ place_after (get_or ps at d) at
      → (rest : List ℕ) × (ns ≡ (get_or ps at d).node ∷ rest) × WalksTo ps after to rest
  walks_on d [] after less g is = absurd (omega (arith, less, g))
  walks_on d (n ∷ ns) after less g is =
      let (p, there, node, up, on) = g.1 in
      let same : get_or ps at d ≡ p = get_or_from_slice_get ps at p d there in
      (ns, ap (λ x. x ∷ ns) (sym node ∙ ap (λ (q : LayoutPlace). q.node) (sym same)), subst (λ i. WalksTo ps i to ns) (ap (λ q. place_after q at) (sym same) ∙ sym is) on)
