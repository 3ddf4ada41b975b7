-- From one open group to the next, over a layout.
use Rattle.std.proofs.Common.{◌≡◌, ◌<◌, ℕ, ◌+◌, ◌++◌, List, [], ◌∷◌, Option, Some, None, length, get_or, slice_get, refl, sym, ◌∙◌, ap, subst, arith}
use Rattle.std.specs.Prelude.{IsSome, IfSome, IsSomeAnd, option_map, option_and_then}
use Rattle.std.specs.Option.{option_or}
use Rattle.std.proofs.lemmas.Option.{same_Some, slice_get_within, get_or_from_slice_get}
use Rattle.sysmem_tree.specs.declared.layout.Layout.{Layout}
use Rattle.sysmem_tree.specs.declared.layout.LayoutPlace.{LayoutPlace}
use Rattle.sysmem_tree.specs.Forest.{Forest, Empty, Plain, Group, each, choices, relabel, first_group}
use Rattle.sysmem_tree.specs.Layout.{Spot, start, first_place, IsLayout, HoldNumbers}
use Rattle.sysmem_tree.specs.OpenGroups.{node_of, Leaves, IsFirstOpen, IsChildPlace, HasChild}
use Rattle.sysmem_tree.specs.Prefix.{Alternatives, AreAlternatives, next_alternatives, AreOpen}
use Rattle.sysmem_tree.specs.Selection.{after, IsPrefix}
use Rattle.sysmem_tree.proofs.selections.Chosen.{chosen, Steps, steps, all_open}
use Rattle.sysmem_tree.proofs.layouts.NextGroups.{shown_at}
use Rattle.sysmem_tree.proofs.forests.Numbers.{front}
use Rattle.sysmem_tree.proofs.selections.Selections.{after_more, after_relabel, first_many}
use Rattle.sysmem_tree.proofs.layouts.Walks.{Stands, stands, first_is, begins, walk_on, next_there}

-- the first group in the words of alternatives
module _ {A : Type 0} where
  abbrev pub counted_kids : Alternatives A → A × ℕ
  counted_kids g = (g.group, length (each g.kids))

  either_first : (a b : Option (Alternatives A)) (m n : Option (A × ℕ)) → m ≡ option_map counted_kids a → n ≡ option_map counted_kids b → option_or m n ≡ option_map counted_kids (option_or a b)
  either_first None b m n e f = ap (λ o. option_or o n) e ∙ f
  either_first (Some g) b m n e f = ap (λ o. option_or o n) e

  pub first_of : (d : Forest A) → first_group d ≡ option_map counted_kids (next_alternatives d)
  first_of Empty = refl
  first_of (Plain s kids rest) = either_first (next_alternatives kids) (next_alternatives rest) (first_group kids) (first_group rest) (first_of kids) (first_of rest)
  first_of (Group s kids rest) = refl

  -- there are as many choices as children
  pub many_choices : (d : Forest A) (g : Alternatives A) → next_alternatives d ≡ Some g → option_map length (choices d) ≡ Some (length (each g.kids))
  many_choices d g is = first_many d ∙ ap (option_map (λ (p : A × ℕ). p.1)) (first_of d ∙ ap (option_map counted_kids) is)

  pub chosen_there : (d : Forest A) (g : Alternatives A) (k : ℕ) → next_alternatives d ≡ Some g → k < length (each g.kids) → (f : Forest A) × (chosen d k ≡ Some f)
  chosen_there d g k is less = by (choices d) (many_choices d g is) where
    by : (o : Option (List (Forest A))) → option_map length o ≡ Some (length (each g.kids)) → (f : Forest A) × (option_and_then (λ es. slice_get es k) o ≡ Some f)
    by None e = absurd (cc)
    by (Some es) e =
        let many : length es ≡ length (each g.kids) = same_Some (length es) (length (each g.kids)) e in
        let (f, at, _) = front es k (omega (arith, less, many)) in (f, at)

-- one choice more, of a forest that choices leave
module _ (layout : Layout) (d : Forest ℕ) (cs : List ℕ) (k : ℕ) (left : Forest Spot) (leaves : Leaves layout d cs left) where
  pub leads_on : (f : Forest Spot) → chosen left k ≡ Some f → after d (cs ++ k ∷ []) ≡ Some (relabel node_of f)
  leads_on f is =
      after_more cs (k ∷ []) d
      ∙ (ap (option_and_then (λ e. after e (k ∷ []))) leaves.leads
      ∙ (after_relabel node_of (k ∷ []) left ∙ ap (λ o. option_map (relabel node_of) (option_and_then (λ e. after e []) o)) is))

  is_prefix_of_spots : IsPrefix d (cs ++ k ∷ []) → IsSome (after left (k ∷ []))
  is_prefix_of_spots h = by (after left (k ∷ []))
      (subst IsSome (after_more cs (k ∷ []) d ∙ (ap (option_and_then (λ e. after e (k ∷ []))) leaves.leads ∙ after_relabel node_of (k ∷ []) left)) h) where
        by : (o : Option (Forest Spot)) → IsSome (option_map (relabel node_of) o) → IsSome o
        by None h = absurd (cc)
        by (Some e) h = refl

  -- where the choices with this one are a prefix
  pub prefix_steps : IsPrefix d (cs ++ k ∷ []) → (f : Forest Spot) × Steps layout.places left None k f
  prefix_steps h = let (f, _, st) = walk_on layout.places left k [] leaves.stands (is_prefix_of_spots h) in (f, st)

-- a group stands in the layout
pub group_stands : (ps : List LayoutPlace) (left : Forest Spot) (g : Alternatives Spot) → AreOpen ps left None → next_alternatives left ≡ Some g → Stands ps g
group_stands ps left g open' is = subst (λ o. IfSome o (Stands ps)) is (stands ps left None open')

-- a place that is read names a node
pub place_there : (ps : List LayoutPlace) (i : ℕ) (d : LayoutPlace) (many : ℕ) → i < 128 → length ps ≡ 128 → HoldNumbers many ps → (get_or ps i d).node < many
place_there ps i d many less long holds =
    let (p, there, _) = front ps i (omega (arith, less, long)) in
    subst (λ (q : LayoutPlace). q.node < many) (sym (get_or_from_slice_get ps i p d there)) (holds i p there)

-- at the start
pub opens_first : (layout : Layout) (d : Forest ℕ) (p : LayoutPlace) (at : Option ℕ) → IsLayout layout d → (get_or layout.places layout.start p).next ≡ at → IsFirstOpen layout d [] at
opens_first layout d p at laid is = record {
  left = laid.spots;
  leaves = record { leads = ap (λ x. Some x) (sym laid.numbers); stands = all_open layout.places laid.spots 128 None laid.laid (omega arith) };
  first = sym is ∙ begins layout d p laid;
}

-- the group at a place, where it is the first open one
module _ (layout : Layout) (d : Forest ℕ) (cs : List ℕ) (i : ℕ) (h : IsFirstOpen layout d cs (Some i)) where
  pub group_within : i < 128
  group_within = (shown_at layout.places h.left i (h.first, h.leaves.stands)).0

  pub group_shown : (p : LayoutPlace) → IfSome (after d cs) (λ e. Some ((get_or layout.places i p).node, (get_or layout.places i p).children) ≡ first_group e)
  group_shown p = subst (λ o. IfSome o (λ e. Some ((get_or layout.places i p).node, (get_or layout.places i p).children) ≡ first_group e)) (sym h.leaves.leads)
      (sym ((shown_at layout.places h.left i (h.first, h.leaves.stands)).1 p))

  pub record Opens (k : ℕ) : Type 0 where
    pub group : Alternatives Spot
    pub first : next_alternatives h.left ≡ Some group
    pub alternatives : AreAlternatives layout.places (i + 1) group.kids
    pub kid : Forest Spot
    pub is_kid : slice_get (each group.kids) k ≡ Some kid

  pub opens : (k : ℕ) → IsPrefix d (cs ++ k ∷ []) → Opens k
  opens k prefix =
      let (f, st) = prefix_steps layout d cs k h.left h.leaves prefix in
      let here : i ≡ st.first.group.place = same_Some i st.first.group.place (h.first ∙ first_is h.left st.first st.is_first) in
      record {
        group = st.first;
        first = st.is_first;
        alternatives = subst (λ j. AreAlternatives layout.places (j + 1) st.first.kids) (sym here) (group_stands layout.places h.left st.first h.leaves.stands st.is_first).alternatives;
        kid = st.kid;
        is_kid = st.is_kid;
      }

  pub child_place : (k at : ℕ) (o : Opens k) → start o.kid 0 ≡ at → IsChildPlace layout d cs k at
  child_place k at o here = record { left = h.left; leaves = h.leaves; group = o.group; first = o.first; kid = o.kid; is_kid = o.is_kid; here = here }

  pub has_child : (k at : ℕ) (o : Opens k) → start o.kid 0 ≡ at → HasChild layout at
  has_child k at o here = record { first = i + 1; kids = o.group.kids; alternatives = o.alternatives; number = k; kid = o.kid; is_kid = o.is_kid; here = here }

-- the child that a choice takes
module _ (layout : Layout) (d : Forest ℕ) (cs : List ℕ) (k at : ℕ) (h : IsChildPlace layout d cs k at) where
  pub child_stands : Stands layout.places h.group
  child_stands = group_stands layout.places h.left h.group h.leaves.stands h.first

  -- what it leads to
  pub record ChildSteps : Type 0 where
    pub left : Forest Spot
    pub step : Steps layout.places h.left None k left
    pub same_kid : step.kid ≡ h.kid
    pub leads : after d (cs ++ k ∷ []) ≡ Some (relabel node_of left)

  pub child_steps : ChildSteps
  child_steps =
      let (f, is) = chosen_there h.left h.group k h.first (slice_get_within (each h.group.kids) k h.kid h.is_kid) in
      let st = steps layout.places h.left None k f h.leaves.stands is in
      let same : st.first ≡ h.group = same_Some st.first h.group (sym st.is_first ∙ h.first) in
      record {
        left = f;
        step = st;
        same_kid = same_Some st.kid h.kid (sym st.is_kid ∙ (ap (λ (g : Alternatives Spot). slice_get (each g.kids) k) same ∙ h.is_kid));
        leads = leads_on layout d cs k h.left h.leaves f is;
      }

  pub opens_after : (p : LayoutPlace) (next : Option ℕ) → (get_or layout.places at p).next ≡ next → IsFirstOpen layout d (cs ++ k ∷ []) next
  opens_after p next is =
      let s = child_steps in
      let on : IsSomeAnd (slice_get layout.places at) (λ (q : LayoutPlace). q.next ≡ option_or (first_place s.left) None) =
      subst (λ j. IsSomeAnd (slice_get layout.places j) (λ (q : LayoutPlace). q.next ≡ option_or (first_place s.left) None)) (ap (λ x. start x 0) s.same_kid ∙ h.here) s.step.goes_on_after in
      record {
        left = s.left;
        leaves = record { leads = s.leads; stands = s.step.open_after };
        first = sym is ∙ next_there layout.places at p (first_place s.left) on;
      }

  abbrev pub child_there : HasChild layout at
  child_there = record { first = h.group.group.place + 1; kids = h.group.kids; alternatives = child_stands.alternatives; number = k; kid = h.kid; is_kid = h.is_kid; here = h.here }
