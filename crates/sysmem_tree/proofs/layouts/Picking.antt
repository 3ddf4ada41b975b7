-- A pass over a layout finds the nodes of its forest in their order.
use Rattle.std.proofs.Common.{◌≡◌, ◌≤◌, ◌<◌, ℕ, zero, suc, ◌+◌, ◌++◌, ◌==◌, Bool, true, false, List, [], ◌∷◌, Option, Some, None, length, drop, get_or, slice_get, refl, sym, ◌∙◌, ap, subst, arith, append_assoc, append-nil, length-append}
use Rattle.std.specs.Prelude.{All, IfSome, IsSomeAnd, filter, is_some, map, option_and_then, if◌then◌else◌}
use Rattle.std.specs.List.{list_any}
use Rattle.std.proofs.lemmas.List.Elements.{All-filter, All-weaker}
use Rattle.std.proofs.lemmas.List.Sums.{count_by-le-length, length-filter}
use Rattle.std.proofs.lemmas.Option.{get_or_from_slice_get, slice_get_within}
use Rattle.sysmem_tree.specs.declared.layout.Layout.{Layout}
use Rattle.sysmem_tree.specs.declared.layout.LayoutPlace.{LayoutPlace}
use Rattle.sysmem_tree.specs.Domain.{HasDomain}
use Rattle.sysmem_tree.specs.Forest.{Forest, Empty, Plain, Group, relabel, settled}
use Rattle.sysmem_tree.specs.Laws.{labels}
use Rattle.sysmem_tree.specs.Layout.{Spot, start, behind, AreLaid, IsLayout}
use Rattle.sysmem_tree.specs.Members.{is_marked}
use Rattle.sysmem_tree.specs.Node.{NodeFacts}
use Rattle.sysmem_tree.specs.Nodes.{HasNode, IsTree}
use Rattle.sysmem_tree.specs.Selection.{IsPrefix, after}
use Rattle.sysmem_tree.specs.Shape.{by_number, forest_of, members_of, participants_of}
use Rattle.sysmem_tree.proofs.nodes.Different.{few_different}
use Rattle.sysmem_tree.proofs.forests.Numbers.{front}
use Rattle.sysmem_tree.proofs.forests.Once.{filter_both, members_picked, members_stand_once}
use Rattle.sysmem_tree.proofs.nodes.Places.{there}
use Rattle.sysmem_tree.proofs.layouts.Settling.{is_at}
use Rattle.sysmem_tree.proofs.layouts.ToldMembers.{told_member}

-- the nodes that stand from a place on
abbrev pub nodes_from : List LayoutPlace → ℕ → List ℕ
nodes_from places at = map (λ p. p.node) (drop at places)

-- from a place on: its node, and those behind it
drop_at : {X : Type 0} (xs : List X) (i : ℕ) (x : X) → slice_get xs i ≡ Some x → drop i xs ≡ x ∷ drop (i + 1) xs
drop_at [] i x here = absurd (cc)
drop_at (y ∷ xs) zero x here = let same : y ≡ x = cc in ap (λ z. z ∷ xs) same
drop_at (y ∷ xs) (suc i) x here =
    let z : suc (i + 1) ≡ suc i + 1 = omega arith in
    drop_at xs i x here ∙ ap (λ (j : ℕ). x ∷ drop j (y ∷ xs)) z

abbrev node_at : Spot → ℕ
node_at s = s.node

-- a part of a layout holds the nodes of what is laid out there
module _ (ps : List LayoutPlace) where
  stand_at : (s : Spot) (p : LayoutPlace) (kids rest : Forest Spot) (to : ℕ) → slice_get ps s.place ≡ Some p → p.node ≡ s.node → start kids (start rest to) ≡ s.place + 1
      → nodes_from ps (start kids (start rest to)) ≡ labels (relabel node_at kids) ++ nodes_from ps (start rest to) → nodes_from ps (start rest to) ≡ labels (relabel node_at rest) ++ nodes_from ps to
      → nodes_from ps s.place ≡ s.node ∷ ((labels (relabel node_at kids) ++ labels (relabel node_at rest)) ++ nodes_from ps to)
  stand_at s p kids rest to here node next below behind' =
      ap (map (λ (q : LayoutPlace). q.node)) (drop_at ps s.place p here)
      ∙ (ap (λ (n : ℕ). n ∷ nodes_from ps (s.place + 1)) node
      ∙ ap (λ ns. s.node ∷ ns) (ap (nodes_from ps) (sym next) ∙ (below ∙ (ap (λ ns. labels (relabel node_at kids) ++ ns) behind' ∙ sym (append_assoc (labels (relabel node_at kids)) (labels (relabel node_at rest)) (nodes_from ps to))))))

  stand : (g : Bool) (w : Forest Spot) (to : ℕ) (next : Option ℕ) → AreLaid g ps w to next → nodes_from ps (start w to) ≡ labels (relabel node_at w) ++ nodes_from ps to
  stand g Empty to next l = refl
  stand g (Plain s kids rest) to next l = stand_at s _ kids rest to l.0.here refl l.0.kids_here (stand false kids (start rest to) (behind g rest next) l.1) (stand g rest to next l.2)
  stand g (Group s kids rest) to next l = stand_at s _ kids rest to l.0.here refl l.0.kids_here (stand true kids (start rest to) (behind g rest next) l.1) (stand g rest to next l.2)

past_end : {X : Type 0} (xs : List X) (k : ℕ) → length xs ≤ k → drop k xs ≡ []
past_end [] zero more = refl
past_end [] (suc k) more = refl
past_end (x ∷ xs) zero more = absurd (omega (arith, more))
past_end (x ∷ xs) (suc k) more = past_end xs k (omega (arith, more))

-- the nodes of a layout are those of its forest
pub all_of_layout : (layout : Layout) (d : Forest ℕ) → length layout.places ≡ 128 → IsLayout layout d → nodes_from layout.places layout.start ≡ labels d
all_of_layout layout d long is =
    ap (nodes_from layout.places) (sym is.starts) ∙ (stand layout.places false is.spots 128 None is.laid
    ∙ (ap (λ ps. labels (relabel node_at is.spots) ++ map (λ (q : LayoutPlace). q.node) ps) (past_end layout.places 128 (omega (arith, long)))
    ∙ (append-nil (labels (relabel node_at is.spots)) ∙ ap labels is.numbers)))

-- those that are marked as members and have constraints are the participants
pub marked_participants : (nodes : List NodeFacts) (r : ℕ) (cs : List ℕ) (marks : List Bool) → IsTree nodes → HasDomain nodes r → ((k : ℕ) → get_or marks k false ≡ list_any (λ m. m == k) (members_of nodes r cs))
    → filter (is_marked nodes marks) (labels (forest_of by_number nodes r [])) ≡ participants_of nodes r cs
marked_participants nodes r cs marks tree has marked =
    let asks : ℕ → Bool = λ i. is_some (option_and_then (λ (n : NodeFacts). n.constraints) (slice_get nodes i)) in
    filter_both (λ i. get_or marks i false) asks (labels (forest_of by_number nodes r []))
    ∙ ap (filter asks) (agree (labels (forest_of by_number nodes r [])) ∙ members_picked nodes r cs tree has) where
      agree : (xs : List ℕ) → filter (λ i. get_or marks i false) xs ≡ filter (λ i. list_any (λ m. m == i) (members_of nodes r cs)) xs
      agree [] = refl
      agree (x ∷ xs) = ap (λ b. if b then x ∷ filter (λ i. get_or marks i false) xs else filter (λ i. get_or marks i false) xs) (marked x)
          ∙ ap (λ ys. if list_any (λ m. m == x) (members_of nodes r cs) then x ∷ ys else ys) (agree xs)

-- where the marks are of what the choices settle in the layout
pub layout_participants : (layout : Layout) (nodes : List NodeFacts) (r : ℕ) (cs : List ℕ) (marks : List Bool) → IsTree nodes → HasDomain nodes r → (laid : IsLayout layout (forest_of by_number nodes r []))
    → IsPrefix (forest_of by_number nodes r []) cs → ((k : ℕ) → IfSome (after laid.spots cs) (λ e. get_or marks k false ≡ list_any (is_at k) (settled e)))
    → filter (is_marked nodes marks) (labels (forest_of by_number nodes r [])) ≡ participants_of nodes r cs
layout_participants layout nodes r cs marks tree has laid prefix marked =
    marked_participants nodes r cs marks tree has (λ k. told_member layout nodes r k cs cs (get_or marks k false) laid refl prefix (marked k))

-- a pass: what is kept so far, and those that will be kept of what is left, are the whole
pub record IsOnTheWay (test : ℕ → Bool) (places : List LayoutPlace) (at : ℕ) (kept whole : List ℕ) : Type 0 where
  pub long : length places ≡ 128
  pub all : kept ++ filter test (nodes_from places at) ≡ whole

step : (test : ℕ → Bool) (places : List LayoutPlace) (at : ℕ) (d : LayoutPlace) → at < length places
    → filter test (nodes_from places at) ≡ (if test (get_or places at d).node then (get_or places at d).node ∷ filter test (nodes_from places (at + 1)) else filter test (nodes_from places (at + 1)))
step test places at d less =
    let (p, here, _) = front places at less in
    let same : p ≡ get_or places at d = sym (get_or_from_slice_get places at p d here) in
    subst (λ (q : LayoutPlace). filter test (nodes_from places at) ≡ (if test q.node then q.node ∷ filter test (nodes_from places (at + 1)) else filter test (nodes_from places (at + 1)))) same
    (ap (λ qs. filter test (map (λ (q : LayoutPlace). q.node) qs)) (drop_at places at p here))

-- one node is kept
next_kept : (test : ℕ → Bool) (places : List LayoutPlace) (at : ℕ) (d : LayoutPlace) (n : ℕ) → at < length places → n ≡ (get_or places at d).node → test n ≡ true
    → filter test (nodes_from places at) ≡ n ∷ filter test (nodes_from places (at + 1))
next_kept test places at d n less is passes =
    step test places at d less
    ∙ subst (λ (k : ℕ). (if test k then k ∷ filter test (nodes_from places (at + 1)) else filter test (nodes_from places (at + 1))) ≡ n ∷ filter test (nodes_from places (at + 1))) is
    (ap (λ b. if b then n ∷ filter test (nodes_from places (at + 1)) else filter test (nodes_from places (at + 1))) passes)

pub kept_on : (test : ℕ → Bool) (places : List LayoutPlace) (at : ℕ) (kept whole : List ℕ) (d : LayoutPlace) (n : ℕ) → at < length places → n ≡ (get_or places at d).node → test n ≡ true
    → IsOnTheWay test places at kept whole → IsOnTheWay test places (at + 1) (kept ++ n ∷ []) whole
kept_on test places at kept whole d n less is passes way = record {
  long = way.long;
  all = append_assoc kept (n ∷ []) (filter test (nodes_from places (at + 1))) ∙ (ap (λ xs. kept ++ xs) (sym (next_kept test places at d n less is passes)) ∙ way.all);
}

-- there is room for it where there is for the whole
pub room_on : (test : ℕ → Bool) (places : List LayoutPlace) (at : ℕ) (kept whole : List ℕ) (d : LayoutPlace) (n : ℕ) → at < length places → n ≡ (get_or places at d).node → test n ≡ true
    → IsOnTheWay test places at kept whole → length kept < length whole
room_on test places at kept whole d n less is passes way =
    let all = ap length way.all in
    let next = ap length (next_kept test places at d n less is passes) in
    omega (arith, all, next, length-append kept (filter test (nodes_from places at)))

-- or passed over
pub passed_on : (test : ℕ → Bool) (places : List LayoutPlace) (at : ℕ) (kept whole : List ℕ) (d : LayoutPlace) (n : ℕ) → at < length places → n ≡ (get_or places at d).node → test n ≡ false
    → IsOnTheWay test places at kept whole → IsOnTheWay test places (at + 1) kept whole
passed_on test places at kept whole d n less is fails way = record { long = way.long; all = ap (λ xs. kept ++ xs) (sym (step test places at d less ∙ by)) ∙ way.all } where
  by : (if test (get_or places at d).node then (get_or places at d).node ∷ filter test (nodes_from places (at + 1)) else filter test (nodes_from places (at + 1))) ≡ filter test (nodes_from places (at + 1))
  by = subst (λ (k : ℕ). (if test k then k ∷ filter test (nodes_from places (at + 1)) else filter test (nodes_from places (at + 1))) ≡ filter test (nodes_from places (at + 1))) is
      (ap (λ b. if b then n ∷ filter test (nodes_from places (at + 1)) else filter test (nodes_from places (at + 1))) fails)

-- at the end all is kept
pub all_kept : (test : ℕ → Bool) (places : List LayoutPlace) (at : ℕ) (kept whole : List ℕ) → 128 ≤ at → IsOnTheWay test places at kept whole → kept ≡ whole
all_kept test places at kept whole more way =
    sym (append-nil kept) ∙ (ap (λ (qs : List LayoutPlace). kept ++ filter test (map (λ (q : LayoutPlace). q.node) qs)) (sym (past_end places at (omega (arith, more, way.long)))) ∙ way.all)

-- and they are nodes of the tree
pub members_there : (nodes : List NodeFacts) (r : ℕ) (cs : List ℕ) → IsTree nodes → HasDomain nodes r → All (HasNode nodes) (members_of nodes r cs)
members_there nodes r cs tree has =
    All-weaker (λ i. IsSomeAnd (slice_get nodes i) (λ (n : NodeFacts). n.domain ≡ r)) (HasNode nodes)
    (λ i own. let (n, here, _) = there (λ (z : NodeFacts). z.domain ≡ r) (slice_get nodes i) own in slice_get_within nodes i n here) (members_of nodes r cs) (members_stand_once nodes r cs tree has).own

pub participants_there : (nodes : List NodeFacts) (r : ℕ) (cs : List ℕ) → IsTree nodes → HasDomain nodes r → All (HasNode nodes) (participants_of nodes r cs)
participants_there nodes r cs tree has =
    All-filter (λ i. is_some (option_and_then (λ (n : NodeFacts). n.constraints) (slice_get nodes i))) (HasNode nodes) (members_of nodes r cs) (members_there nodes r cs tree has)

-- at most 128
pub few_participants : (nodes : List NodeFacts) (r : ℕ) (cs : List ℕ) → IsTree nodes → HasDomain nodes r → length (participants_of nodes r cs) ≤ 128
few_participants nodes r cs tree has =
    let asks : ℕ → Bool = λ i. is_some (option_and_then (λ (n : NodeFacts). n.constraints) (slice_get nodes i)) in
    let few = few_different (members_of nodes r cs) (length nodes) (members_stand_once nodes r cs tree has).once (members_there nodes r cs tree has) in
    let less = count_by-le-length asks (members_of nodes r cs) in
    let same = length-filter asks (members_of nodes r cs) in
    omega (arith, few, less, same, tree.few)
