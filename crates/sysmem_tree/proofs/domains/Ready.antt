-- What actions leave of a domain that is ready.
use Rattle.std.proofs.Common.{◌≡◌, ◌≢◌, ℕ, zero, suc, ◌+◌, ◌<◌, ◌==◌, ◌&&◌, ◌||◌, not, Bool, true, false, List, [], ◌∷◌, ◌++◌, length, Option, Some, None, slice_get, slice_set, refl, sym, ◌∙◌, ap, subst, arith, rules, tests, inl, inr, append-nil}
use Rattle.std.specs.Prelude.{if◌then◌else◌}
use Rattle.std.specs.List.{list_all, list_any}
use Rattle.std.proofs.lemmas.Bool.{cases_eq}
use Rattle.std.proofs.lemmas.Option.{same_Some}
use Rattle.list_lemmas.proofs.CallerLemmas.{and_parts}
use Rattle.negotiation_inputs.specs.Participant.{Participant}
use Rattle.sysmem_tree.specs.declared.action.ActionKind.{ActionKind}
use Rattle.sysmem_tree.specs.declared.action.ActionKind.TheVariants.{Duplicate, CreateGroup, Bind, CreateChild, AllChildrenPresent, SetConstraints, AttachToken, Release, Close}
use Rattle.sysmem_tree.specs.declared.state.NodeKind.{NodeKind}
use Rattle.sysmem_tree.specs.declared.state.NodeKind.TheVariants.{Token, Group, Collection}
use Rattle.sysmem_tree.specs.declared.state.NodeState.{NodeState}
use Rattle.sysmem_tree.specs.ActionKind.{Deed, kind_of, sets, duplicates, creates_group, binds, creates_child, has_all_children, attaches_token, releases, closes}
use Rattle.sysmem_tree.specs.Domain.{is_complete}
use Rattle.sysmem_tree.specs.Forest.{Forest, Empty}
use Rattle.sysmem_tree.specs.Laws.{by_both}
use Rattle.sysmem_tree.specs.Node.{awaits, is_awaited, NodeFacts}
use Rattle.sysmem_tree.specs.Nodes.{ordinal_under}
use Rattle.sysmem_tree.specs.Shape.{Labels, tree_of, kid_of, before, kids_from, rooted}
use Rattle.sysmem_tree.specs.Table.{suits_node, allows, state_after, constraints_after, makes, makes_root}
use Rattle.sysmem_tree.specs.Tree.{node_after, new_node, nodes_made, nodes_after, left_out_but}
use Rattle.sysmem_tree.proofs.steps.Growing.{own_place, other_place}
use Rattle.sysmem_tree.proofs.forests.SameForest.{kid_elsewhere}

-- the actions that a node allows for which no decision waits
abbrev pub is_late : ActionKind → Bool
is_late AttachToken = true
is_late Release = true
is_late Close = true
is_late _ = false

no_set : (set live : Bool) → live ≡ true → not set ≡ true → not (set || not live) ≡ false → ⊥
no_set true live a b c = cc
no_set false true a b c = cc
no_set false false a b c = cc

late_by : (c : ActionKind) (k : NodeKind) (s : NodeState) → s.is_open ≡ true → suits_node c k s ≡ true → awaits k s ≡ false → is_late c ≡ true
late_by AttachToken k s live suit done = refl
late_by Release k s live suit done = refl
late_by Close k s live suit done = refl
late_by Duplicate Token s live suit done = absurd (cc)
late_by Duplicate Group s live suit done = absurd (cc)
late_by Duplicate Collection s live suit done = absurd (cc)
late_by CreateGroup Token s live suit done = absurd (cc)
late_by CreateGroup Group s live suit done = absurd (cc)
late_by CreateGroup Collection s live suit done = absurd (cc)
late_by Bind Token s live suit done = absurd (cc)
late_by Bind Group s live suit done = absurd (cc)
late_by Bind Collection s live suit done = absurd (cc)
late_by CreateChild Token s live suit done = absurd (cc)
late_by CreateChild Group s live suit done = absurd (cc)
late_by CreateChild Collection s live suit done = absurd (cc)
late_by AllChildrenPresent Token s live suit done = absurd (cc)
late_by AllChildrenPresent Group s live suit done = absurd (cc)
late_by AllChildrenPresent Collection s live suit done = absurd (cc)
late_by SetConstraints Token s live suit done = absurd (cc)
late_by SetConstraints Group s live suit done = absurd (cc)
late_by SetConstraints Collection s live suit done = absurd (no_set s.is_set s.is_open live suit done)

pub late : (c : ActionKind) (s : NodeState) → allows c s ≡ true → is_awaited s ≡ false → is_late c ≡ true
late c s allowed done = let both = and_parts s.is_open (suits_node c s.kind s) allowed in late_by c s.kind s both.0 both.1 done

-- they leave a node's kind and constraints, and what they make roots a domain of its own
pub late_kind : (c : ActionKind) (s : NodeState) → is_late c ≡ true → (state_after c s).kind ≡ s.kind
late_kind AttachToken s l = refl
late_kind Release s l = refl
late_kind Close s l = refl
late_kind Duplicate s l = absurd (cc)
late_kind CreateGroup s l = absurd (cc)
late_kind Bind s l = absurd (cc)
late_kind CreateChild s l = absurd (cc)
late_kind AllChildrenPresent s l = absurd (cc)
late_kind SetConstraints s l = absurd (cc)

late_constraints : (d : Deed) (old : Option Participant) → is_late (kind_of d) ≡ true → constraints_after d old ≡ old
late_constraints (sets asked) old l = absurd (cc)
late_constraints duplicates old l = refl
late_constraints creates_group old l = refl
late_constraints binds old l = refl
late_constraints creates_child old l = refl
late_constraints has_all_children old l = refl
late_constraints attaches_token old l = refl
late_constraints releases old l = refl
late_constraints closes old l = refl

late_makes : (c : ActionKind) (s : NodeState) → is_late c ≡ true → makes c ≡ Some s → makes_root c ≡ true
late_makes AttachToken s l e = refl
late_makes Release s l e = absurd (cc)
late_makes Close s l e = absurd (cc)
late_makes Duplicate s l e = absurd (cc)
late_makes CreateGroup s l e = absurd (cc)
late_makes Bind s l e = absurd (cc)
late_makes CreateChild s l e = absurd (cc)
late_makes AllChildrenPresent s l e = absurd (cc)
late_makes SetConstraints s l e = absurd (cc)

-- and no decision waits for it still
pub still_done : (c : ActionKind) (k : NodeKind) (s : NodeState) → is_late c ≡ true → awaits k s ≡ false → awaits k (state_after c s) ≡ false
still_done AttachToken Token s l done = done
still_done AttachToken Group s l done = done
still_done AttachToken Collection s l done = done
still_done Release Token s l done = refl
still_done Release Group s l done = done
still_done Release Collection s l done = search (rules, tests)
still_done Close Token s l done = refl
still_done Close Group s l done = done
still_done Close Collection s l done = search (rules, tests)
still_done Duplicate k s l done = absurd (cc)
still_done CreateGroup k s l done = absurd (cc)
still_done Bind k s l done = absurd (cc)
still_done CreateChild k s l done = absurd (cc)
still_done AllChildrenPresent k s l done = absurd (cc)
still_done SetConstraints k s l done = absurd (cc)

-- what all of a list pass, one of it passes
pub one_of_all : {X : Type 0} (p : X → Bool) (xs : List X) (i : ℕ) (x : X) → list_all p xs ≡ true → slice_get xs i ≡ Some x → p x ≡ true
one_of_all p [] i x all here = absurd (cc)
one_of_all p (y ∷ xs) zero x all here = subst (λ z. p z ≡ true) (same_Some y x here) (and_parts (p y) (list_all p xs) all).0
one_of_all p (y ∷ xs) (suc i) x all here = one_of_all p xs i x (and_parts (p y) (list_all p xs) all).1 here

not_both : (a b : Bool) → a ≡ true → not (a && b) ≡ true → b ≡ false
not_both true true e h = absurd (cc)
not_both true false e h = refl
not_both false b e h = absurd (cc)

-- in a complete domain no decision waits for a node
pub unawaited : (nodes : List NodeFacts) (r i : ℕ) (n : NodeFacts) → is_complete nodes r ≡ true → slice_get nodes i ≡ Some n → n.domain ≡ r → is_awaited n.state ≡ false
unawaited nodes r i n all here home =
    let t : (n.domain == r) ≡ true = search (rules, tests, home) in
    not_both (n.domain == r) (is_awaited n.state) t (one_of_all (λ (x : NodeFacts). not ((x.domain == r) && is_awaited x.state)) nodes i n all here)

-- forests of lists that differ at one place, or by one more node
same_before : {A : Type 0} (u : Option ℕ) (kid kid' : ℕ → Forest A → Forest A) (rest rest' : Forest A) → ((o : ℕ) → kid o rest ≡ kid' o rest') → rest ≡ rest' → before u kid rest ≡ before u kid' rest'
same_before None kid kid' rest rest' k e = e
same_before (Some o) kid kid' rest rest' k e = k o

abbrev left_out_one : List ℕ → ℕ → ℕ → NodeFacts → NodeFacts
left_out_one members r i n = record n { is_left_out = n.is_left_out || ((n.domain == r) && not (list_any (λ m. m == i) members)) }

module _ {A : Type 0} (label : Labels A) (d : ℕ) where
  abbrev Looks : NodeFacts → NodeFacts → Type 0
  Looks m n = (m.state.kind ≡ n.state.kind) × ((j : ℕ) (q : List ℕ) → label j q m ≡ label j q n)

  kids_set : (xs : List NodeFacts) (i s p : ℕ) (path : List ℕ) (n m : NodeFacts) → slice_get xs i ≡ Some n → m.birth ≡ n.birth → m.domain ≡ n.domain → (n.domain ≡ d → Looks m n)
      → kids_from label d s (slice_set xs i m) p path ≡ kids_from label d s xs p path
  kids_set [] i s p path n m here birth domain looks = refl
  kids_set (x ∷ xs) zero s p path n m here birth domain looks = elim (cases_eq n.domain d) [
    | inl home ↦
        let is : x ≡ n = same_Some x n here in
        let look = looks home in
        let R : Forest A = kids_from label d (s + 1) xs p path in
        let K : ℕ → Forest A = λ o. kids_from label d (s + 1) xs s (path ++ o ∷ []) in
        ap (λ b. before (if m.domain == d then ordinal_under p b else None) (λ o. tree_of m.state.kind (label s (path ++ o ∷ []) m) (K o)) R) birth
        ∙ (ap (λ e. before (if e == d then ordinal_under p n.birth else None) (λ o. tree_of m.state.kind (label s (path ++ o ∷ []) m) (K o)) R) domain
        ∙ (same_before (kid_of d p n) (λ o. tree_of m.state.kind (label s (path ++ o ∷ []) m) (K o)) (λ o. tree_of n.state.kind (label s (path ++ o ∷ []) n) (K o)) R R
        (λ o. ap (λ k. tree_of k (label s (path ++ o ∷ []) m) (K o) R) look.0 ∙ ap (λ l. tree_of n.state.kind l (K o) R) (look.1 s (path ++ o ∷ []))) refl
        ∙ ap (λ z. before (kid_of d p z) (λ o. tree_of z.state.kind (label s (path ++ o ∷ []) z) (K o)) R) (sym is)))
    | inr away ↦
        let is : x ≡ n = same_Some x n here in
        rw (kid_elsewhere d p m (λ e. away (sym domain ∙ e)), kid_elsewhere d p x (λ e. away (sym (ap (λ (z : NodeFacts). z.domain) is) ∙ e))) refl
  ]
  kids_set (x ∷ xs) (suc i) s p path n m here birth domain looks =
      same_before (kid_of d p x)
      (λ o. tree_of x.state.kind (label s (path ++ o ∷ []) x) (kids_from label d (s + 1) (slice_set xs i m) s (path ++ o ∷ [])))
      (λ o. tree_of x.state.kind (label s (path ++ o ∷ []) x) (kids_from label d (s + 1) xs s (path ++ o ∷ [])))
      _ _
      (λ o. ap (λ y. tree_of x.state.kind (label s (path ++ o ∷ []) x) y (kids_from label d (s + 1) (slice_set xs i m) p path)) (kids_set xs i (s + 1) s (path ++ o ∷ []) n m here birth domain looks)
      ∙ ap (λ y. tree_of x.state.kind (label s (path ++ o ∷ []) x) (kids_from label d (s + 1) xs s (path ++ o ∷ [])) y) (kids_set xs i (s + 1) p path n m here birth domain looks))
      (kids_set xs i (s + 1) p path n m here birth domain looks)

  kids_push : (xs : List NodeFacts) (s p : ℕ) (path : List ℕ) (t : NodeFacts) → t.domain ≢ d → kids_from label d s (xs ++ t ∷ []) p path ≡ kids_from label d s xs p path
  kids_push [] s p path t away = rw (kid_elsewhere d p t away) refl
  kids_push (x ∷ xs) s p path t away =
      same_before (kid_of d p x)
      (λ o. tree_of x.state.kind (label s (path ++ o ∷ []) x) (kids_from label d (s + 1) (xs ++ t ∷ []) s (path ++ o ∷ [])))
      (λ o. tree_of x.state.kind (label s (path ++ o ∷ []) x) (kids_from label d (s + 1) xs s (path ++ o ∷ [])))
      _ _
      (λ o. ap (λ y. tree_of x.state.kind (label s (path ++ o ∷ []) x) y (kids_from label d (s + 1) (xs ++ t ∷ []) p path)) (kids_push xs (s + 1) s (path ++ o ∷ []) t away)
      ∙ ap (λ y. tree_of x.state.kind (label s (path ++ o ∷ []) x) (kids_from label d (s + 1) xs s (path ++ o ∷ [])) y) (kids_push xs (s + 1) p path t away))
      (kids_push xs (s + 1) p path t away)

  -- the forest of domain d after an action that leaves the looks of its nodes,
  -- and makes a node elsewhere or none
  module _ (nodes : List NodeFacts) (i : ℕ) (n : NodeFacts) (deed : Deed) (here : slice_get nodes i ≡ Some n) (looks : n.domain ≡ d → Looks (node_after deed n) n)
      (elsewhere : (s : NodeState) → makes (kind_of deed) ≡ Some s → (new_node (length nodes) i n (kind_of deed) s).domain ≢ d) where
    kids_made : (o : Option NodeState) → makes (kind_of deed) ≡ o → (p : ℕ) (path : List ℕ)
        → kids_from label d 0 (slice_set nodes i (node_after deed n) ++ nodes_made (length nodes) i n (kind_of deed) o) p path ≡ kids_from label d 0 (slice_set nodes i (node_after deed n)) p path
    kids_made None e p path = ap (λ xs. kids_from label d 0 xs p path) (append-nil (slice_set nodes i (node_after deed n)))
    kids_made (Some s) e p path = kids_push (slice_set nodes i (node_after deed n)) 0 p path (new_node (length nodes) i n (kind_of deed) s) (elsewhere s e)

    kids_kept : (p : ℕ) (path : List ℕ) → kids_from label d 0 (nodes_after nodes i n deed) p path ≡ kids_from label d 0 nodes p path
    kids_kept p path = kids_made (makes (kind_of deed)) refl p path ∙ kids_set nodes i 0 p path n (node_after deed n) here refl refl looks

    pub forest_kept : (path : List ℕ) (root : NodeFacts) → slice_get nodes d ≡ Some root → root.domain ≡ d
        → rooted label (nodes_after nodes i n deed) d path (slice_get (nodes_after nodes i n deed) d) ≡ rooted label nodes d path (slice_get nodes d)
    forest_kept path root at home = elim (cases_eq d i) [
      | inl same ↦
          let is : root ≡ n = same_Some root n (sym at ∙ (ap (slice_get nodes) same ∙ here)) in
          let look = looks (sym (ap (λ (z : NodeFacts). z.domain) is) ∙ home) in
          let K : Forest A = kids_from label d 0 nodes d path in
          ap (λ o. rooted label (nodes_after nodes i n deed) d path o) (ap (slice_get (nodes_after nodes i n deed)) same ∙ own_place nodes i n deed here)
          ∙ (ap (λ x. tree_of (node_after deed n).state.kind (label d path (node_after deed n)) x Empty) (kids_kept d path)
          ∙ (ap (λ k. tree_of k (label d path (node_after deed n)) K Empty) look.0 ∙ (ap (λ l. tree_of n.state.kind l K Empty) (look.1 d path)
          ∙ sym (ap (λ o. rooted label nodes d path o) (at ∙ ap (λ z. Some z) is)))))
      | inr other ↦
          ap (λ o. rooted label (nodes_after nodes i n deed) d path o) (other_place nodes i n deed here d root other at)
          ∙ (ap (λ x. tree_of root.state.kind (label d path root) x Empty) (kids_kept d path) ∙ sym (ap (λ o. rooted label nodes d path o) at))
    ]

  -- the forest after a decision, which changes no looks
  module _ (looks : (j : ℕ) (q : List ℕ) (n : NodeFacts) (out : Bool) → label j q (record n { is_left_out = out }) ≡ label j q n) (members : List ℕ) (r : ℕ) where
    kids_left : (xs : List NodeFacts) (i s p : ℕ) (path : List ℕ) → kids_from label d s (left_out_but members r i xs) p path ≡ kids_from label d s xs p path
    kids_left [] i s p path = refl
    kids_left (x ∷ xs) i s p path = same_before (kid_of d p x)
        (λ o. tree_of x.state.kind (label s (path ++ o ∷ []) (left_out_one members r i x)) (kids_from label d (s + 1) (left_out_but members r (i + 1) xs) s (path ++ o ∷ [])))
        (λ o. tree_of x.state.kind (label s (path ++ o ∷ []) x) (kids_from label d (s + 1) xs s (path ++ o ∷ [])))
        _ _
        (λ o. ap (λ l. tree_of x.state.kind l (kids_from label d (s + 1) (left_out_but members r (i + 1) xs) s (path ++ o ∷ [])) (kids_from label d (s + 1) (left_out_but members r (i + 1) xs) p path))
        (looks s (path ++ o ∷ []) x (left_out_one members r i x).is_left_out)
        ∙ (ap (λ y. tree_of x.state.kind (label s (path ++ o ∷ []) x) y (kids_from label d (s + 1) (left_out_but members r (i + 1) xs) p path)) (kids_left xs (i + 1) (s + 1) s (path ++ o ∷ []))
        ∙ ap (λ y. tree_of x.state.kind (label s (path ++ o ∷ []) x) (kids_from label d (s + 1) xs s (path ++ o ∷ [])) y) (kids_left xs (i + 1) (s + 1) p path)))
        (kids_left xs (i + 1) (s + 1) p path)

    at_left : (xs : List NodeFacts) (i k : ℕ) (x : NodeFacts) → slice_get xs k ≡ Some x → slice_get (left_out_but members r i xs) k ≡ Some (left_out_one members r (i + k) x)
    at_left [] i k x read = absurd (cc)
    at_left (y ∷ xs) i zero x read = let z : i ≡ i + 0 = omega arith in ap (λ w. Some (left_out_one members r i w)) (same_Some y x read) ∙ ap (λ j. Some (left_out_one members r j x)) z
    at_left (y ∷ xs) i (suc k) x read = let z : (i + 1) + k ≡ i + suc k = omega arith in at_left xs (i + 1) k x read ∙ ap (λ j. Some (left_out_one members r j x)) z

    pub forest_left : (nodes : List NodeFacts) (path : List ℕ) (root : NodeFacts) → slice_get nodes d ≡ Some root
        → rooted label (left_out_but members r 0 nodes) d path (slice_get (left_out_but members r 0 nodes) d) ≡ rooted label nodes d path (slice_get nodes d)
    forest_left nodes path root at =
        ap (λ o. rooted label (left_out_but members r 0 nodes) d path o) (at_left nodes 0 d root at)
        ∙ (ap (λ l. tree_of root.state.kind l (kids_from label d 0 (left_out_but members r 0 nodes) d path) Empty) (looks d path root (left_out_one members r (0 + d) root).is_left_out)
        ∙ (ap (λ y. tree_of root.state.kind (label d path root) y Empty) (kids_left nodes 0 0 d path) ∙ sym (ap (λ o. rooted label nodes d path o) at)))

-- the same, of a complete domain and an action that is allowed
module _ (nodes : List NodeFacts) (i r : ℕ) (n : NodeFacts) (deed : Deed) (here : slice_get nodes i ≡ Some n) (allowed : allows (kind_of deed) n.state ≡ true)
    (complete : is_complete nodes r ≡ true) (within : r < length nodes) where
  pub is_late_there : n.domain ≡ r → is_late (kind_of deed) ≡ true
  is_late_there home = late (kind_of deed) n.state allowed (unawaited nodes r i n complete here home)

  pub made_elsewhere : (s : NodeState) → makes (kind_of deed) ≡ Some s → (new_node (length nodes) i n (kind_of deed) s).domain ≢ r
  made_elsewhere s e = by (makes_root (kind_of deed)) refl where
    by : (a : Bool) → makes_root (kind_of deed) ≡ a → (if makes_root (kind_of deed) then length nodes else n.domain) ≢ r
    by true a same = let is : length nodes ≡ r = rw a at same in omega (arith, is, within)
    by false a same =
        let is : n.domain ≡ r = rw a at same in
        let attached = late_makes (kind_of deed) s (is_late_there is) e in cc

  pub both_kept : (path : List ℕ) (root : NodeFacts) → slice_get nodes r ≡ Some root → root.domain ≡ r
      → rooted by_both (nodes_after nodes i n deed) r path (slice_get (nodes_after nodes i n deed) r) ≡ rooted by_both nodes r path (slice_get nodes r)
  both_kept path root at home = forest_kept by_both r nodes i n deed here looks made_elsewhere path root at home where
    looks : n.domain ≡ r → Looks by_both r (node_after deed n) n
    looks is =
        let l = is_late_there is in
        let kind = late_kind (kind_of deed) n.state l in
        let constraints = late_constraints deed n.constraints l in (
          kind,
          λ j q. ap (λ k. by_both j q (record n { state = record n.state { kind = k }; constraints = constraints_after deed n.constraints })) kind
              ∙ ap (λ c. by_both j q (record n { constraints = c })) constraints,
        )
