-- An action leaves a tree.
use Rattle.std.proofs.Common.{◌≡◌, ◌≢◌, ◌⊎◌, ℕ, zero, suc, ◌+◌, ◌<◌, ◌≤◌, Bool, true, false, not, ◌||◌, List, [], ◌∷◌, ◌++◌, length, Option, Some, None, slice_get, slice_set, refl, sym, ◌∙◌, ap, subst, arith, rules, tests, inl, inr, length-append, append-nil, nat_le}
use Rattle.std.specs.Prelude.{is_some, IsSomeAnd, Ok}
use Rattle.std.proofs.lemmas.Bool.{cases_eq}
use Rattle.std.proofs.lemmas.List.{length-set}
use Rattle.std.proofs.lemmas.List.Elements.{filter_map-append}
use Rattle.std.proofs.lemmas.Option.{slice_get_within, same_Some}
use Rattle.list_lemmas.proofs.CallerLemmas.{and_parts}
use Rattle.sysmem_tree.specs.declared.action.ActionKind.{ActionKind}
use Rattle.sysmem_tree.specs.declared.action.ActionKind.TheVariants.{Duplicate, CreateGroup, Bind, CreateChild, AllChildrenPresent, SetConstraints, AttachToken, Release, Close}
use Rattle.sysmem_tree.specs.declared.node.Birth.{Birth}
use Rattle.sysmem_tree.specs.declared.state.NodeKind.{NodeKind}
use Rattle.sysmem_tree.specs.declared.state.NodeKind.TheVariants.{Token, Group, Collection}
use Rattle.sysmem_tree.specs.declared.state.NodeState.{NodeState}
use Rattle.sysmem_tree.specs.ActionKind.{Deed, kind_of}
use Rattle.sysmem_tree.specs.Domain.{TreeFacts}
use Rattle.sysmem_tree.specs.Node.{fresh, NodeFacts}
use Rattle.sysmem_tree.specs.Nodes.{ordinal_under, ordinals, count_from, IsPlaced, IsTree}
use Rattle.sysmem_tree.specs.Table.{suits_node, allows, state_after, makes, makes_root}
use Rattle.sysmem_tree.specs.Tree.{Applied, applied, node_after, new_node, nodes_made, nodes_after, has_room}
use Rattle.sysmem_tree.proofs.steps.Accepted.{accepted}
use Rattle.sysmem_tree.proofs.nodes.Kids.{under_parent, under_none, parent_of}
use Rattle.sysmem_tree.proofs.nodes.Places.{there, put, set_here, set_elsewhere, in_front, at_end, after_set, after_push}

-- facts of the table
abbrev pub kids_made : Option NodeState → ℕ
kids_made None = 0
kids_made (Some s) = 1

pub acted_children : (c : ActionKind) (s : NodeState) → (state_after c s).children ≡ s.children + kids_made (makes c)
acted_children Duplicate s = refl
acted_children CreateGroup s = refl
acted_children Bind s = omega arith
acted_children CreateChild s = refl
acted_children AllChildrenPresent s = omega arith
acted_children SetConstraints s = omega arith
acted_children AttachToken s = refl
acted_children Release s = omega arith
acted_children Close s = omega arith

pub makes_childless : (c : ActionKind) (s : NodeState) → makes c ≡ Some s → s.children ≡ 0
makes_childless Duplicate s e = sym (ap (λ (x : NodeState). x.children) (same_Some (fresh Token) s e))
makes_childless CreateGroup s e = sym (ap (λ (x : NodeState). x.children) (same_Some (fresh Group) s e))
makes_childless CreateChild s e = sym (ap (λ (x : NodeState). x.children) (same_Some (fresh Token) s e))
makes_childless AttachToken s e = sym (ap (λ (x : NodeState). x.children) (same_Some (fresh Token) s e))
makes_childless Bind s e = absurd (cc)
makes_childless AllChildrenPresent s e = absurd (cc)
makes_childless SetConstraints s e = absurd (cc)
makes_childless Release s e = absurd (cc)
makes_childless Close s e = absurd (cc)

still_collection : (c : ActionKind) (s : NodeState) → s.kind ≡ Collection → (state_after c s).kind ≡ Collection
still_collection Duplicate s is = is
still_collection CreateGroup s is = is
still_collection Bind s is = refl
still_collection CreateChild s is = is
still_collection AllChildrenPresent s is = is
still_collection SetConstraints s is = is
still_collection AttachToken s is = is
still_collection Release s is = is
still_collection Close s is = is

attached_to : (c : ActionKind) (k : NodeKind) (s : NodeState) → makes_root c ≡ true → suits_node c k s ≡ true → k ≡ Collection
attached_to AttachToken Token s e h = absurd (cc)
attached_to AttachToken Group s e h = absurd (cc)
attached_to AttachToken Collection s e h = refl
attached_to Duplicate k s e h = absurd (cc)
attached_to CreateGroup k s e h = absurd (cc)
attached_to CreateChild k s e h = absurd (cc)
attached_to Bind k s e h = absurd (cc)
attached_to AllChildrenPresent k s e h = absurd (cc)
attached_to SetConstraints k s e h = absurd (cc)
attached_to Release k s e h = absurd (cc)
attached_to Close k s e h = absurd (cc)

-- facts of ordinals
count_split : (a m j : ℕ) → count_from a m ++ count_from (a + m) j ≡ count_from a (m + j)
count_split a zero j =
    let e : a + 0 ≡ a = omega arith in
    let f : j ≡ 0 + j = omega arith in ap (λ b. count_from b j) e ∙ ap (λ c. count_from a c) f
count_split a (suc m) j =
    let e : a + suc m ≡ (a + 1) + m = omega arith in
    let f : suc (m + j) ≡ suc m + j = omega arith in
    ap (λ b. a ∷ (count_from (a + 1) m ++ count_from b j)) e ∙ (ap (λ ys. a ∷ ys) (count_split (a + 1) m j) ∙ ap (λ c. count_from a c) f)

ordinals_set : (p : ℕ) (xs : List NodeFacts) (i : ℕ) (n m : NodeFacts) → slice_get xs i ≡ Some n → m.birth ≡ n.birth → ordinals p (slice_set xs i m) ≡ ordinals p xs
ordinals_set p [] i n m here same = refl
ordinals_set p (x ∷ xs) zero n m here same =
    ap (λ b. ordinals p (record x { birth = b } ∷ xs)) (same ∙ sym (ap (λ (z : NodeFacts). z.birth) (same_Some x n here)))
ordinals_set p (x ∷ xs) (suc i) n m here same = rw (ordinals_set p xs i n m here same) refl

pub none_under : (p : ℕ) (xs : List NodeFacts) → ((k : ℕ) (x : NodeFacts) → slice_get xs k ≡ Some x → ordinal_under p x.birth ≡ None) → ordinals p xs ≡ []
none_under p [] all = refl
none_under p (x ∷ xs) all = rw (all 0 x refl) (none_under p xs (λ k y read. all (suc k) y read))

-- a node has no child at a place up to its own
pub not_under : (nodes : List NodeFacts) → IsTree nodes → (p k : ℕ) (x : NodeFacts) → slice_get nodes k ≡ Some x → k ≤ p → ordinal_under p x.birth ≡ None
not_under nodes tree p k x here up = at x.birth refl where
  at : (b : Option Birth) → x.birth ≡ b → ordinal_under p x.birth ≡ None
  at None e = rw e refl
  at (Some b) e = let less = parent_of nodes tree k x b here e in under_none p b x.birth e (λ same. omega (arith, less, same, up))

-- the nodes after an action, by their places
module _ (nodes : List NodeFacts) (i : ℕ) (n : NodeFacts) (deed : Deed) (here : slice_get nodes i ≡ Some n) where
  pub own_place : slice_get (nodes_after nodes i n deed) i ≡ Some (node_after deed n)
  own_place = in_front (slice_set nodes i (node_after deed n)) (nodes_made (length nodes) i n (kind_of deed) (makes (kind_of deed))) i (node_after deed n) (set_here nodes i n (node_after deed n) here)

  pub other_place : (k : ℕ) (a : NodeFacts) → k ≢ i → slice_get nodes k ≡ Some a → slice_get (nodes_after nodes i n deed) k ≡ Some a
  other_place k a other read =
      in_front (slice_set nodes i (node_after deed n)) (nodes_made (length nodes) i n (kind_of deed) (makes (kind_of deed))) k a (set_elsewhere nodes i k (node_after deed n) a other read)

  pub new_place : (s : NodeState) → makes (kind_of deed) ≡ Some s → slice_get (nodes_after nodes i n deed) (length nodes) ≡ Some (new_node (length nodes) i n (kind_of deed) s)
  new_place s e =
      let t : NodeFacts = new_node (length nodes) i n (kind_of deed) s in
      ap (λ o. slice_get (slice_set nodes i (node_after deed n) ++ nodes_made (length nodes) i n (kind_of deed) o) (length nodes)) e
      ∙ (ap (λ k. slice_get (slice_set nodes i (node_after deed n) ++ t ∷ []) k) (sym (length-set nodes i (node_after deed n))) ∙ at_end (slice_set nodes i (node_after deed n)) t)

  -- what stands at a place: the node acted on, another one, or the new one
  abbrev pub Stands : ℕ → NodeFacts → Type 0
  Stands k x = ((k ≡ i) × (node_after deed n ≡ x)) ⊎ (((k ≢ i) × (slice_get nodes k ≡ Some x)) ⊎
      ((k ≡ length nodes) × (s : NodeState) × (makes (kind_of deed) ≡ Some s) × (new_node (length nodes) i n (kind_of deed) s ≡ x)))

  stands_old : (k : ℕ) (x : NodeFacts) → slice_get (slice_set nodes i (node_after deed n)) k ≡ Some x → Stands k x
  stands_old k x read = elim (after_set nodes i k (node_after deed n) x read) [ inl own ↦ inl own | inr other ↦ inr (inl other) ]

  stands_by : (o : Option NodeState) → makes (kind_of deed) ≡ o → (k : ℕ) (x : NodeFacts) → slice_get (slice_set nodes i (node_after deed n) ++ nodes_made (length nodes) i n (kind_of deed) o) k ≡ Some x → Stands k x
  stands_by None e k x read = stands_old k x (ap (λ xs. slice_get xs k) (sym (append-nil (slice_set nodes i (node_after deed n)))) ∙ read)
  stands_by (Some s) e k x read = elim (after_push (slice_set nodes i (node_after deed n)) k (new_node (length nodes) i n (kind_of deed) s) x read) [
    | inl old ↦ stands_old k x old
    | inr end ↦ inr (inr (end.0 ∙ length-set nodes i (node_after deed n), s, e, end.1))
  ]

  pub stands : (k : ℕ) (x : NodeFacts) → slice_get (nodes_after nodes i n deed) k ≡ Some x → Stands k x
  stands k x read = stands_by (makes (kind_of deed)) refl k x read

  pub long_by : (o : Option NodeState) → length (slice_set nodes i (node_after deed n) ++ nodes_made (length nodes) i n (kind_of deed) o) ≡ length nodes + kids_made o
  long_by None = omega (arith, length-append (slice_set nodes i (node_after deed n)) [], length-set nodes i (node_after deed n))
  long_by (Some s) = omega (arith, length-append (slice_set nodes i (node_after deed n)) (new_node (length nodes) i n (kind_of deed) s ∷ []), length-set nodes i (node_after deed n))

  -- the ordinals of children, with the new one's
  ordinals_after : (p : ℕ) → ordinals p (nodes_after nodes i n deed) ≡ ordinals p nodes ++ ordinals p (nodes_made (length nodes) i n (kind_of deed) (makes (kind_of deed)))
  ordinals_after p = filter_map-append (λ (x : NodeFacts). ordinal_under p x.birth) (slice_set nodes i (node_after deed n)) (nodes_made (length nodes) i n (kind_of deed) (makes (kind_of deed)))
      ∙ ap (λ xs. xs ++ ordinals p (nodes_made (length nodes) i n (kind_of deed) (makes (kind_of deed)))) (ordinals_set p nodes i n (node_after deed n) here refl)

  own_ordinals : (o : Option NodeState) → ordinals i (nodes_made (length nodes) i n (kind_of deed) o) ≡ count_from n.state.children (kids_made o)
  own_ordinals None = refl
  own_ordinals (Some s) = rw (under_parent (record { parent = i; ordinal = n.state.children }) (Some (record { parent = i; ordinal = n.state.children })) refl) refl

  other_ordinals : (p : ℕ) → p ≢ i → (o : Option NodeState) → ordinals p (nodes_made (length nodes) i n (kind_of deed) o) ≡ []
  other_ordinals p other None = refl
  other_ordinals p other (Some s) =
      rw (under_none p (record { parent = i; ordinal = n.state.children }) (Some (record { parent = i; ordinal = n.state.children })) refl (λ e. other (sym e))) refl

  -- a node that was there: its birth and domain stay, and a collection stays one
  pub was : (k : ℕ) (x : NodeFacts) → slice_get (nodes_after nodes i n deed) k ≡ Some x → k < length nodes
      → (y : NodeFacts) × (slice_get nodes k ≡ Some y) × (y.birth ≡ x.birth) × (y.domain ≡ x.domain) × (y.state.kind ≡ Collection → x.state.kind ≡ Collection)
  was k x read old = elim (stands k x read) [
    | inl own ↦ (
      n,
      subst (λ j. slice_get nodes j ≡ Some n) (sym own.0) here,
      ap (λ (z : NodeFacts). z.birth) own.1,
      ap (λ (z : NodeFacts). z.domain) own.1,
      λ is. sym (ap (λ (z : NodeFacts). z.state.kind) own.1) ∙ still_collection (kind_of deed) n.state is,
    )
    | inr rest ↦ elim rest [
      | inl other ↦ (x, other.1, refl, refl, λ is. is)
      | inr new ↦ absurd (omega (arith, new.0, old))
    ]
  ]

  pub newest : (k : ℕ) (x : NodeFacts) → slice_get (nodes_after nodes i n deed) k ≡ Some x
      → (k < length nodes) ⊎ ((k ≡ length nodes) × (s : NodeState) × (makes (kind_of deed) ≡ Some s) × (new_node (length nodes) i n (kind_of deed) s ≡ x))
  newest k x read = elim (stands k x read) [
    | inl own ↦ inl (subst (λ j. j < length nodes) (sym own.0) (slice_get_within nodes i n here))
    | inr rest ↦ elim rest [ inl other ↦ inl (slice_get_within nodes k x other.1) | inr new ↦ inr new ]
  ]

  module _ (tree : IsTree nodes) (allowed : allows (kind_of deed) n.state ≡ true) (room : has_room nodes (kind_of deed) ≡ true) where
    few_by : (o : Option NodeState) → (not (is_some o) || nat_le (length nodes + 1) 128) ≡ true → length nodes + kids_made o ≤ 128
    few_by None r = omega (arith, tree.few)
    few_by (Some s) r = search (rules, tests)

    numbered : (k : ℕ) (x : NodeFacts) → slice_get (nodes_after nodes i n deed) k ≡ Some x → ordinals k (nodes_after nodes i n deed) ≡ count_from 0 x.state.children
    numbered k x read = elim (stands k x read) [
      | inl own ↦
          let c : n.state.children + kids_made (makes (kind_of deed)) ≡ x.state.children = sym (acted_children (kind_of deed) n.state) ∙ ap (λ (z : NodeFacts). z.state.children) own.1 in
          let z : n.state.children ≡ 0 + n.state.children = omega arith in
          ap (λ j. ordinals j (nodes_after nodes i n deed)) own.0
          ∙ (ordinals_after i
          ∙ (ap (λ ys. ys ++ ordinals i (nodes_made (length nodes) i n (kind_of deed) (makes (kind_of deed)))) (tree.numbered i n here)
          ∙ (ap (λ ys. count_from 0 n.state.children ++ ys) (own_ordinals (makes (kind_of deed)) ∙ ap (λ a. count_from a (kids_made (makes (kind_of deed)))) z)
          ∙ (count_split 0 n.state.children (kids_made (makes (kind_of deed))) ∙ ap (λ a. count_from 0 a) c))))
      | inr rest ↦ elim rest [
        | inl other ↦ ordinals_after k ∙ (ap (λ ys. ordinals k nodes ++ ys) (other_ordinals k other.0 (makes (kind_of deed))) ∙ (append-nil (ordinals k nodes) ∙ tree.numbered k x other.1))
        | inr new ↦
            let within = slice_get_within nodes i n here in
            let none : ordinals k nodes ≡ [] = none_under k nodes (λ j y at. not_under nodes tree k j y at (omega (arith, slice_get_within nodes j y at, new.0))) in
            let childless : 0 ≡ x.state.children = sym (makes_childless (kind_of deed) new.1 new.2) ∙ ap (λ (z : NodeFacts). z.state.children) new.3 in
            ordinals_after k ∙ (ap (λ ys. ys ++ ordinals k (nodes_made (length nodes) i n (kind_of deed) (makes (kind_of deed)))) none
            ∙ (other_ordinals k (λ same. omega (arith, within, new.0, same)) (makes (kind_of deed)) ∙ ap (λ a. count_from 0 a) childless))
      ]
    ]

    child : (k : ℕ) (x : NodeFacts) → slice_get (nodes_after nodes i n deed) (suc k) ≡ Some x → IsSomeAnd x.birth (λ b. b.parent ≤ k)
    child k x read = elim (newest (suc k) x read) [
      | inl old ↦ (let (y, at, birth, _, _) = was (suc k) x read old in subst (λ o. IsSomeAnd o (λ (b : Birth). b.parent ≤ k)) birth (tree.child k y at))
      | inr new ↦
          let within = slice_get_within nodes i n here in
          let up : i ≤ k = omega (arith, within, new.0) in
          subst (λ (z : NodeFacts). IsSomeAnd z.birth (λ (b : Birth). b.parent ≤ k)) new.3 up
    ]

    placed : (k : ℕ) (x parent : NodeFacts) (b : Birth) → slice_get (nodes_after nodes i n deed) k ≡ Some x → x.birth ≡ Some b
        → slice_get (nodes_after nodes i n deed) b.parent ≡ Some parent → IsPlaced k x parent
    placed k x parent b read is up = elim (newest k x read) [
      | inl old ↦
          let (y, at, birth, domain, _) = was k x read old in
          let less = parent_of nodes tree k y b at (birth ∙ is) in
          let (q, there, _, home, stays) = was b.parent parent up (omega (arith, less, old)) in
          elim (tree.placed k y q b at (birth ∙ is) there) [
            | inl same ↦ inl (sym domain ∙ (same ∙ home))
            | inr root ↦ inr (sym domain ∙ root.0, stays root.1)
          ]
      | inr new ↦
          let mine : ◌≡◌ {A = Birth} (record { parent = i; ordinal = n.state.children }) b = same_Some _ b (ap (λ (z : NodeFacts). z.birth) new.3 ∙ is) in
          let at : i ≡ b.parent = ap (λ (z : Birth). z.parent) mine in
          let same : node_after deed n ≡ parent = same_Some (node_after deed n) parent (sym own_place ∙ (ap (slice_get (nodes_after nodes i n deed)) at ∙ up)) in
          subst (λ z. IsPlaced k z parent) new.3 (subst (λ z. IsPlaced k (new_node (length nodes) i n (kind_of deed) new.1) z) same (home k new.1 new.0 (makes_root (kind_of deed)) refl))
    ] where
      home : (k : ℕ) (s : NodeState) → k ≡ length nodes → (a : Bool) → makes_root (kind_of deed) ≡ a → IsPlaced k (new_node (length nodes) i n (kind_of deed) s) (node_after deed n)
      home k s at false e = inl (rw e refl)
      home k s at true e = inr (rw e (sym at), still_collection (kind_of deed) n.state (attached_to (kind_of deed) n.state.kind n.state e (and_parts n.state.is_open _ allowed).1))

    pub still_tree : IsTree (nodes_after nodes i n deed)
    still_tree = record {
      few = omega (arith, long_by (makes (kind_of deed)), few_by (makes (kind_of deed)) room);
      root = put (λ x. (x.birth ≡ None) × (x.domain ≡ 0)) (slice_get (nodes_after nodes i n deed) 0) _ (root_there.1) root_there.2;
      child = child;
      numbered = numbered;
      placed = placed;
    } where
      root_there : (x : NodeFacts) × (slice_get (nodes_after nodes i n deed) 0 ≡ Some x) × ((x.birth ≡ None) × (x.domain ≡ 0))
      root_there =
          let (r, at, root) = there (λ x. (x.birth ≡ None) × (x.domain ≡ 0)) (slice_get nodes 0) tree.root in
          elim (cases_eq 0 i) [
            | inl same ↦
                let is : r ≡ n = same_Some r n (sym at ∙ (ap (slice_get nodes) same ∙ here)) in
                (node_after deed n, ap (slice_get (nodes_after nodes i n deed)) same ∙ own_place, (ap (λ (z : NodeFacts). z.birth) (sym is) ∙ root.0, ap (λ (z : NodeFacts). z.domain) (sym is) ∙ root.1))
            | inr other ↦ (r, other_place 0 r other at, root)
          ]

-- an accepted action leaves a tree
pub stays_tree : (t : TreeFacts) (i : ℕ) (deed : Deed) (after : Applied) → IsTree t.nodes → applied t i deed ≡ Ok after → IsTree after.tree.nodes
stays_tree t i deed after tree is =
    let (n, a) = accepted t i deed after is in
    subst IsTree (ap (λ (x : TreeFacts). x.nodes) a.tree) (still_tree t.nodes i n deed a.there tree a.allowed a.room)
