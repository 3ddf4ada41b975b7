-- An action, seen as a change of the map from paths to nodes.
use Rattle.std.proofs.Common.{◌≡◌, ◌≢◌, ℕ, zero, suc, ◌+◌, ◌<◌, ◌≤◌, ◌==◌, Bool, true, false, List, [], ◌∷◌, ◌++◌, length, length-append, Option, Some, None, slice_get, refl, sym, ◌∙◌, ap, subst, arith, rules, tests, inl, inr}
use Rattle.std.specs.Prelude.{option_map, option_and_then, unwrap_or, IsSome, Ok, if◌then◌else◌}
use Rattle.std.proofs.lemmas.Bool.{cases_eq}
use Rattle.std.proofs.lemmas.Option.{slice_get_within, same_Some, none-some, option_and_then_some}
use Rattle.list_lemmas.proofs.CallerLemmas.{slice_get_some}
use Rattle.sysmem_tree.specs.declared.node.Birth.{Birth}
use Rattle.sysmem_tree.specs.declared.state.NodeState.{NodeState}
use Rattle.sysmem_tree.specs.ActionKind.{Deed, kind_of}
use Rattle.sysmem_tree.specs.Domain.{TreeFacts}
use Rattle.sysmem_tree.specs.Laws.{IsOnlyPath}
use Rattle.sysmem_tree.specs.Node.{NodeFacts}
use Rattle.sysmem_tree.specs.Nodes.{IsTree}
use Rattle.sysmem_tree.specs.Path.{child_of, led_to, node_at, path_within, path_of, shown_of, at_path}
use Rattle.sysmem_tree.specs.Step.{IsStep}
use Rattle.sysmem_tree.specs.Table.{allows, wants_child, makes, makes_root}
use Rattle.sysmem_tree.specs.Tree.{Applied, applied, node_after, new_node, nodes_after}
use Rattle.sysmem_tree.proofs.steps.Accepted.{accepted}
use Rattle.sysmem_tree.proofs.steps.Growing.{own_place, other_place, new_place, newest, still_tree}
use Rattle.sysmem_tree.proofs.nodes.Kids.{among_them, under_parent, parent_of, root_birth}
use Rattle.sysmem_tree.proofs.nodes.Places.{there}
use Rattle.sysmem_tree.proofs.nodes.Ways.{distinct, child_found, child_born, root_alone, one_path}

-- what two paths together lead to
pub led_append : (nodes : List NodeFacts) (p q : List ℕ) (j : ℕ) → led_to nodes j (p ++ q) ≡ option_and_then (λ c. led_to nodes c q) (led_to nodes j p)
led_append nodes [] q j = refl
led_append nodes (o ∷ p) q j = at (led_append nodes p q) (child_of nodes j o) where
  at : ((c : ℕ) → led_to nodes c (p ++ q) ≡ option_and_then (λ c. led_to nodes c q) (led_to nodes c p)) → (r : Option ℕ) → option_and_then (λ c. led_to nodes c (p ++ q)) r ≡ option_and_then (λ c. led_to nodes c q) (option_and_then (λ c. led_to nodes c p) r)
  at rest None = refl
  at rest (Some c) = rest c

-- a node's path goes on to its children
pub led_kid : (nodes : List NodeFacts) → IsTree nodes → (path : List ℕ) (p k : ℕ) (n : NodeFacts) (b : Birth) → node_at nodes path ≡ Some p → slice_get nodes k ≡ Some n → n.birth ≡ Some b → b.parent ≡ p
    → node_at nodes (path ++ b.ordinal ∷ []) ≡ Some k
led_kid nodes tree path p k n b leads here is up =
    let found : child_of nodes p b.ordinal ≡ Some k = ap (λ j. child_of nodes j b.ordinal) (sym up) ∙ child_found nodes k n b (distinct nodes tree) here is in
    led_append nodes path (b.ordinal ∷ []) 0 ∙ (ap (λ r. option_and_then (λ c. led_to nodes c (b.ordinal ∷ [])) r) leads
    ∙ ap (λ r. option_and_then (λ c. led_to nodes c []) r) found)

-- the way to a node leads to it, through as many parents as it has
way_leads : (nodes : List NodeFacts) → IsTree nodes → (bound k : ℕ) → k < bound → k < length nodes → node_at nodes (path_within bound nodes k) ≡ Some k
way_leads nodes tree zero k below within = absurd (omega (arith, below))
way_leads nodes tree (suc bound) k below within =
    let (n, here) = slice_get_some nodes k within in at (way_leads nodes tree bound) n here n.birth refl where
      by_birth : Option Birth → List ℕ
      by_birth o = unwrap_or (option_map (λ (b : Birth). path_within bound nodes b.parent ++ b.ordinal ∷ []) o) []

      on_birth : (n : NodeFacts) → slice_get nodes k ≡ Some n → path_within (suc bound) nodes k ≡ by_birth n.birth
      on_birth n here = ap (λ o. by_birth (option_and_then (λ (x : NodeFacts). x.birth) o)) here

      at : ((j : ℕ) → j < bound → j < length nodes → node_at nodes (path_within bound nodes j) ≡ Some j) → (n : NodeFacts) → slice_get nodes k ≡ Some n → (b : Option Birth) → n.birth ≡ b
          → node_at nodes (path_within (suc bound) nodes k) ≡ Some k
      at up n here None none = ap (node_at nodes) (on_birth n here ∙ ap by_birth none) ∙ ap (λ j. Some j) (sym (root_alone nodes k n tree here none))
      at up n here (Some b) is =
          let older = parent_of nodes tree k n b here is in
          let leads = up b.parent (omega (arith, older, below)) (omega (arith, older, within)) in
          ap (node_at nodes) (on_birth n here ∙ ap by_birth is) ∙ led_kid nodes tree (path_within bound nodes b.parent) b.parent k n b leads here is refl

-- each node has its path, and no other
pub path_leads : (nodes : List NodeFacts) → IsTree nodes → (k : ℕ) → k < length nodes → node_at nodes (path_of nodes k) ≡ Some k
path_leads nodes tree k within = way_leads nodes tree 128 k (omega (arith, within, tree.few)) within

pub has_path : (nodes : List NodeFacts) → IsTree nodes → (k : ℕ) → k < length nodes → (p : List ℕ) × (node_at nodes p ≡ Some k)
has_path nodes tree k within = (path_of nodes k, path_leads nodes tree k within)

-- its domain's root is no later node
pub domain_up : (nodes : List NodeFacts) → IsTree nodes → (bound k : ℕ) (n : NodeFacts) → k < bound → slice_get nodes k ≡ Some n → n.domain ≤ k
domain_up nodes tree zero k n below here = absurd (omega (arith, below))
domain_up nodes tree (suc bound) k n below here = at (domain_up nodes tree bound) n.birth refl where
  at : ((j : ℕ) (m : NodeFacts) → j < bound → slice_get nodes j ≡ Some m → m.domain ≤ j) → (b : Option Birth) → n.birth ≡ b → n.domain ≤ k
  at up None e =
      let zero_is = root_alone nodes k n tree here e in
      omega (arith, (root_birth nodes tree n (sym (ap (slice_get nodes) zero_is) ∙ here)).1)
  at up (Some b) e =
      let less = parent_of nodes tree k n b here e in
      let (p, at_p) = slice_get_some nodes b.parent (omega (arith, less, slice_get_within nodes k n here)) in
      elim (tree.placed k n p b here e at_p) [
        | inl same ↦ omega (arith, same, up b.parent p (omega (arith, less, below)) at_p, less)
        | inr root ↦ omega (arith, root.0)
      ]

-- a path leads to one of the nodes
led_within : (nodes : List NodeFacts) (q : List ℕ) (j k : ℕ) → j < length nodes → led_to nodes j q ≡ Some k → k < length nodes
led_within nodes [] j k within leads = subst (λ x. x < length nodes) (same_Some j k leads) within
led_within nodes (o ∷ q) j k within leads = option_and_then_some (λ c. led_to nodes c q) (child_of nodes j o) k leads
    (λ c found on. let (a, at, _) = child_born nodes j o c found in led_within nodes q c k (slice_get_within nodes c a at) on)

pub node_within : (nodes : List NodeFacts) → IsTree nodes → (q : List ℕ) (k : ℕ) → node_at nodes q ≡ Some k → k < length nodes
node_within nodes tree q k leads =
    let (r, at, _) = there (λ x. (x.birth ≡ None) × (x.domain ≡ 0)) (slice_get nodes 0) tree.root in led_within nodes q 0 k (slice_get_within nodes 0 r at) leads

pub path_is : (nodes : List NodeFacts) → IsTree nodes → (path : List ℕ) (k : ℕ) → node_at nodes path ≡ Some k → path_of nodes k ≡ path
path_is nodes tree path k leads = one_path nodes (path_of nodes k) path k tree (path_leads nodes tree k (node_within nodes tree path k leads)) leads

-- a child's path has one step more than its parent's
pub one_step : (nodes : List NodeFacts) → IsTree nodes → (k : ℕ) (n : NodeFacts) (b : Birth) → slice_get nodes k ≡ Some n → n.birth ≡ Some b
    → length (path_of nodes k) ≡ length (path_of nodes b.parent) + 1
one_step nodes tree k n b here is =
    let older = parent_of nodes tree k n b here is in
    let leads = path_leads nodes tree b.parent (omega (arith, older, slice_get_within nodes k n here)) in
    ap length (path_is nodes tree (path_of nodes b.parent ++ b.ordinal ∷ []) k (led_kid nodes tree (path_of nodes b.parent) b.parent k n b leads here is refl))
    ∙ length-append (path_of nodes b.parent) (b.ordinal ∷ [])

-- and the root's has none
pub no_step : (nodes : List NodeFacts) → IsTree nodes → (k : ℕ) → k ≡ 0 → length (path_of nodes k) ≡ 0
no_step nodes tree k root = ap length (path_is nodes tree [] k (ap (λ j. Some j) (sym root)))

pub only_path : (nodes : List NodeFacts) (k : ℕ) → IsTree nodes → k < length nodes → IsOnlyPath nodes k (path_of nodes k)
only_path nodes k tree within = record { leads = path_leads nodes tree k within; only = λ other leads. sym (path_is nodes tree other k leads) }

-- what the map shows
pub at_node : (nodes : List NodeFacts) (q : List ℕ) (k : ℕ) (a : NodeFacts) → node_at nodes q ≡ Some k → slice_get nodes k ≡ Some a → at_path nodes q ≡ Some (shown_of k a)
at_node nodes q k a leads here = ap (λ r. option_and_then (λ j. option_map (shown_of j) (slice_get nodes j)) r) leads ∙ ap (option_map (shown_of k)) here

pub at_nowhere : (nodes : List NodeFacts) (q : List ℕ) → node_at nodes q ≡ None → at_path nodes q ≡ None
at_nowhere nodes q none = ap (λ r. option_and_then (λ j. option_map (shown_of j) (slice_get nodes j)) r) none

-- where births stay, paths do
module _ (old new : List NodeFacts) (tree : IsTree new)
    (kept : (k : ℕ) (a : NodeFacts) → slice_get old k ≡ Some a → (b : NodeFacts) × (slice_get new k ≡ Some b) × (b.birth ≡ a.birth)) where
  pub path_stays : (q : List ℕ) (j k : ℕ) → led_to old j q ≡ Some k → led_to new j q ≡ Some k
  path_stays [] j k leads = leads
  path_stays (o ∷ q) j k leads = option_and_then_some (λ c. led_to old c q) (child_of old j o) k leads
      (λ c found on.
      let (a, at, born) = child_born old j o c found in
      let (b, now, same) = kept c a at in
      let found' : child_of new j o ≡ Some c = child_found new c b (record { parent = j; ordinal = o }) (distinct new tree) now (same ∙ born) in
      ap (λ r. option_and_then (λ c. led_to new c q) r) found' ∙ path_stays q c k on)

module _ (nodes : List NodeFacts) (i : ℕ) (n : NodeFacts) (deed : Deed) (here : slice_get nodes i ≡ Some n) where
  pub births_kept : (k : ℕ) (a : NodeFacts) → slice_get nodes k ≡ Some a → (b : NodeFacts) × (slice_get (nodes_after nodes i n deed) k ≡ Some b) × (b.birth ≡ a.birth)
  births_kept k a read = elim (cases_eq k i) [
    | inl same ↦ (
      node_after deed n,
      subst (λ j. slice_get (nodes_after nodes i n deed) j ≡ Some (node_after deed n)) (sym same) (own_place nodes i n deed here),
      ap (λ (x : NodeFacts). x.birth) (same_Some n a (sym here ∙ (ap (slice_get nodes) (sym same) ∙ read))),
    )
    | inr other ↦ (a, other_place nodes i n deed here k a other read, refl)
  ]

  -- what an action makes roots a domain where it attaches
  module _ (tree : IsTree nodes) where
    roots : (a : Bool) → makes_root (kind_of deed) ≡ a → ((if makes_root (kind_of deed) then length nodes else n.domain) == length nodes) ≡ makes_root (kind_of deed)
    roots true e = let t : (length nodes == length nodes) ≡ true = search (rules, tests) in rw (e, t) refl
    roots false e =
        let up = domain_up nodes tree (suc i) i n (omega arith) here in
        let less = slice_get_within nodes i n here in
        let apart : n.domain ≢ length nodes = λ same. omega (arith, same, up, less) in
        let t : (n.domain == length nodes) ≡ false = search (rules, tests, apart) in rw (e, t) refl

    pub new_is_root : ((if makes_root (kind_of deed) then length nodes else n.domain) == length nodes) ≡ makes_root (kind_of deed)
    new_is_root = roots (makes_root (kind_of deed)) refl

  module _ (tree : IsTree nodes) (after : IsTree (nodes_after nodes i n deed)) (path : List ℕ) (leads : node_at nodes path ≡ Some i) where
    pub still : (q : List ℕ) (k : ℕ) → node_at nodes q ≡ Some k → node_at (nodes_after nodes i n deed) q ≡ Some k
    still q k is = path_stays nodes (nodes_after nodes i n deed) after births_kept q 0 k is

    pub made_leads : (s : NodeState) → makes (kind_of deed) ≡ Some s → node_at (nodes_after nodes i n deed) (path ++ n.state.children ∷ []) ≡ Some (length nodes)
    made_leads s e = led_kid (nodes_after nodes i n deed) after path i (length nodes) (new_node (length nodes) i n (kind_of deed) s) (record { parent = i; ordinal = n.state.children })
        (still path i leads) (new_place nodes i n deed here s e) refl refl

    -- a path that led nowhere leads nowhere still, but to what was made
    pub nowhere : (q : List ℕ) → (IsSome (makes (kind_of deed)) → q ≢ path ++ n.state.children ∷ []) → node_at nodes q ≡ None → (r : Option ℕ) → node_at (nodes_after nodes i n deed) q ≡ r → r ≡ None
    nowhere q other none None is = refl
    nowhere q other none (Some k) is = absurd (
        let (a, at) = slice_get_some (nodes_after nodes i n deed) k (node_within (nodes_after nodes i n deed) after q k is) in
        elim (newest nodes i n deed here k a at) [
          | inl old ↦
              let (p, to) = has_path nodes tree k old in
              let same : q ≡ p = one_path (nodes_after nodes i n deed) q p k after is (still p k to) in
              none-some k (sym none ∙ (ap (node_at nodes) same ∙ to))
          | inr new ↦ other (subst IsSome (sym new.2) refl)
              (one_path (nodes_after nodes i n deed) q (path ++ n.state.children ∷ []) k after is (made_leads new.1 new.2 ∙ ap (λ j. Some j) (sym new.0)))
        ])

    others : (q : List ℕ) → q ≢ path → (IsSome (makes (kind_of deed)) → q ≢ path ++ n.state.children ∷ []) → (r : Option ℕ) → node_at nodes q ≡ r → at_path (nodes_after nodes i n deed) q ≡ at_path nodes q
    others q away other None none = at_nowhere (nodes_after nodes i n deed) q (nowhere q other none _ refl) ∙ sym (at_nowhere nodes q none)
    others q away other (Some k) is =
        let (a, read) = slice_get_some nodes k (node_within nodes tree q k is) in
        let elsewhere : k ≢ i = λ same. away (one_path nodes q path k tree is (leads ∙ ap (λ j. Some j) (sym same))) in
        at_node (nodes_after nodes i n deed) q k a (still q k is) (other_place nodes i n deed here k a elsewhere read) ∙ sym (at_node nodes q k a is read)

    -- the next ordinal is nobody's yet
    pub free : (r : Option ℕ) → child_of nodes i n.state.children ≡ r → r ≡ None
    free None e = refl
    free (Some c) e = absurd (
        let (a, at, is) = child_born nodes i n.state.children c e in
        let both = among_them i nodes 0 n.state.children c n.state.children a (tree.numbered i n here) at (under_parent (record { parent = i; ordinal = n.state.children }) a.birth is) in
        omega (arith, both.1))

    free_path : node_at nodes (path ++ n.state.children ∷ []) ≡ None
    free_path = led_append nodes path (n.state.children ∷ []) 0 ∙ (ap (λ r. option_and_then (λ c. led_to nodes c (n.state.children ∷ [])) r) leads
        ∙ ap (λ r. option_and_then (λ c. led_to nodes c []) r) (free _ refl))

    pub step : allows (kind_of deed) n.state ≡ true → wants_child (kind_of deed) n.state ≡ false → IsStep (at_path nodes) (at_path (nodes_after nodes i n deed)) path deed
    step allowed content = record {
      was = shown_of i n;
      there = at_node nodes path i n leads here;
      allowed = allowed;
      content = content;
      own = at_node (nodes_after nodes i n deed) path i (node_after deed n) (still path i leads) (own_place nodes i n deed here);
      free = at_nowhere nodes (path ++ n.state.children ∷ []) free_path;
      kid = λ s e. at_node (nodes_after nodes i n deed) (path ++ n.state.children ∷ []) (length nodes) (new_node (length nodes) i n (kind_of deed) s) (made_leads s e) (new_place nodes i n deed here s e)
          ∙ ap (λ b. Some (record { state = s; constraints = None; is_domain_root = b })) (new_is_root tree);
      others = λ q away other. others q away other _ refl;
    }

-- an accepted action is a step of the map
pub call_is_step : (t : TreeFacts) (i : ℕ) (path : List ℕ) (deed : Deed) (after : Applied) → IsTree t.nodes → node_at t.nodes path ≡ Some i
    → applied t i deed ≡ Ok after → IsStep (at_path t.nodes) (at_path after.tree.nodes) path deed
call_is_step t i path deed after tree leads is =
    let (n, a) = accepted t i deed after is in
    subst (λ (x : TreeFacts). IsStep (at_path t.nodes) (at_path x.nodes) path deed) a.tree
    (step t.nodes i n deed a.there tree (still_tree t.nodes i n deed a.there tree a.allowed a.room) path leads a.allowed a.content)
