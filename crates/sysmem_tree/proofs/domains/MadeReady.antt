-- An action makes no domain ready but its own, and that only where it
-- can end the waiting for its node.
use Rattle.std.proofs.Common.{◌≡◌, ◌≢◌, ◌⊎◌, ◌==◌, ◌&&◌, ◌||◌, not, ℕ, zero, suc, Bool, true, false, List, [], ◌∷◌, ◌++◌, length, Option, Some, None, slice_get, slice_set, refl, sym, ◌∙◌, ap, subst, arith, inl, inr}
use Rattle.std.specs.Prelude.{IsOk, Ok, option_and_then, if◌then◌else◌}
use Rattle.std.proofs.lemmas.Bool.{cases_Bool, cases_eq, ne_eqb}
use Rattle.std.proofs.lemmas.Option.{same_Some, slice_get_within}
use Rattle.list_lemmas.proofs.CallerLemmas.{and_parts, slice_get_some}
use Rattle.sysmem_tree.specs.declared.action.ActionKind.{ActionKind}
use Rattle.sysmem_tree.specs.declared.action.ActionKind.TheVariants.{Duplicate, CreateGroup, Bind, CreateChild, AllChildrenPresent, SetConstraints, AttachToken, Release, Close}
use Rattle.sysmem_tree.specs.declared.node.Birth.{Birth}
use Rattle.sysmem_tree.specs.declared.state.NodeKind.{NodeKind}
use Rattle.sysmem_tree.specs.declared.state.NodeKind.TheVariants.{Token, Group, Collection}
use Rattle.sysmem_tree.specs.declared.state.NodeState.{NodeState}
use Rattle.sysmem_tree.specs.ActionKind.{Deed, kind_of}
use Rattle.sysmem_tree.specs.Completing.{ends_wait, unready_of}
use Rattle.sysmem_tree.specs.Domain.{TreeFacts, HasDomain, IsSoundTree, has_failed, host_node, is_chosen, is_complete, is_host_selected, is_ready, is_selected}
use Rattle.sysmem_tree.specs.History.{Acted, after_answer}
use Rattle.sysmem_tree.specs.Node.{NodeFacts, awaits, is_awaited}
use Rattle.sysmem_tree.specs.Nodes.{IsTree}
use Rattle.sysmem_tree.specs.Table.{allows, makes, state_after, suits_node}
use Rattle.sysmem_tree.specs.Tree.{Applied, applied, domains_after, node_after, nodes_after, nodes_made, tree_after}
use Rattle.sysmem_tree.proofs.steps.Accepted.{IsAccepted}
use Rattle.sysmem_tree.proofs.domains.Failing.{failed_stays}
use Rattle.sysmem_tree.proofs.steps.Growing.{own_place, other_place}
use Rattle.sysmem_tree.proofs.nodes.Kids.{parent_of}
use Rattle.sysmem_tree.proofs.nodes.Places.{there}
use Rattle.sysmem_tree.proofs.domains.Readiness.{decision_acted, home_root, host_none, host_some}

-- no token is set
unset : (s : NodeState) → (s.is_set ≡ true → s.kind ≡ Collection) → s.kind ≡ Token → s.is_set ≡ false
unset s set token = by s.is_set refl where
  by : (b : Bool) → s.is_set ≡ b → s.is_set ≡ false
  by false e = e
  by true e = let both : Token ≡ Collection = sym token ∙ set e in absurd (cc)

a_token : (k : NodeKind) (s : NodeState) → suits_node Bind k s ≡ true → k ≡ Token
a_token Token s h = refl
a_token Group s h = absurd (cc)
a_token Collection s h = absurd (cc)

-- what doesn't end the waiting leaves the node awaited
with_children : (k : NodeKind) (s : NodeState) (c : ℕ) → awaits k (record s { children = c }) ≡ awaits k s
with_children Token s c = refl
with_children Group s c = refl
with_children Collection s c = refl

still_awaited : (kind : ActionKind) (s : NodeState) → (s.is_set ≡ true → s.kind ≡ Collection) → allows kind s ≡ true → ends_wait kind ≡ false → is_awaited s ≡ true → is_awaited (state_after kind s) ≡ true
still_awaited Duplicate s set ok other waits = with_children s.kind s _ ∙ waits
still_awaited CreateGroup s set ok other waits = with_children s.kind s _ ∙ waits
still_awaited CreateChild s set ok other waits = with_children s.kind s _ ∙ waits
still_awaited AttachToken s set ok other waits = with_children s.kind s _ ∙ waits
still_awaited Bind s set ok other waits =
    let (open', suits) = and_parts s.is_open (suits_node Bind s.kind s) ok in
    let none = unset s set (a_token s.kind s suits) in
    ap (λ b. not (b || not s.is_open)) none ∙ ap (λ b. not (false || not b)) open'
still_awaited AllChildrenPresent s set ok other waits = absurd (cc)
still_awaited SetConstraints s set ok other waits = absurd (cc)
still_awaited Release s set ok other waits = absurd (cc)
still_awaited Close s set ok other waits = absurd (cc)

-- whether a node is none of the domain's that are awaited
abbrev quiet : ℕ → NodeFacts → Bool
quiet r n = not ((n.domain == r) && is_awaited n.state)

quiet_before : (a b c : Bool) → (b ≡ true → c ≡ true) → not (a && c) ≡ true → not (a && b) ≡ true
quiet_before false b c h e = refl
quiet_before true false c h e = refl
quiet_before true true c h e = let late = h refl in absurd (cc)

complete_front : (xs ys : List NodeFacts) (r : ℕ) → is_complete (xs ++ ys) r ≡ true → is_complete xs r ≡ true
complete_front [] ys r done = refl
complete_front (x ∷ xs) ys r done =
    let (own, rest) = and_parts (quiet r x) (is_complete (xs ++ ys) r) done in
    ap (λ b. b && is_complete xs r) own ∙ complete_front xs ys r rest

complete_set : (xs : List NodeFacts) (i r : ℕ) (n m : NodeFacts) → slice_get xs i ≡ Some n → (quiet r m ≡ true → quiet r n ≡ true) → is_complete (slice_set xs i m) r ≡ true → is_complete xs r ≡ true
complete_set [] i r n m here back done = refl
complete_set (x ∷ xs) zero r n m here back done =
    let (own, rest) = and_parts (quiet r m) (is_complete xs r) done in
    let was : quiet r x ≡ true = ap (quiet r) (same_Some x n here) ∙ back own in
    ap (λ b. b && is_complete xs r) was ∙ rest
complete_set (x ∷ xs) (suc i) r n m here back done =
    let (own, rest) = and_parts (quiet r x) (is_complete (slice_set xs i m) r) done in
    ap (λ b. b && is_complete xs r) own ∙ complete_set xs i r n m here back rest

module _ (t : TreeFacts) (i : ℕ) (n : NodeFacts) (deed : Deed) (sound : IsSoundTree t) (here : slice_get t.nodes i ≡ Some n) (allowed : allows (kind_of deed) n.state ≡ true) where
  -- what is complete now was so
  was_complete : (r : ℕ) → (ends_wait (kind_of deed) ≡ false) ⊎ (n.domain ≢ r) → is_complete (nodes_after t.nodes i n deed) r ≡ true → is_complete t.nodes r ≡ true
  was_complete r other done =
      complete_set t.nodes i r n (node_after deed n) here (back other)
      (complete_front (slice_set t.nodes i (node_after deed n)) (nodes_made (length t.nodes) i n (kind_of deed) (makes (kind_of deed))) r done) where
        back : (ends_wait (kind_of deed) ≡ false) ⊎ (n.domain ≢ r) → quiet r (node_after deed n) ≡ true → quiet r n ≡ true
        back (inl idle) e = quiet_before (n.domain == r) (is_awaited n.state) (is_awaited (state_after (kind_of deed) n.state)) (still_awaited (kind_of deed) n.state (sound.proper i n here).set allowed idle) e
        back (inr away) e = ap (λ b. not (b && is_awaited n.state)) (ne_eqb n.domain r away)

  -- each node stays with its birth, and as selected as it was
  same_place : (k : ℕ) (x : NodeFacts) → slice_get t.nodes k ≡ Some x
      → (y : NodeFacts) × (slice_get (nodes_after t.nodes i n deed) k ≡ Some y) × (y.birth ≡ x.birth) × (is_selected (domains_after t n (kind_of deed)) y ≡ is_selected t.domains x)
  same_place k x read = elim (cases_eq k i) [
    | inl same ↦
        let is : n ≡ x = same_Some n x (sym here ∙ (ap (slice_get t.nodes) (sym same) ∙ read)) in (
          node_after deed n,
          subst (λ j. slice_get (nodes_after t.nodes i n deed) j ≡ Some (node_after deed n)) (sym same) (own_place t.nodes i n deed here),
          ap (λ (z : NodeFacts). z.birth) is,
          ap (λ d. is_chosen d && not n.is_left_out) (decision_acted t n n.domain (kind_of deed)) ∙ ap (is_selected t.domains) is,
        )
    | inr other ↦ (x, other_place t.nodes i n deed here k x other read, refl, ap (λ d. is_chosen d && not x.is_left_out) (decision_acted t n x.domain (kind_of deed)))
  ]

  -- a host that is selected now was so
  host_was : (r : ℕ) (z : NodeFacts) → slice_get t.nodes r ≡ Some z → is_host_selected (domains_after t n (kind_of deed)) (host_node (nodes_after t.nodes i n deed) r) ≡ true
      → is_host_selected t.domains (host_node t.nodes r) ≡ true
  host_was r z at selected = by z.birth refl where
    by : (b : Option Birth) → z.birth ≡ b → is_host_selected t.domains (host_node t.nodes r) ≡ true
    by None e = ap (is_host_selected t.domains) (host_none t.nodes r z at e)
    by (Some b) e =
        let (y, now, birth, _) = same_place r z at in
        let less = parent_of t.nodes sound.tree r z b at e in
        let (h, up) = slice_get_some t.nodes b.parent (omega (arith, less, slice_get_within t.nodes r z at)) in
        let (h', up', _, same) = same_place b.parent h up in
        ap (is_host_selected t.domains) (host_some t.nodes r z h b at e up)
        ∙ (sym same ∙ (sym (ap (is_host_selected (domains_after t n (kind_of deed))) (host_some (nodes_after t.nodes i n deed) r y h' b now (birth ∙ e) up')) ∙ selected))

not_true : (a : Bool) → not a ≡ true → a ≡ false
not_true true e = absurd (cc)
not_true false e = refl

-- what is ready after an action was so, but for its own domain where it
-- can end the waiting for its node
pub was_ready : (t : TreeFacts) (i : ℕ) (n : NodeFacts) (deed : Deed) (made : Applied) → IsSoundTree t → applied t i deed ≡ Ok made → IsAccepted t i deed made n → (r : ℕ) → HasDomain t.nodes r
    → (ends_wait (kind_of deed) ≡ false) ⊎ (n.domain ≢ r) → is_ready made.tree r ≡ true → is_ready t r ≡ true
was_ready t i n deed made sound ok fine r has other ready =
    let (z, at, _) = there (λ (x : NodeFacts). x.domain ≡ r) (slice_get t.nodes r) has in
    let u : TreeFacts = tree_after t i n deed in
    let now : is_ready u r ≡ true = subst (λ (x : TreeFacts). is_ready x r ≡ true) (sym fine.tree) ready in
    let (done, rest) = and_parts (is_complete u.nodes r) (not (has_failed u r) && is_host_selected u.domains (host_node u.nodes r)) now in
    let (unfailed, selected) = and_parts (not (has_failed u r)) (is_host_selected u.domains (host_node u.nodes r)) rest in
    let was = was_complete t i n deed sound fine.there fine.allowed r other done in
    let fit : has_failed t r ≡ false = elim (cases_Bool (has_failed t r)) as (λ _. has_failed t r ≡ false) [
      | inl failed ↦
          let later : has_failed u r ≡ true = subst (λ (x : TreeFacts). has_failed x r ≡ true) (sym fine.tree)
          (subst (λ o. has_failed (after_answer t o) r ≡ true) ok (failed_stays t (Acted i deed) r sound (subst IsOk (sym ok) refl) has failed)) in
          let none = not_true (has_failed u r) unfailed in
          absurd (cc)
      | inr fit ↦ fit
    ] in
    let host = host_was t i n deed sound fine.there fine.allowed r z at selected in
    rw (was, fit, host) refl

-- the domain of a node that isn't ready is one of the tree's
pub unready_there : (t : TreeFacts) (i r : ℕ) → IsTree t.nodes → option_and_then (unready_of t) (slice_get t.nodes i) ≡ Some r → HasDomain t.nodes r
unready_there t i r tree is = by (slice_get t.nodes i) refl is where
  own : (n : NodeFacts) → slice_get t.nodes i ≡ Some n → (ready : Bool) → (if ready then None else Some n.domain) ≡ Some r → HasDomain t.nodes r
  own n here true e = absurd (cc)
  own n here false e = subst (HasDomain t.nodes) (same_Some n.domain r e) (home_root t.nodes tree (suc i) i n (omega arith) here)

  by : (o : Option NodeFacts) → slice_get t.nodes i ≡ o → option_and_then (unready_of t) o ≡ Some r → HasDomain t.nodes r
  by None here e = absurd (cc)
  by (Some n) here e = own n here (is_ready t n.domain) e
