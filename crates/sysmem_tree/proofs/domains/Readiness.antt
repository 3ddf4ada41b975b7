-- Once ready a domain stays so.
use Rattle.std.proofs.Common.{◌≡◌, ◌≢◌, ◌⊎◌, ℕ, zero, suc, ◌+◌, ◌<◌, ◌==◌, ◌&&◌, ◌||◌, not, Bool, true, false, List, [], ◌∷◌, ◌++◌, length, Option, Some, None, slice_get, refl, sym, ◌∙◌, ap, subst, arith, rules, tests, inl, inr}
use Rattle.std.specs.Prelude.{Ok, IsSomeAnd, option_map, option_and_then, unwrap_or, map, if◌then◌else◌}
use Rattle.std.specs.List.{list_any}
use Rattle.std.proofs.lemmas.Bool.{cases_eq}
use Rattle.std.proofs.lemmas.Option.{slice_get_within, same_Some}
use Rattle.list_lemmas.proofs.CallerLemmas.{and_parts, slice_get_some}
use Rattle.sysmem_tree.specs.declared.action.ActionKind.{ActionKind}
use Rattle.sysmem_tree.specs.declared.action.ActionKind.TheVariants.{Duplicate, CreateGroup, Bind, CreateChild, AllChildrenPresent, SetConstraints, AttachToken, Release, Close}
use Rattle.sysmem_tree.specs.declared.domain.Decision.{Decision}
use Rattle.sysmem_tree.specs.declared.domain.Decision.TheVariants.{Undecided, Chosen, NoneChosen}
use Rattle.sysmem_tree.specs.declared.domain.Domain.{Domain}
use Rattle.sysmem_tree.specs.declared.node.Birth.{Birth}
use Rattle.sysmem_tree.specs.ActionKind.{Deed, kind_of}
use Rattle.sysmem_tree.specs.Domain.{TreeFacts, HasDomain, is_chosen, is_none_chosen, is_undecided, was_closed_early, decision_of, host_node, is_selected, up_from, fails, has_failed, is_complete, is_ready, IsDecidedReady, DecidedAreReady, is_host_selected, is_host_lost}
use Rattle.sysmem_tree.specs.Forest.{relabel}
use Rattle.sysmem_tree.specs.Laws.{by_both, IsSameDomain}
use Rattle.sysmem_tree.specs.Node.{NodeFacts}
use Rattle.sysmem_tree.specs.Nodes.{IsTree}
use Rattle.sysmem_tree.specs.Path.{path_of}
use Rattle.sysmem_tree.specs.Selection.{settled_by}
use Rattle.sysmem_tree.specs.Shape.{members_of, rooted, forest_of, by_number}
use Rattle.sysmem_tree.specs.Table.{allows}
use Rattle.sysmem_tree.specs.Tree.{first_tree, Applied, applied, has_room, new_domain, node_after, nodes_after, closed_early, domains_after, tree_after, decided_domain, left_out_but, decided}
use Rattle.sysmem_tree.proofs.steps.Accepted.{accepted}
use Rattle.sysmem_tree.proofs.histories.Agreeing.{closed_acted, complete_stays, decided_marks}
use Rattle.sysmem_tree.proofs.nodes.Alike.{decided_alike, alike_tree, alike_node}
use Rattle.sysmem_tree.proofs.steps.Growing.{own_place, other_place, still_tree}
use Rattle.sysmem_tree.proofs.nodes.Kids.{parent_of, root_birth}
use Rattle.sysmem_tree.proofs.domains.Ready.{both_kept, forest_left}
use Rattle.sysmem_tree.proofs.forests.Labelled.{one_forest}
use Rattle.sysmem_tree.proofs.nodes.Places.{there, put}
use Rattle.sysmem_tree.proofs.steps.Steps.{path_stays, births_kept, path_leads, path_is}
use Rattle.sysmem_tree.proofs.nodes.Ways.{root_alone}

or_false : (a b : Bool) → (a || b) ≡ false → (a ≡ false) × (b ≡ false)
or_false true b e = absurd (cc)
or_false false b e = (refl, e)

not_true : (a : Bool) → not a ≡ true → a ≡ false
not_true true e = absurd (cc)
not_true false e = refl

selected_not_lost : (d : Decision) (out : Bool) → (is_chosen d && not out) ≡ true → (is_none_chosen d || (is_chosen d && out)) ≡ false
selected_not_lost Chosen true e = absurd (cc)
selected_not_lost Chosen false e = refl
selected_not_lost NoneChosen out e = absurd (cc)
selected_not_lost Undecided out e = absurd (cc)

decided_by : (d : Decision) → is_chosen d ≡ true → is_undecided d ≡ false
decided_by Chosen e = refl
decided_by NoneChosen e = refl
decided_by Undecided e = absurd (cc)

-- hosts that are as selected as they were
abbrev pub HostKept : TreeFacts → TreeFacts → Option NodeFacts → Option NodeFacts → Type 0
HostKept t u None None = Unit {0}
HostKept t u None (Some h) = ⊥
HostKept t u (Some h) None = ⊥
HostKept t u (Some h) (Some h') = (HasDomain t.nodes h.domain) × (h.domain ≡ h'.domain) × (is_selected t.domains h ≡ true → is_selected u.domains h' ≡ true)

-- what keeps domains ready
pub record Keeps (t u : TreeFacts) : Type 0 where
  pub complete : (r : ℕ) → r < length t.nodes → is_complete t.nodes r ≡ true → is_complete u.nodes r ≡ true
  pub unclosed : (r : ℕ) → is_ready t r ≡ true → was_closed_early t.domains r ≡ false → was_closed_early u.domains r ≡ false
  pub host : (r : ℕ) (z : NodeFacts) → slice_get t.nodes r ≡ Some z → HostKept t u (host_node t.nodes r) (host_node u.nodes r)

-- the parts of readiness
record Parts (t : TreeFacts) (r : ℕ) : Type 0 where
  complete : is_complete t.nodes r ≡ true
  unfailed : has_failed t r ≡ false
  selected : is_host_selected t.domains (host_node t.nodes r) ≡ true

parts : (t : TreeFacts) (r : ℕ) → is_ready t r ≡ true → Parts t r
parts t r e =
    let (c, rest) = and_parts (is_complete t.nodes r) _ e in
    let (f, s) = and_parts (not (has_failed t r)) _ rest in
    record { complete = c; unfailed = not_true (has_failed t r) f; selected = s }

module _ (t u : TreeFacts) (decided_ready : DecidedAreReady t) (keeps : Keeps t u) where
  host_ready : (h : NodeFacts) → is_selected t.domains h ≡ true → is_ready t h.domain ≡ true
  host_ready h e = (decided_ready h.domain (decided_by (decision_of t.domains h.domain) (and_parts (is_chosen (decision_of t.domains h.domain)) _ e).0)).ready

  host_fine : (a b : Option NodeFacts) → HostKept t u a b → is_host_selected t.domains a ≡ true
      → (is_host_selected u.domains b ≡ true) × (is_host_lost u.domains b ≡ false)
  host_fine None None k e = (refl, refl)
  host_fine None (Some h') k e = absurd k
  host_fine (Some h) None k e = absurd k
  host_fine (Some h) (Some h') k e = let s = k.2 e in (s, selected_not_lost (decision_of u.domains h'.domain) h'.is_left_out s)

  own : (r : ℕ) (z : NodeFacts) → slice_get t.nodes r ≡ Some z → is_ready t r ≡ true → fails u r ≡ false
  own r z here ready =
      let p = parts t r ready in
      let (f, _) = or_false (fails t r) (list_any (fails t) (unwrap_or (option_map (λ (host : NodeFacts). up_from 127 t.nodes host.domain) (host_node t.nodes r)) [])) p.unfailed in
      let (c, _) = or_false (was_closed_early t.domains r) _ f in
      let fine = host_fine (host_node t.nodes r) (host_node u.nodes r) (keeps.host r z here) p.selected in
      ap (λ b. b || is_host_lost u.domains (host_node u.nodes r)) (keeps.unclosed r ready c) ∙ fine.1

  chain : (many r : ℕ) (z : NodeFacts) → slice_get t.nodes r ≡ Some z → is_ready t r ≡ true → list_any (fails u) (up_from many u.nodes r) ≡ false
  chain zero r z here ready = refl
  chain (suc many) r z here ready =
      ap (λ b. b || list_any (fails u) (unwrap_or (option_map (λ (host : NodeFacts). up_from many u.nodes host.domain) (host_node u.nodes r)) [])) (own r z here ready)
      ∙ up (host_node t.nodes r) (host_node u.nodes r) (keeps.host r z here) (parts t r ready).selected (λ d y at ok. chain many d y at ok) where
        up : (a b : Option NodeFacts) → HostKept t u a b → is_host_selected t.domains a ≡ true
            → ((d : ℕ) (y : NodeFacts) → slice_get t.nodes d ≡ Some y → is_ready t d ≡ true → list_any (fails u) (up_from many u.nodes d) ≡ false)
            → list_any (fails u) (unwrap_or (option_map (λ (host : NodeFacts). up_from many u.nodes host.domain) b) []) ≡ false
        up None None k e ih = refl
        up None (Some h') k e ih = absurd k
        up (Some h) None k e ih = absurd k
        up (Some h) (Some h') k e ih =
            let (y, at, _) = there (λ (y : NodeFacts). y.domain ≡ h.domain) (slice_get t.nodes h.domain) k.0 in
            ap (λ d. list_any (fails u) (up_from many u.nodes d)) (sym k.1) ∙ ih h.domain y at (host_ready h e)

  pub stays_ready : (r : ℕ) (z : NodeFacts) → slice_get t.nodes r ≡ Some z → is_ready t r ≡ true → is_ready u r ≡ true
  stays_ready r z here ready =
      let p = parts t r ready in
      let c = keeps.complete r (slice_get_within t.nodes r z here) p.complete in
      let f : has_failed u r ≡ false = chain 128 r z here ready in
      let s = (host_fine (host_node t.nodes r) (host_node u.nodes r) (keeps.host r z here) p.selected).0 in
      ap (λ b. b && (not (has_failed u r) && is_host_selected u.domains (host_node u.nodes r))) c
      ∙ (ap (λ b. true && (not b && is_host_selected u.domains (host_node u.nodes r))) f ∙ ap (λ b. true && (not false && b)) s)

-- a domain's root roots itself
pub home_root : (nodes : List NodeFacts) → IsTree nodes → (bound k : ℕ) (n : NodeFacts) → k < bound → slice_get nodes k ≡ Some n → HasDomain nodes n.domain
home_root nodes tree zero k n below here = absurd (omega (arith, below))
home_root nodes tree (suc bound) k n below here = by (λ j m less at. home_root nodes tree bound j m less at) n.birth refl where
  mine : n.domain ≡ k → HasDomain nodes n.domain
  mine e = subst (λ o. IsSomeAnd o (λ (x : NodeFacts). x.domain ≡ n.domain)) (sym (ap (slice_get nodes) e ∙ here)) refl

  by : ((j : ℕ) (m : NodeFacts) → j < bound → slice_get nodes j ≡ Some m → HasDomain nodes m.domain) → (b : Option Birth) → n.birth ≡ b → HasDomain nodes n.domain
  by ih None e = let zero_is = root_alone nodes k n tree here e in mine ((root_birth nodes tree n (sym (ap (slice_get nodes) zero_is) ∙ here)).1 ∙ sym zero_is)
  by ih (Some b) e =
      let less = parent_of nodes tree k n b here e in
      let (p, at) = slice_get_some nodes b.parent (omega (arith, less, slice_get_within nodes k n here)) in
      elim (tree.placed k n p b here e at) [
        | inl kin ↦ subst (HasDomain nodes) (sym kin) (ih b.parent p (omega (arith, less, below)) at)
        | inr root ↦ mine root.0
      ]

-- hosts by their numbers
pub host_none : (nodes : List NodeFacts) (r : ℕ) (z : NodeFacts) → slice_get nodes r ≡ Some z → z.birth ≡ None → host_node nodes r ≡ None
host_none nodes r z here e = ap (λ o. option_and_then (λ (x : NodeFacts). option_and_then (λ (b : Birth). slice_get nodes b.parent) x.birth) o) here ∙ ap (λ o. option_and_then (λ (b : Birth). slice_get nodes b.parent) o) e

pub host_some : (nodes : List NodeFacts) (r : ℕ) (z h : NodeFacts) (b : Birth) → slice_get nodes r ≡ Some z → z.birth ≡ Some b → slice_get nodes b.parent ≡ Some h → host_node nodes r ≡ Some h
host_some nodes r z h b here e up =
    ap (λ o. option_and_then (λ (x : NodeFacts). option_and_then (λ (b : Birth). slice_get nodes b.parent) x.birth) o) here ∙ (ap (λ o. option_and_then (λ (b : Birth). slice_get nodes b.parent) o) e ∙ up)

-- where each node stays, with its birth and its domain, hosts are kept if selected nodes are
module _ (t u : TreeFacts) (tree : IsTree t.nodes)
    (stays : (k : ℕ) (x : NodeFacts) → slice_get t.nodes k ≡ Some x → (y : NodeFacts) × (slice_get u.nodes k ≡ Some y) × (y.birth ≡ x.birth) × (x.domain ≡ y.domain) × (is_selected t.domains x ≡ true → is_selected u.domains y ≡ true)) where
  hosts_kept : (r : ℕ) (z : NodeFacts) → slice_get t.nodes r ≡ Some z → HostKept t u (host_node t.nodes r) (host_node u.nodes r)
  hosts_kept r z here = by z.birth refl where
    by : (b : Option Birth) → z.birth ≡ b → HostKept t u (host_node t.nodes r) (host_node u.nodes r)
    by None e =
        let (y, now, birth, _, _) = stays r z here in
        rw (host_none t.nodes r z here e, host_none u.nodes r y now (birth ∙ e)) tt
    by (Some b) e =
        let (y, now, birth, _, _) = stays r z here in
        let less = parent_of t.nodes tree r z b here e in
        let (h, up) = slice_get_some t.nodes b.parent (omega (arith, less, slice_get_within t.nodes r z here)) in
        let (h', up', _, same, selected) = stays b.parent h up in
        let kept : HostKept t u (Some h) (Some h') = (home_root t.nodes tree (suc b.parent) b.parent h (omega arith) up, same, selected) in
        subst (λ o. HostKept t u o (host_node u.nodes r)) (sym (host_some t.nodes r z h b here e up)) (subst (λ o. HostKept t u (Some h) o) (sym (host_some u.nodes r y h' b now (birth ∙ e) up')) kept)

-- decisions of domains stay by actions
decision_push : (ds : List Domain) (e m : ℕ) → decision_of (ds ++ new_domain m ∷ []) e ≡ decision_of ds e
decision_push [] e m = by (m == e) refl where
  by : (b : Bool) → (m == e) ≡ b → (if m == e then Undecided else Undecided) ≡ Undecided
  by true t = rw t refl
  by false t = rw t refl
decision_push (d ∷ ds) e m = ap (λ x. if d.root == e then d.decision else x) (decision_push ds e m)

decision_closed : (ds : List Domain) (e x : ℕ) → decision_of (map (closed_early x) ds) e ≡ decision_of ds e
decision_closed [] e x = refl
decision_closed (d ∷ ds) e x = ap (λ y. if d.root == e then d.decision else y) (decision_closed ds e x)

decision_if : (b : Bool) (ds : List Domain) (e x : ℕ) → decision_of (if b then ds else map (closed_early x) ds) e ≡ decision_of ds e
decision_if true ds e x = refl
decision_if false ds e x = decision_closed ds e x

pub decision_acted : (t : TreeFacts) (n : NodeFacts) (e : ℕ) (call : ActionKind) → decision_of (domains_after t n call) e ≡ decision_of t.domains e
decision_acted t n e AttachToken = decision_push t.domains e (length t.nodes)
decision_acted t n e Close = decision_if (is_ready t n.domain) t.domains e n.domain
decision_acted t n e Duplicate = refl
decision_acted t n e CreateGroup = refl
decision_acted t n e Bind = refl
decision_acted t n e CreateChild = refl
decision_acted t n e AllChildrenPresent = refl
decision_acted t n e SetConstraints = refl
decision_acted t n e Release = refl

-- and those of other domains by a decision
decision_other : (ds : List Domain) (e d : ℕ) (x : Decision) → e ≢ d → decision_of (map (decided_domain d x) ds) e ≡ decision_of ds e
decision_other [] e d x other = refl
decision_other (c ∷ ds) e d x other = by (cases_eq c.root d) (decision_other ds e d x other) where
  by : ((c.root ≡ d) ⊎ (c.root ≢ d)) → decision_of (map (decided_domain d x) ds) e ≡ decision_of ds e → decision_of (map (decided_domain d x) (c ∷ ds)) e ≡ decision_of (c ∷ ds) e
  by (inl same) ih =
      let s : (c.root == d) ≡ true = search (rules, tests, same) in
      let o : (c.root == e) ≡ false = search (rules, tests, (λ (is : c.root ≡ e). other (sym is ∙ same))) in rw (s, o) ih
  by (inr away) ih = let s : (c.root == d) ≡ false = search (rules, tests, away) in rw s (ap (λ y. if c.root == e then c.decision else y) ih)

-- an action keeps domains ready
module _ (t : TreeFacts) (i : ℕ) (n : NodeFacts) (deed : Deed) (here : slice_get t.nodes i ≡ Some n) (allowed : allows (kind_of deed) n.state ≡ true) (tree : IsTree t.nodes) where
  call_stays : (k : ℕ) (x : NodeFacts) → slice_get t.nodes k ≡ Some x → (y : NodeFacts) × (slice_get (nodes_after t.nodes i n deed) k ≡ Some y) × (y.birth ≡ x.birth) × (x.domain ≡ y.domain)
      × (is_selected t.domains x ≡ true → is_selected (domains_after t n (kind_of deed)) y ≡ true)
  call_stays k x read = elim (cases_eq k i) [
    | inl same ↦
        let is : n ≡ x = same_Some n x (sym here ∙ (ap (slice_get t.nodes) (sym same) ∙ read)) in (
          node_after deed n,
          subst (λ j. slice_get (nodes_after t.nodes i n deed) j ≡ Some (node_after deed n)) (sym same) (own_place t.nodes i n deed here),
          ap (λ (z : NodeFacts). z.birth) is,
          sym (ap (λ (z : NodeFacts). z.domain) is),
          λ picked. ap (λ d. is_chosen d && not n.is_left_out) (decision_acted t n n.domain (kind_of deed)) ∙ (ap (λ (z : NodeFacts). is_selected t.domains z) is ∙ picked),
        )
    | inr other ↦ (
      x,
      other_place t.nodes i n deed here k x other read,
      refl,
      refl,
      λ picked. ap (λ d. is_chosen d && not x.is_left_out) (decision_acted t n x.domain (kind_of deed)) ∙ picked,
    )
  ]

  call_keeps : Keeps t (tree_after t i n deed)
  call_keeps = record {
    complete = λ r within done. complete_stays t.nodes i r n deed here allowed done within;
    unclosed = λ r ready c. closed_acted t n r (kind_of deed) c (λ _. ready);
    host = hosts_kept t (tree_after t i n deed) tree call_stays;
  }

  call_has : (r : ℕ) → HasDomain t.nodes r → HasDomain (nodes_after t.nodes i n deed) r
  call_has r has =
      let (z, at, home) = there (λ (z : NodeFacts). z.domain ≡ r) (slice_get t.nodes r) has in
      let (y, now, _, domain, _) = call_stays r z at in
      put (λ (z : NodeFacts). z.domain ≡ r) (slice_get (nodes_after t.nodes i n deed) r) y now (sym domain ∙ home)

-- so does a decision of a domain that is undecided
left_kept : (members : List ℕ) (d i : ℕ) (nodes : List NodeFacts) (k : ℕ) (x y : NodeFacts) → slice_get nodes k ≡ Some x → slice_get (left_out_but members d i nodes) k ≡ Some y → x.domain ≢ d
    → y.is_left_out ≡ x.is_left_out
left_kept members d i [] k x y a b other = absurd (cc)
left_kept members d i (n ∷ nodes) zero x y a b other =
    let is : n ≡ x = same_Some n x a in
    let away : n.domain ≢ d = λ e. other (sym (ap (λ (z : NodeFacts). z.domain) is) ∙ e) in
    let t : (n.domain == d) ≡ false = search (rules, tests, away) in
    sym (ap (λ (z : NodeFacts). z.is_left_out) (same_Some _ y b)) ∙ (ap (λ c. n.is_left_out || (c && not (list_any (λ m. m == i) members))) t ∙ (or_nothing n.is_left_out ∙ ap (λ (z : NodeFacts). z.is_left_out) is)) where
      or_nothing : (b : Bool) → (b || false) ≡ b
      or_nothing true = refl
      or_nothing false = refl
left_kept members d i (n ∷ nodes) (suc k) x y a b other = left_kept members d (i + 1) nodes k x y a b other

pub kept_by : (t : TreeFacts) (d : ℕ) (choices : Option (List ℕ)) (k : ℕ) (x y : NodeFacts) → slice_get t.nodes k ≡ Some x → slice_get (decided t d choices).nodes k ≡ Some y → x.domain ≢ d
    → y.is_left_out ≡ x.is_left_out
kept_by t d None k x y a b other = ap (λ (z : NodeFacts). z.is_left_out) (same_Some y x (sym b ∙ a))
kept_by t d (Some cs) k x y a b other = left_kept (members_of t.nodes d cs) d 0 t.nodes k x y a b other

pub decision_by : (t : TreeFacts) (d e : ℕ) (choices : Option (List ℕ)) → e ≢ d → decision_of (decided t d choices).domains e ≡ decision_of t.domains e
decision_by t d e None other = decision_other t.domains e d NoneChosen other
decision_by t d e (Some cs) other = decision_other t.domains e d Chosen other

pub chosen_not_undecided : (d : Decision) → is_chosen d ≡ true → is_undecided d ≡ true → ⊥
chosen_not_undecided Chosen a b = cc
chosen_not_undecided NoneChosen a b = cc
chosen_not_undecided Undecided a b = cc

module _ (t : TreeFacts) (d : ℕ) (choices : Option (List ℕ)) (open' : is_undecided (decision_of t.domains d) ≡ true) (tree : IsTree t.nodes) where
  decided_stays : (k : ℕ) (x : NodeFacts) → slice_get t.nodes k ≡ Some x → (y : NodeFacts) × (slice_get (decided t d choices).nodes k ≡ Some y) × (y.birth ≡ x.birth) × (x.domain ≡ y.domain)
      × (is_selected t.domains x ≡ true → is_selected (decided t d choices).domains y ≡ true)
  decided_stays k x read =
      let (y, now, same) = (decided_alike t d choices).forth k x read in (
        y,
        now,
        sym same.0,
        same.1,
        λ selected.
            let (picked, _) = and_parts (is_chosen (decision_of t.domains x.domain)) _ selected in
            let away : x.domain ≢ d = λ is. chosen_not_undecided (decision_of t.domains d) (ap (λ e. is_chosen (decision_of t.domains e)) (sym is) ∙ picked) open' in
            ap (λ e. is_chosen (decision_of (decided t d choices).domains e) && not y.is_left_out) (sym same.1)
            ∙ (ap (λ c. is_chosen c && not y.is_left_out) (decision_by t d x.domain choices away) ∙ (ap (λ b. is_chosen (decision_of t.domains x.domain) && not b) (kept_by t d choices k x y read now away) ∙ selected)),
      )

  decided_keeps : Keeps t (decided t d choices)
  decided_keeps = record {
    complete = λ r within done. (decided_alike t d choices).complete r ∙ done;
    unclosed = λ r ready c. decided_marks t d r choices ∙ c;
    host = hosts_kept t (decided t d choices) tree decided_stays;
  }

  decided_has : (r : ℕ) → HasDomain t.nodes r → HasDomain (decided t d choices).nodes r
  decided_has r has =
      let (z, at, home) = there (λ (z : NodeFacts). z.domain ≡ r) (slice_get t.nodes r) has in
      let (y, now, _, domain, _) = decided_stays r z at in
      put (λ (z : NodeFacts). z.domain ≡ r) (slice_get (decided t d choices).nodes r) y now (sym domain ∙ home)

pub acted_ready : (t : TreeFacts) (i r : ℕ) (deed : Deed) (after : Applied) → IsTree t.nodes → DecidedAreReady t → applied t i deed ≡ Ok after → HasDomain t.nodes r → is_ready t r ≡ true → is_ready after.tree r ≡ true
acted_ready t i r deed after tree fine is has ready =
    let (n, ok) = accepted t i deed after is in
    let (z, at, _) = there (λ (z : NodeFacts). z.domain ≡ r) (slice_get t.nodes r) has in
    subst (λ (u : TreeFacts). is_ready u r ≡ true) ok.tree (stays_ready t (tree_after t i n deed) fine (call_keeps t i n deed ok.there ok.allowed tree) r z at ready)

pub decided_ready : (t : TreeFacts) (d r : ℕ) (choices : Option (List ℕ)) → IsTree t.nodes → DecidedAreReady t → is_undecided (decision_of t.domains d) ≡ true → HasDomain t.nodes r → is_ready t r ≡ true
    → is_ready (decided t d choices) r ≡ true
decided_ready t d r choices tree fine open' has ready =
    let (z, at, _) = there (λ (z : NodeFacts). z.domain ≡ r) (slice_get t.nodes r) has in
    stays_ready t (decided t d choices) fine (decided_keeps t d choices open' tree) r z at ready

-- what is decided stays ready by an accepted action
pub acted_decided : (t : TreeFacts) (i : ℕ) (deed : Deed) (after : Applied) → IsTree t.nodes → DecidedAreReady t → applied t i deed ≡ Ok after → DecidedAreReady after.tree
acted_decided t i deed after tree fine is r e =
    let (n, ok) = accepted t i deed after is in
    let was = fine r (ap is_undecided (sym (decision_acted t n r (kind_of deed)) ∙ ap (λ (u : TreeFacts). decision_of u.domains r) ok.tree) ∙ e) in
    record {
      there = subst (λ (u : TreeFacts). HasDomain u.nodes r) ok.tree (call_has t i n deed ok.there ok.allowed tree r was.there);
      ready = acted_ready t i r deed after tree fine is was.there was.ready;
    }

-- by a decision of a domain that is ready
pub decided_decided : (t : TreeFacts) (d : ℕ) (choices : Option (List ℕ)) → IsTree t.nodes → DecidedAreReady t → HasDomain t.nodes d → is_ready t d ≡ true
    → is_undecided (decision_of t.domains d) ≡ true → DecidedAreReady (decided t d choices)
decided_decided t d choices tree fine has ready open' r e = elim (cases_eq r d) [
  | inl same ↦ subst (IsDecidedReady (decided t d choices)) (sym same) (record { there = decided_has t d choices open' tree d has; ready = decided_ready t d d choices tree fine open' has ready })
  | inr other ↦
      (let was = fine r (ap is_undecided (sym (decision_by t d r choices other)) ∙ e) in
      record { there = decided_has t d choices open' tree r was.there; ready = decided_ready t d r choices tree fine open' was.there was.ready })
]

-- nothing is decided in the first tree
pub first_decided : DecidedAreReady first_tree
first_decided r e = absurd (by (0 == r) refl e) where
  by : (b : Bool) → (0 == r) ≡ b → is_undecided (if 0 == r then Undecided else Undecided) ≡ false → ⊥
  by true t e = let x : true ≡ false = rw t at e in cc
  by false t e = let x : true ≡ false = rw t at e in cc

-- and keeps its forest
module _ (xs ys : List NodeFacts) (r : ℕ) (paths : path_of ys r ≡ path_of xs r) (stays : (path : List ℕ) → rooted by_both ys r path (slice_get ys r) ≡ rooted by_both xs r path (slice_get xs r)) where
  both_same : forest_of by_both ys r (path_of ys r) ≡ forest_of by_both xs r (path_of xs r)
  both_same = ap (λ p. rooted by_both ys r p (slice_get ys r)) paths ∙ stays (path_of xs r)

  numbers_same : forest_of by_number ys r [] ≡ forest_of by_number xs r []
  numbers_same = sym (one_forest ys r).numbers ∙ (ap (relabel (λ l. l.0)) both_same ∙ (one_forest xs r).numbers)

  pub same_domain : IsSameDomain xs ys r
  same_domain = record {
    forest = both_same;
    shape = sym (one_forest ys r).members ∙ (ap (relabel (λ l. l.1)) both_same ∙ (one_forest xs r).members);
    members = λ cs. ap (λ d. unwrap_or (settled_by d cs) []) numbers_same;
  }

itself : (nodes : List NodeFacts) (r : ℕ) → IsSameDomain nodes nodes r
itself nodes r = record { forest = refl; shape = refl; members = λ cs. refl }

pub decided_forest : (t : TreeFacts) (d r : ℕ) (choices : Option (List ℕ)) → IsTree t.nodes → HasDomain t.nodes r → IsSameDomain t.nodes (decided t d choices).nodes r
decided_forest t d r None tree has = itself t.nodes r
decided_forest t d r (Some cs) tree has =
    let (z, at, _) = there (λ (z : NodeFacts). z.domain ≡ r) (slice_get t.nodes r) has in
    let alike = decided_alike t d (Some cs) in
    let still = alike_tree t.nodes (decided t d (Some cs)).nodes alike tree in
    let leads = path_leads t.nodes tree r (slice_get_within t.nodes r z at) in
    let leads' = alike_node t.nodes (decided t d (Some cs)).nodes alike tree (path_of t.nodes r) ∙ leads in
    same_domain t.nodes (decided t d (Some cs)).nodes r (path_is (decided t d (Some cs)).nodes still (path_of t.nodes r) r leads')
    (λ path. forest_left by_both r (λ j q n out. refl) (members_of t.nodes d cs) d t.nodes path z at)

acted_forest : (t : TreeFacts) (i r : ℕ) (n : NodeFacts) (deed : Deed) → slice_get t.nodes i ≡ Some n → allows (kind_of deed) n.state ≡ true → has_room t.nodes (kind_of deed) ≡ true
    → IsTree t.nodes → HasDomain t.nodes r → is_ready t r ≡ true → IsSameDomain t.nodes (nodes_after t.nodes i n deed) r
acted_forest t i r n deed here allowed room tree has ready =
    let (z, at, home) = there (λ (z : NodeFacts). z.domain ≡ r) (slice_get t.nodes r) has in
    let within = slice_get_within t.nodes r z at in
    let complete = (and_parts (is_complete t.nodes r) _ ready).0 in
    let still_one = still_tree t.nodes i n deed here tree allowed room in
    let leads = path_stays t.nodes (nodes_after t.nodes i n deed) still_one (births_kept t.nodes i n deed here) (path_of t.nodes r) 0 r (path_leads t.nodes tree r within) in
    same_domain t.nodes (nodes_after t.nodes i n deed) r (path_is (nodes_after t.nodes i n deed) still_one (path_of t.nodes r) r leads)
    (λ path. both_kept t.nodes i r n deed here allowed complete within path z at home)

pub acted_same : (t : TreeFacts) (i r : ℕ) (deed : Deed) (after : Applied) → IsTree t.nodes → applied t i deed ≡ Ok after → HasDomain t.nodes r → is_ready t r ≡ true → IsSameDomain t.nodes after.tree.nodes r
acted_same t i r deed after tree is has ready =
    let (n, ok) = accepted t i deed after is in
    subst (λ (u : TreeFacts). IsSameDomain t.nodes u.nodes r) ok.tree (acted_forest t i r n deed ok.there ok.allowed ok.room tree has ready)
