-- Once failed a domain stays so.
use Rattle.std.proofs.Common.{◌≡◌, ◌≢◌, ℕ, zero, suc, ◌==◌, ◌&&◌, ◌||◌, Bool, true, false, List, [], ◌∷◌, ◌++◌, length, Option, Some, None, Ok, slice_get, refl, sym, ◌∙◌, ap, subst, arith, inl, inr}
use Rattle.std.specs.Prelude.{IsOk, Result, Err, option_map, unwrap_or, map, if◌then◌else◌}
use Rattle.std.specs.List.{list_any}
use Rattle.std.proofs.lemmas.Bool.{cases_eq}
use Rattle.std.proofs.lemmas.Option.{slice_get_within, same_Some}
use Rattle.list_lemmas.proofs.CallerLemmas.{slice_get_some}
use Rattle.sysmem_tree.specs.declared.action.ActionKind.{ActionKind}
use Rattle.sysmem_tree.specs.declared.action.ActionKind.TheVariants.{Duplicate, CreateGroup, Bind, CreateChild, AllChildrenPresent, SetConstraints, AttachToken, Release, Close}
use Rattle.sysmem_tree.specs.declared.domain.Decision.{Decision}
use Rattle.sysmem_tree.specs.declared.domain.Decision.TheVariants.{Undecided, Chosen, NoneChosen}
use Rattle.sysmem_tree.specs.declared.domain.Domain.{Domain}
use Rattle.sysmem_tree.specs.declared.node.Birth.{Birth}
use Rattle.sysmem_tree.specs.declared.refusal.Refusal.{Refusal}
use Rattle.sysmem_tree.specs.ActionKind.{Deed, kind_of}
use Rattle.sysmem_tree.specs.Domain.{TreeFacts, HasDomain, decision_of, fails, has_failed, host_node, is_chosen, is_host_lost, is_lost, is_none_chosen, is_ready, is_undecided, up_from, was_closed_early}
use Rattle.sysmem_tree.specs.History.{Acted, Decided, after_answer}
use Rattle.sysmem_tree.specs.Laws.{FailedStays}
use Rattle.sysmem_tree.specs.Node.{NodeFacts}
use Rattle.sysmem_tree.specs.Nodes.{IsTree}
use Rattle.sysmem_tree.specs.Tree.{Applied, applied, new_domain, node_after, nodes_after, closed_early, domains_after, tree_after, decided}
use Rattle.sysmem_tree.proofs.steps.Accepted.{accepted}
use Rattle.sysmem_tree.proofs.histories.Agreeing.{decided_marks}
use Rattle.sysmem_tree.proofs.nodes.Alike.{decided_alike}
use Rattle.sysmem_tree.proofs.steps.Growing.{own_place, other_place}
use Rattle.sysmem_tree.proofs.nodes.Kids.{parent_of}
use Rattle.sysmem_tree.proofs.nodes.Places.{there}
use Rattle.sysmem_tree.proofs.domains.Readiness.{decision_acted, decision_by, home_root, host_none, host_some, kept_by}

-- hosts that are lost if they were
abbrev LostKept : TreeFacts → TreeFacts → Option NodeFacts → Option NodeFacts → Type 0
LostKept t u None None = Unit {0}
LostKept t u None (Some h) = ⊥
LostKept t u (Some h) None = ⊥
LostKept t u (Some h) (Some h') = (HasDomain t.nodes h.domain) × (h.domain ≡ h'.domain) × (is_lost t.domains h ≡ true → is_lost u.domains h' ≡ true)

either : (a b c d : Bool) → (a ≡ true → c ≡ true) → (b ≡ true → d ≡ true) → (a || b) ≡ true → (c || d) ≡ true
either true b c d f g e = ap (λ x. x || d) (f refl)
either false true c d f g e = by c (g refl) where
  by : (c : Bool) → d ≡ true → (c || d) ≡ true
  by true h = refl
  by false h = h
either false false c d f g e = absurd (cc)

-- where each node stays, with its birth and its domain, and is lost if it was
module _ (t u : TreeFacts) (tree : IsTree t.nodes) (closed : (r : ℕ) → was_closed_early t.domains r ≡ true → was_closed_early u.domains r ≡ true)
    (stays : (k : ℕ) (x : NodeFacts) → slice_get t.nodes k ≡ Some x → (y : NodeFacts) × (slice_get u.nodes k ≡ Some y) × (y.birth ≡ x.birth) × (x.domain ≡ y.domain) × (is_lost t.domains x ≡ true → is_lost u.domains y ≡ true)) where
  hosts_lost : (r : ℕ) (z : NodeFacts) → slice_get t.nodes r ≡ Some z → LostKept t u (host_node t.nodes r) (host_node u.nodes r)
  hosts_lost r z here = by z.birth refl where
    by : (b : Option Birth) → z.birth ≡ b → LostKept t u (host_node t.nodes r) (host_node u.nodes r)
    by None e =
        let (y, now, birth, _, _) = stays r z here in
        rw (host_none t.nodes r z here e, host_none u.nodes r y now (birth ∙ e)) tt
    by (Some b) e =
        let (y, now, birth, _, _) = stays r z here in
        let less = parent_of t.nodes tree r z b here e in
        let (h, up) = slice_get_some t.nodes b.parent (omega (arith, less, slice_get_within t.nodes r z here)) in
        let (h', up', _, same, lost) = stays b.parent h up in
        let kept : LostKept t u (Some h) (Some h') = (home_root t.nodes tree (suc b.parent) b.parent h (omega arith) up, same, lost) in
        subst (λ o. LostKept t u o (host_node u.nodes r)) (sym (host_some t.nodes r z h b here e up)) (subst (λ o. LostKept t u (Some h) o) (sym (host_some u.nodes r y h' b now (birth ∙ e) up')) kept)

  host_lost : (a b : Option NodeFacts) → LostKept t u a b → is_host_lost t.domains a ≡ true → is_host_lost u.domains b ≡ true
  host_lost None None k e = absurd (cc)
  host_lost None (Some h') k e = absurd k
  host_lost (Some h) None k e = absurd k
  host_lost (Some h) (Some h') k e = k.2 e

  -- what failed by itself, or by one above it, still does
  chain : (many r : ℕ) (z : NodeFacts) → slice_get t.nodes r ≡ Some z → list_any (fails t) (up_from many t.nodes r) ≡ true → list_any (fails u) (up_from many u.nodes r) ≡ true
  chain zero r z here e = absurd (cc)
  chain (suc many) r z here e =
      let kept = hosts_lost r z here in
      either (fails t r) (list_any (fails t) (unwrap_or (option_map (λ (host : NodeFacts). up_from many t.nodes host.domain) (host_node t.nodes r)) []))
      (fails u r) (list_any (fails u) (unwrap_or (option_map (λ (host : NodeFacts). up_from many u.nodes host.domain) (host_node u.nodes r)) []))
      (either (was_closed_early t.domains r) (is_host_lost t.domains (host_node t.nodes r)) (was_closed_early u.domains r) (is_host_lost u.domains (host_node u.nodes r))
      (closed r) (host_lost (host_node t.nodes r) (host_node u.nodes r) kept))
      (up (host_node t.nodes r) (host_node u.nodes r) kept (λ d y at. chain many d y at)) e where
        up : (a b : Option NodeFacts) → LostKept t u a b
            → ((d : ℕ) (y : NodeFacts) → slice_get t.nodes d ≡ Some y → list_any (fails t) (up_from many t.nodes d) ≡ true → list_any (fails u) (up_from many u.nodes d) ≡ true)
            → list_any (fails t) (unwrap_or (option_map (λ (host : NodeFacts). up_from many t.nodes host.domain) a) []) ≡ true
            → list_any (fails u) (unwrap_or (option_map (λ (host : NodeFacts). up_from many u.nodes host.domain) b) []) ≡ true
        up None None k ih e = absurd (cc)
        up None (Some h') k ih e = absurd k
        up (Some h) None k ih e = absurd k
        up (Some h) (Some h') k ih e =
            let (y, at, _) = there (λ (y : NodeFacts). y.domain ≡ h.domain) (slice_get t.nodes h.domain) k.0 in
            ap (λ d. list_any (fails u) (up_from many u.nodes d)) (sym k.1) ∙ ih h.domain y at e

  still_failed : (r : ℕ) → HasDomain t.nodes r → has_failed t r ≡ true → has_failed u r ≡ true
  still_failed r has failed =
      let (z, at, _) = there (λ (z : NodeFacts). z.domain ≡ r) (slice_get t.nodes r) has in
      chain 128 r z at failed

-- marks of early closes stay
mark_push : (ds : List Domain) (m r : ℕ) → was_closed_early ds r ≡ true → was_closed_early (ds ++ new_domain m ∷ []) r ≡ true
mark_push [] m r e = absurd (cc)
mark_push (d ∷ ds) m r e = either ((d.root == r) && d.is_closed_early) (was_closed_early ds r) ((d.root == r) && d.is_closed_early) (was_closed_early (ds ++ new_domain m ∷ []) r) (λ h. h) (mark_push ds m r) e

mark_closed : (x : ℕ) (ds : List Domain) (r : ℕ) → was_closed_early ds r ≡ true → was_closed_early (map (closed_early x) ds) r ≡ true
mark_closed x [] r e = absurd (cc)
mark_closed x (d ∷ ds) r e = either ((d.root == r) && d.is_closed_early) (was_closed_early ds r) ((d.root == r) && (d.is_closed_early || (d.root == x))) (was_closed_early (map (closed_early x) ds) r)
    (more (d.root == r) d.is_closed_early) (mark_closed x ds r) e where
      more : (a b : Bool) → (a && b) ≡ true → (a && (b || (d.root == x))) ≡ true
      more true true e = refl
      more true false e = absurd (cc)
      more false b e = absurd (cc)

mark_if : (b : Bool) (x : ℕ) (ds : List Domain) (r : ℕ) → was_closed_early ds r ≡ true → was_closed_early (if b then ds else map (closed_early x) ds) r ≡ true
mark_if true x ds r e = e
mark_if false x ds r e = mark_closed x ds r e

mark_acted : (t : TreeFacts) (n : NodeFacts) (r : ℕ) (call : ActionKind) → was_closed_early t.domains r ≡ true → was_closed_early (domains_after t n call) r ≡ true
mark_acted t n r AttachToken e = mark_push t.domains (length t.nodes) r e
mark_acted t n r Close e = mark_if (is_ready t n.domain) n.domain t.domains r e
mark_acted t n r Duplicate e = e
mark_acted t n r CreateGroup e = e
mark_acted t n r Bind e = e
mark_acted t n r CreateChild e = e
mark_acted t n r AllChildrenPresent e = e
mark_acted t n r SetConstraints e = e
mark_acted t n r Release e = e

-- an action keeps what is lost
lost_where : Decision → Bool → Bool
lost_where d out = is_none_chosen d || (is_chosen d && out)

module _ (t : TreeFacts) (i : ℕ) (n : NodeFacts) (deed : Deed) (here : slice_get t.nodes i ≡ Some n) where
  acted_lost : (k : ℕ) (x : NodeFacts) → slice_get t.nodes k ≡ Some x → (y : NodeFacts) × (slice_get (nodes_after t.nodes i n deed) k ≡ Some y) × (y.birth ≡ x.birth) × (x.domain ≡ y.domain)
      × (is_lost t.domains x ≡ true → is_lost (domains_after t n (kind_of deed)) y ≡ true)
  acted_lost k x read = elim (cases_eq k i) [
    | inl same ↦
        let is : n ≡ x = same_Some n x (sym here ∙ (ap (slice_get t.nodes) (sym same) ∙ read)) in (
          node_after deed n,
          subst (λ j. slice_get (nodes_after t.nodes i n deed) j ≡ Some (node_after deed n)) (sym same) (own_place t.nodes i n deed here),
          ap (λ (z : NodeFacts). z.birth) is,
          sym (ap (λ (z : NodeFacts). z.domain) is),
          λ lost. ap (λ d. is_none_chosen d || (is_chosen d && n.is_left_out)) (decision_acted t n n.domain (kind_of deed)) ∙ (ap (λ (z : NodeFacts). is_lost t.domains z) is ∙ lost),
        )
    | inr other ↦ (
      x,
      other_place t.nodes i n deed here k x other read,
      refl,
      refl,
      λ lost. ap (λ d. is_none_chosen d || (is_chosen d && x.is_left_out)) (decision_acted t n x.domain (kind_of deed)) ∙ lost,
    )
  ]

-- and so does a decision of a domain that is undecided
undecided_kept : (d : Decision) (out : Bool) → is_undecided d ≡ true → (is_none_chosen d || (is_chosen d && out)) ≡ true → ⊥
undecided_kept Undecided out a b = absurd (cc)
undecided_kept Chosen out a b = absurd (cc)
undecided_kept NoneChosen out a b = absurd (cc)

module _ (t : TreeFacts) (d : ℕ) (choices : Option (List ℕ)) (open' : is_undecided (decision_of t.domains d) ≡ true) where
  decided_lost : (k : ℕ) (x : NodeFacts) → slice_get t.nodes k ≡ Some x → (y : NodeFacts) × (slice_get (decided t d choices).nodes k ≡ Some y) × (y.birth ≡ x.birth) × (x.domain ≡ y.domain)
      × (is_lost t.domains x ≡ true → is_lost (decided t d choices).domains y ≡ true)
  decided_lost k x read =
      let (y, now, same) = (decided_alike t d choices).forth k x read in (
        y,
        now,
        sym same.0,
        same.1,
        λ lost.
            let away : x.domain ≢ d = λ is. undecided_kept (decision_of t.domains x.domain) x.is_left_out (ap (λ e. is_undecided (decision_of t.domains e)) is ∙ open') lost in
            ap (λ e. is_none_chosen (decision_of (decided t d choices).domains e) || (is_chosen (decision_of (decided t d choices).domains e) && y.is_left_out)) (sym same.1)
            ∙ (ap (λ c. is_none_chosen c || (is_chosen c && y.is_left_out)) (decision_by t d x.domain choices away)
            ∙ (ap (λ b. is_none_chosen (decision_of t.domains x.domain) || (is_chosen (decision_of t.domains x.domain) && b)) (kept_by t d choices k x y read now away) ∙ lost)),
      )

pub failed_stays : FailedStays
failed_stays t (Acted i deed) r sound ok has failed = by (applied t i deed) refl ok where
  by : (o : Result Applied Refusal) → applied t i deed ≡ o → IsOk o → has_failed (after_answer t o) r ≡ true
  by (Err refusal) is h = absurd (cc)
  by (Ok made) is h =
      let (n, fine) = accepted t i deed made is in
      subst (λ (u : TreeFacts). has_failed u r ≡ true) fine.tree
      (still_failed t (tree_after t i n deed) sound.tree (λ k e. mark_acted t n k (kind_of deed) e) (acted_lost t i n deed fine.there) r has failed)
failed_stays t (Decided d choices) r sound ok has failed =
    still_failed t (decided t d choices) sound.tree (λ k e. decided_marks t d k choices ∙ e) (decided_lost t d choices ok.undecided) r has failed
