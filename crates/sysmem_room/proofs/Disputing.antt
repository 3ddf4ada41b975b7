-- What a book can refuse an action on a handle's own node for, where the handle knows its domain's verdict and foresaw no refusal.
use Rattle.std.proofs.Common.{◌≡◌, ◌⊎◌, inl, inr, ℕ, Bool, true, false, not, ◌&&◌, ◌||◌, ◌+◌, List, Option, Some, None, Result, Ok, Err, length, slice_get, refl, sym, ◌∙◌, ap, subst}
use Rattle.std.specs.Prelude.{IfSome, is_some, nat_le, option_and_then, option_map, unwrap_or, if◌then◌else◌}
use Rattle.std.proofs.lemmas.Option.{same_Some}
use Rattle.verdict_claims.specs.declared.verdict.Verdict.{Verdict}
use Rattle.verdict_claims.specs.declared.verdict.Verdict.TheVariants as verdicts
use Rattle.verdict_claims.specs.Chosen.{ChosenFacts}
use Rattle.negotiation_inputs.specs.Platform.{PlatformFacts}
use Rattle.sysmem_tree.specs.declared.action.ActionKind.{ActionKind}
use Rattle.sysmem_tree.specs.declared.domain.Decision.{Decision as Standing}
use Rattle.sysmem_tree.specs.declared.domain.Decision.TheVariants as standings
use Rattle.sysmem_tree.specs.declared.refusal.Refusal.{Refusal}
use Rattle.sysmem_tree.specs.declared.refusal.Refusal.TheVariants.{DomainFailed, NotSelected, WrongState, NoChildren, TooManyNodes, Strange}
use Rattle.sysmem_tree.specs.declared.state.NodeState.{NodeState}
use Rattle.sysmem_tree.specs.ActionKind.{Deed, ends_node, kind_of}
use Rattle.sysmem_tree.specs.Domain.{decision_of, has_failed, is_none_chosen}
use Rattle.sysmem_tree.specs.Node.{NodeFacts}
use Rattle.sysmem_tree.specs.Nodes.{HasNode}
use Rattle.sysmem_tree.specs.Path.{node_at}
use Rattle.sysmem_tree.specs.Table.{allows, makes, wants_child}
use Rattle.sysmem_tree.specs.Tree.{applied, applied_at, is_barred, has_room}
use Rattle.sysmem_alloc.specs.Book.{BookFacts, IsBook}
use Rattle.sysmem_alloc.specs.Decision.{DomainVerdict, choices_of, decision_for}
use Rattle.sysmem_alloc.specs.Frozen.{FrozenFacts}
use Rattle.sysmem_alloc.specs.Laws.{LegalAgrees}
use Rattle.sysmem_alloc.specs.Sound.{AgreesWithTree, standing_of}
use Rattle.sysmem_alloc.specs.State.{State, verdict_of}
use Rattle.sysmem_room.specs.declared.outcome.Outcome.{Outcome}
use Rattle.sysmem_room.specs.declared.outcome.Outcome.TheVariants as outcomes
use Rattle.sysmem_room.specs.Agreeing.{IsKnown, verdict_by}
use Rattle.node_limits.specs.TreeRefusals.{first_of, state_refusal}
use Rattle.sysmem_room.specs.Refusals.{IsDisputed, IsUnforeseen, due, is_member, known_refusal, outcome_refusal, refusal_by}
use Rattle.sysmem_room.proofs.Foreseeing.{log_allows, makes_one, refused_unforeseen}
use Rattle.node_limits.proofs.CallerLemmas.{not_past}

-- what was entered for a domain whose verdict chose settings
chose : (v : Option Verdict) (chosen : ChosenFacts) → Some (unwrap_or v verdicts.NoMemory) ≡ Some (verdicts.Chosen chosen)
    → ◌≡◌ {A = Standing} (if is_some (choices_of v) then standings.Chosen else standings.NoneChosen) standings.Chosen
chose None chosen is = absurd (cc)
chose (Some v) chosen is = ap (λ w. if is_some (choices_of (Some w)) then standings.Chosen else standings.NoneChosen) (same_Some v (verdicts.Chosen chosen) is)

-- actions in such a domain aren't refused for its failure
unbarred : (platform : PlatformFacts) (s : State) (r : ℕ) (chosen : ChosenFacts) → AgreesWithTree platform s → verdict_of s r ≡ Some (verdicts.Chosen chosen) → is_barred s.tree r ≡ false
unbarred platform s r chosen agrees is = by (has_failed s.tree r) (decision_for s.decisions r) (decision_of s.tree.domains r) (agrees.standing r) is where
  by : (f : Bool) (d : Option DomainVerdict) (st : Standing) → st ≡ standing_of d
      → ◌≡◌ {A = Option Verdict} (if f then Some verdicts.Failed else option_map (λ (x : DomainVerdict). unwrap_or x.verdict verdicts.NoMemory) d) (Some (verdicts.Chosen chosen))
      → (f || is_none_chosen st) ≡ false
  by true d st stands is = absurd (cc)
  by false None st stands is = absurd (cc)
  by false (Some d) st stands is = ap is_none_chosen (stands ∙ chose d.verdict chosen is)

-- nor in one whose verdict, as it is known, refuses none
unrefused : (platform : PlatformFacts) (s : State) (r : ℕ) (o : Outcome) (path : List ℕ) → AgreesWithTree platform s → outcome_refusal o path ≡ None → verdict_of s r ≡ Some (verdict_by o)
    → is_barred s.tree r ≡ false
unrefused platform s r (outcomes.Decided ruling) path agrees none is = by ruling.claim.verdict none is where
  by : (v : Verdict) → refusal_by ruling.frozen path v ≡ None → verdict_of s r ≡ Some v → is_barred s.tree r ≡ false
  by (verdicts.Chosen chosen) none is = unbarred platform s r chosen agrees is
  by verdicts.IntersectionEmpty none is = absurd (cc)
  by verdicts.TooMany none is = absurd (cc)
  by verdicts.Failed none is = absurd (cc)
  by verdicts.NoMemory none is = absurd (cc)
unrefused platform s r outcomes.Failed path agrees none is = absurd (cc)
unrefused platform s r outcomes.NoMemory path agrees none is = absurd (cc)

both_none : (a b : Option Refusal) → first_of a b ≡ None → (a ≡ None) × (b ≡ None)
both_none None b is = (refl, is)
both_none (Some q) b is = absurd (cc)

-- where nothing is due, nothing is by the log
pub none_logged : (known : Option Outcome) (path : List ℕ) (s : NodeState) (kind : ActionKind) → due known path s kind ≡ None → state_refusal s kind ≡ None
none_logged known path s kind none = (both_none (known_refusal known path kind) (state_refusal s kind) none).1

-- which of its refusals a tree answers, where neither the domain's failure nor the node's state brings any
held_back : {A : Type 0} (kind : ActionKind) (o : Outcome) (barred out allowed wants full : Bool) (x : A) (r : Refusal) → barred ≡ false → allowed ≡ true → wants ≡ false
    → (full ≡ true → is_some (makes kind) ≡ true)
    → ◌≡◌ {A = Result A Refusal} (if barred then Err DomainFailed else if out then Err NotSelected else if not allowed then Err WrongState else if wants then Err NoChildren else if full then Err TooManyNodes else Ok x) (Err r)
    → (out ≡ true) ⊎ IsUnforeseen (Some o) kind r
held_back {A} _ o true out allowed wants full x r b a w f is = absurd (cc)
held_back {A} _ o false true allowed wants full x r b a w f is = inl refl
held_back {A} _ o false false false wants full x r b a w f is = absurd (cc)
held_back {A} _ o false false true true full x r b a w f is = absurd (cc)
held_back {A} kind o false false true false true x r b a w f is = let same : TooManyNodes ≡ r = cc in inr (subst (IsUnforeseen (Some o) kind) same (f refl))
held_back {A} _ o false false true false false x r b a w f is = absurd (cc)

left_out : (b e : Bool) → (b && not e) ≡ true → (b ≡ true) × (e ≡ false)
left_out true true is = absurd (cc)
left_out true false is = (refl, refl)
left_out false e is = absurd (cc)

-- a domain isn't barred to an action that what is known of it doesn't refuse
open_to : (barred ends : Bool) (refusal : Option Refusal) → ◌≡◌ {A = Option Refusal} (if ends then None else refusal) None → (refusal ≡ None → barred ≡ false) → (barred && not ends) ≡ false
open_to true true refusal none by = refl
open_to false ends refusal none by = refl
open_to true false refusal none by = by none

refused_at : (b : BookFacts) (i : ℕ) (deed : Deed) (r : Refusal) (s : NodeState) (o : Outcome) (path : List ℕ) (found : Option NodeFacts) → AgreesWithTree b.platform b.state
    → slice_get b.state.tree.nodes i ≡ found → HasNode b.state.tree.nodes i → IfSome found (λ n. n.state ≡ s)
    → option_and_then (λ n. verdict_of b.state n.domain) found ≡ Some (verdict_by o) → due (Some o) path s (kind_of deed) ≡ None → applied_at b.state.tree i deed found ≡ Err r
    → ((ends_node (kind_of deed) ≡ false) × IfSome found (λ n. n.is_left_out ≡ true)) ⊎ IsUnforeseen (Some o) (kind_of deed) r
refused_at b i deed r s o path None agrees here there same known none is = absurd (not_past b.state.tree.nodes i there here)
refused_at b i deed r s o path (Some n) agrees here there same known none is =
    let (unknown, unlogged) = both_none (if ends_node (kind_of deed) then None else outcome_refusal o path) (state_refusal s (kind_of deed)) none in
    let (allowed, content) = log_allows n.state (kind_of deed) (ap (λ x. state_refusal x (kind_of deed)) same ∙ unlogged) in
    let free = open_to (is_barred b.state.tree n.domain) (ends_node (kind_of deed)) (outcome_refusal o path) unknown
    (λ nothing. unrefused b.platform b.state n.domain o path agrees nothing known) in
    elim (held_back (kind_of deed) o (is_barred b.state.tree n.domain && not (ends_node (kind_of deed))) (n.is_left_out && not (ends_node (kind_of deed))) (allows (kind_of deed) n.state)
    (wants_child (kind_of deed) n.state) (not (has_room b.state.tree.nodes (kind_of deed))) _ r free allowed content
    (makes_one (is_some (makes (kind_of deed))) (nat_le (length b.state.tree.nodes + 1) 128)) is) [
      | inl out ↦
          let (is_out, stays) = left_out n.is_left_out (ends_node (kind_of deed)) out in
          inl (stays, is_out)
      | inr late ↦ inr late
    ]

-- a legal book agrees with its tree
pub agrees_of : LegalAgrees → (b : BookFacts) → IsBook b → AgreesWithTree b.platform b.state
agrees_of law b is = subst (λ (s : State). AgreesWithTree b.platform s) (sym is.replayed) (law b.platform b.history is.legal)

-- where the two are told to disagree by the book's refusal of what neither the log nor what is known refuses, a verdict is known by which the node is a
-- member, the book left it out, and the action doesn't end it
pub strange_disputes : (b : BookFacts) (path : List ℕ) (s : NodeState) (deed : Deed) (r answer : Refusal) (known : Option Outcome) (i j : ℕ) → AgreesWithTree b.platform b.state
    → HasNode b.state.tree.nodes i → IfSome (slice_get b.state.tree.nodes i) (λ n. n.state ≡ s) → IsKnown b i known → node_at b.state.tree.nodes path ≡ Some i → node_at b.state.tree.nodes path ≡ Some j
    → due known path s (kind_of deed) ≡ None → applied b.state.tree i deed ≡ Err r → (IsUnforeseen known (kind_of deed) r → answer ≡ r) → answer ≡ Strange → IsDisputed b path s known (kind_of deed) j
strange_disputes b path s deed r answer None i j agrees there same known at also none is answers strange =
    let late = refused_unforeseen b.state.tree i deed r s there same none is in
    absurd (subst (IsUnforeseen None (kind_of deed)) (sym (answers late) ∙ strange) late)
strange_disputes b path s deed r answer (Some o) i j agrees there same known at also none is answers strange =
    elim (refused_at b i deed r s o path (slice_get b.state.tree.nodes i) agrees refl there same known none is) [
      | inl (stays, is_out) ↦ subst (IsDisputed b path s (Some o) (kind_of deed)) (same_Some i j (sym at ∙ also)) (stays, none, is_out)
      | inr late ↦ absurd (subst (IsUnforeseen (Some o) (kind_of deed)) (sym (answers late) ∙ strange) late)
    ]

log_never : (s : NodeState) (kind : ActionKind) → state_refusal s kind ≡ Some Strange → ⊥
log_never s kind is = by (allows kind s) (wants_child kind s) is where
  by : (a w : Bool) → ◌≡◌ {A = Option Refusal} (if not a then Some WrongState else if w then Some NoChildren else None) (Some Strange) → ⊥
  by true false e = absurd (cc)
  by true true e = absurd (cc)
  by false w e = absurd (cc)

verdict_never : (f : FrozenFacts) (path : List ℕ) (v : Verdict) → refusal_by f path v ≡ Some Strange → ⊥
verdict_never f path (verdicts.Chosen chosen) is = by (is_member f chosen.selection path) is where
  by : (b : Bool) → ◌≡◌ {A = Option Refusal} (if b then None else Some NotSelected) (Some Strange) → ⊥
  by true e = absurd (cc)
  by false e = absurd (cc)
verdict_never f path verdicts.IntersectionEmpty is = absurd (cc)
verdict_never f path verdicts.TooMany is = absurd (cc)
verdict_never f path verdicts.Failed is = absurd (cc)
verdict_never f path verdicts.NoMemory is = absurd (cc)

outcome_never : (o : Outcome) (path : List ℕ) → outcome_refusal o path ≡ Some Strange → ⊥
outcome_never (outcomes.Decided ruling) path is = verdict_never ruling.frozen path ruling.claim.verdict is
outcome_never outcomes.Failed path is = absurd (cc)
outcome_never outcomes.NoMemory path is = absurd (cc)

first_never : (a b : Option Refusal) → (a ≡ Some Strange → ⊥) → (b ≡ Some Strange → ⊥) → first_of a b ≡ Some Strange → ⊥
first_never None b one two is = two is
first_never (Some q) b one two is = one is

-- nothing that is due is that the two disagree
pub never_due : (known : Option Outcome) (path : List ℕ) (s : NodeState) (kind : ActionKind) → due known path s kind ≡ Some Strange → ⊥
never_due None path s kind is = log_never s kind is
never_due (Some o) path s kind is = first_never (if ends_node kind then None else outcome_refusal o path) (state_refusal s kind) (by (ends_node kind)) (log_never s kind) is where
  by : (b : Bool) → ◌≡◌ {A = Option Refusal} (if b then None else outcome_refusal o path) (Some Strange) → ⊥
  by true e = absurd (cc)
  by false e = outcome_never o path e
