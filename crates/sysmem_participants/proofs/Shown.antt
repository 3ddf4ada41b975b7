-- What a stub knows of its domain's verdict is a decision of the book that an audit saw.
use Rattle.std.proofs.Common.{◌≡◌, ℕ, Option, Some, None, slice_get, get_or, sym, ◌∙◌, ap, subst, length, ◌<◌}
use Rattle.std.specs.Prelude.{IfSome, IsSomeAnd, option_and_then}
use Rattle.verdict_claims.specs.declared.verdict.Verdict.{Verdict}
use Rattle.sysmem_tree.specs.Node.{NodeFacts}
use Rattle.sysmem_tree.specs.Path.{node_at}
use Rattle.sysmem_alloc.specs.Book.{BookFacts, IsBook}
use Rattle.sysmem_alloc.specs.Decision.{IsDecision}
use Rattle.sysmem_alloc.specs.Headline.{HasNegotiated, VerdictsAreNegotiated}
use Rattle.sysmem_alloc.specs.State.{State, verdict_of}
use Rattle.sysmem_room.specs.declared.outcome.Outcome.{Outcome}
use Rattle.sysmem_room.specs.declared.outcome.Outcome.TheVariants as outcomes
use Rattle.sysmem_room.specs.Agreeing.{verdict_at, IsKnown}
use Rattle.sysmem_participants.specs.Audit.{IsOf}
use Rattle.sysmem_participants.specs.Held.{Left}
use Rattle.sysmem_participants.specs.Laws.{IsNegotiatedAt, KnownAreNegotiated}

-- a node's domain that has a verdict has it by a decision
negotiated_at : VerdictsAreNegotiated → (b : BookFacts) → IsBook b → (v : Verdict) → IsDecision v → (o : Option NodeFacts)
    → option_and_then (λ (n : NodeFacts). verdict_of b.state n.domain) o ≡ Some v → IsSomeAnd o (λ n. HasNegotiated b.platform b.history n.domain v)
negotiated_at law b is v decided None told = absurd (cc)
negotiated_at law b is v decided (Some n) told =
    law b.platform b.history n.domain v is.legal (subst (λ (s : State). verdict_of s n.domain ≡ Some v) is.replayed told) decided

pub known_are_negotiated : VerdictsAreNegotiated → KnownAreNegotiated
known_are_negotiated law b ss a k d r is agrees less knows decided =
    let (read, are, audited) = agrees.audited in
    let one = are.each k d less in
    let known : (get_or read k d).known ≡ Some (outcomes.Decided r) = subst (λ (o : Option Outcome). IfSome o (λ x. (get_or read k d).known ≡ Some x)) knows one.known in
    let (i, own) = audited.each k d (subst (λ many. k < many) (sym are.many) less) in
    let told : verdict_at b i ≡ Some r.claim.verdict = subst (IsKnown b i) known own.verdict in
    let at : node_at b.state.tree.nodes (get_or ss k d).path ≡ Some i = ap (node_at b.state.tree.nodes) (sym one.path) ∙ own.at in
    (i, at, negotiated_at law b is r.claim.verdict decided (slice_get b.state.tree.nodes i) told)
