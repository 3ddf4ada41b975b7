-- One place more, if the heap has it.
use Rattle.std.proofs.Common.{sym, ◌∙◌, ap, subst}
use Rattle.sysmem_memory.specs.Domain.{has_domain}
use Rattle.sysmem_memory.specs.Listed.{HeapPlace}
use Rattle.verdict_claims.specs.FirstConflict.{IsPlaceLineGiven}
use Rattle.conflict_finding.specs.Refusals.{AreSoFar, Ends, SharePlace}
use Rattle.conflict_finding.proofs.Sofar.{end_here, is_next, not_there, of_none, one_more}
use Rattle.conflict_finding.proofs.refusals.push_place.Goals as goal
use Rattle.list_lemmas.proofs.CallerLemmas.{of_some}

pub returns-then-not-has-clause-lines : goal.returns-then-not-has-clause-lines
returns-then-not-has-clause-lines c = λ ms stand xs left so. not_there (IsPlaceLineGiven ms) _ xs left c.args.lines.now.items _ (sym (c.has.ensures ∙ ap (λ h. has_domain h.domains c.args.place.coherency) c.heap.view_is) ∙ c.if-not-has.true) so

pub returns-in_default-clause-lines : goal.returns-in_default-clause-lines
returns-in_default-clause-lines c = λ ms stand xs left so. end_here (IsPlaceLineGiven ms) (Ends c.args.until (λ (p : HeapPlace). p.place) (SharePlace ms)) xs left c.args.lines.now.items _
    (is_next (IsPlaceLineGiven ms) _ xs left c.args.lines.now.items _ (sym (c.has.ensures ∙ ap (λ h. has_domain h.domains c.args.place.coherency) c.heap.view_is) ∙ c.if-not-has.false) so) (of_none _ c.in_ok-line.field-0 c.in_default.is (c.in_ok-line.ensures.end ms stand))

pub returns-clause-lines : goal.returns-clause-lines
returns-clause-lines c = λ ms stand xs left so. subst (λ lines. AreSoFar (IsPlaceLineGiven ms) xs lines left) (sym c.in_ok-push.ensures.items)
    (one_more (IsPlaceLineGiven ms) xs left c.args.lines.now.items (record { place = c.args.place; heap = c.args.heap.now }) c.in-Some.line
    (is_next (IsPlaceLineGiven ms) _ xs left c.args.lines.now.items _ (sym (c.has.ensures ∙ ap (λ h. has_domain h.domains c.args.place.coherency) c.heap.view_is) ∙ c.if-not-has.false) so) (of_some (IsPlaceLineGiven ms (record { place = c.args.place; heap = c.args.heap.now })) c.in_ok-line.field-0 c.in-Some.line c.in-Some.is (c.in_ok-line.ensures.line ms stand)))
