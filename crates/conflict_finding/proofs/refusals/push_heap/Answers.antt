-- The three places that a heap can have, one after the other.
use Rattle.sysmem_memory.specs.Listed.{HeapPlace}
use Rattle.verdict_claims.specs.FirstConflict.{IsPlaceLineGiven}
use Rattle.conflict_finding.specs.Refusals.{Ends, SharePlace}
use Rattle.conflict_finding.proofs.Sofar.{they_end, they_go_on}
use Rattle.conflict_finding.proofs.refusals.push_heap.Goals as goal

pub returns-then-not-branch-clause-lines : goal.returns-then-not-branch-clause-lines
returns-then-not-branch-clause-lines c = λ ms stand xs heaps so.
    they_end (IsPlaceLineGiven ms) (Ends c.args.until (λ (p : HeapPlace). p.place) (SharePlace ms)) c.in_ok-push_place.field-0 xs _ _ c.if-not-branch.true (c.in_ok-push_place.ensures.lines ms stand xs _ so)

pub returns-then-not-branch-2-clause-lines : goal.returns-then-not-branch-2-clause-lines
returns-then-not-branch-2-clause-lines c = λ ms stand xs heaps so.
    let ram = they_go_on (IsPlaceLineGiven ms) (Ends c.args.until (λ (p : HeapPlace). p.place) (SharePlace ms)) c.in_ok-push_place.field-0 xs _ _ c.if-not-branch.false (c.in_ok-push_place.ensures.lines ms stand xs _ so) in
    they_end (IsPlaceLineGiven ms) (Ends c.args.until (λ (p : HeapPlace). p.place) (SharePlace ms)) c.in_ok-push_place-2.field-0 xs _ _ c.if-not-branch-2.true (c.in_ok-push_place-2.ensures.lines ms stand xs _ ram)

pub returns-clause-lines : goal.returns-clause-lines
returns-clause-lines c = λ ms stand xs heaps so.
    let ram = they_go_on (IsPlaceLineGiven ms) (Ends c.args.until (λ (p : HeapPlace). p.place) (SharePlace ms)) c.in_ok-push_place.field-0 xs _ _ c.if-not-branch.false (c.in_ok-push_place.ensures.lines ms stand xs _ so) in
    let inaccessible = they_go_on (IsPlaceLineGiven ms) (Ends c.args.until (λ (p : HeapPlace). p.place) (SharePlace ms)) c.in_ok-push_place-2.field-0 xs _ _ c.if-not-branch-2.false (c.in_ok-push_place-2.ensures.lines ms stand xs _ ram) in
    c.push_place-3.ensures.lines ms stand xs _ inaccessible
