-- What is told of the lines is told of the conflict.
use Rattle.std.proofs.Common.{None, sym, subst}
use Rattle.std.specs.Prelude.{MatchResult}
use Rattle.verdict_claims.specs.declared.conflict.Conflict.TheVariants.{Fixed}
use Rattle.verdict_claims.specs.Conflict.{IsConflict}
use Rattle.verdict_claims.specs.Fault.{ConflictFaults}
use Rattle.verdict_claims.specs.Roll.{listed}
use Rattle.sysmem_proof.proofs.Telling.{of_places, of_offers, of_field}
use Rattle.sysmem_proof.proofs.checking.conflict_faults.initial_conflict_fault.Goals as goal

pub returns-in-Places : goal.returns-in-Places
returns-in-Places c = λ d leads.
    subst (λ x. MatchResult c.places_fault.result (λ _. IsConflict c.args.checker.now.platform d x) (ConflictFaults c.args.checker.now.platform None d x)) (sym c.in-Places.is)
    (of_places c.places_fault.result d c.platform-platform.result.now c.args.checker.now.platform (listed c.settled-roll.result) c.as_slice.result.now _ c.platform-platform.ensures c.as_slice.ensures
    (c.settled-roll.ensures d leads) c.places_fault.ensures)

pub returns-in-Offers : goal.returns-in-Offers
returns-in-Offers c = λ d leads.
    subst (λ x. MatchResult c.offers_fault.result (λ _. IsConflict c.args.checker.now.platform d x) (ConflictFaults c.args.checker.now.platform None d x)) (sym c.in-Offers.is)
    (of_offers c.offers_fault.result d c.platform-platform.result.now c.args.checker.now.platform c.is_whole-whole.result (listed c.settled-roll.result) c.as_slice-in-Offers.result.now _ c.platform-platform.ensures
    c.as_slice-in-Offers.ensures (c.settled-roll.ensures d leads) (c.is_whole-whole.ensures d leads) c.offers_fault.ensures)

pub returns-in-Fixed : goal.returns-in-Fixed
returns-in-Fixed c = λ d leads.
    subst (λ x. ConflictFaults c.args.checker.now.platform None d x c.unfixed_fault.result) (sym c.in-Fixed.is)
    (subst (λ path. ConflictFaults c.args.checker.now.platform None d (Fixed c.in-Fixed.field-0 path) c.unfixed_fault.result) c.ordinals.ensures
    (of_field c.args.checker.now.platform (listed c.settled-roll.result) _ _ c.unfixed_fault.result d (c.settled-roll.ensures d leads) c.unfixed_fault.ensures))
