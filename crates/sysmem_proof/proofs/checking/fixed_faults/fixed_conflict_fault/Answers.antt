-- What is told of a line is told of the conflict.
use Rattle.std.proofs.Common.{Some, sym, subst}
use Rattle.std.specs.Prelude.{MatchResult}
use Rattle.verdict_claims.specs.declared.conflict.Conflict.TheVariants.{Fixed}
use Rattle.verdict_claims.specs.Conflict.{IsFixedConflict}
use Rattle.verdict_claims.specs.Fault.{ConflictFaults}
use Rattle.verdict_claims.specs.Roll.{listed}
use Rattle.sysmem_proof.proofs.Numbering.{fixed_told, places_told, offers_told}
use Rattle.sysmem_proof.proofs.checking.fixed_faults.fixed_conflict_fault.Goals as goal

pub returns-in-Fixed : goal.returns-in-Fixed
returns-in-Fixed c = λ terms d same one two.
    subst (λ x. MatchResult c.failing_fault.result (λ _. IsFixedConflict c.args.platform.now terms d x) (ConflictFaults c.args.platform.now (Some terms) d x)) (sym c.in-Fixed.is)
    (subst (λ path. MatchResult c.failing_fault.result (λ _. IsFixedConflict c.args.platform.now terms d (Fixed c.in-Fixed.field path)) (ConflictFaults c.args.platform.now (Some terms) d (Fixed c.in-Fixed.field path)))
    c.ordinals-path.ensures (fixed_told c.args.platform.now (listed c.args.roll.now) c.args.settings.now _ _ c.failing_fault.result c.failing_fault.ensures terms d same one))

pub returns-else-lines-count_places : goal.returns-else-lines-count_places
returns-else-lines-count_places c = λ terms d same one two.
    subst (λ x. ConflictFaults c.args.platform.now (Some terms) d x c.misplaced_fault.result) (sym c.in-Places.is)
    (places_told c.args.platform.now (listed c.args.roll.now) c.as_slice-lines.result.now _ c.heaps.result.now c.count_places.result c.misplaced_fault.result c.as_slice-lines.ensures c.heaps.ensures.heaps
    c.count_places.ensures c.if-lines-count_places.false c.misplaced_fault.ensures terms d one)

pub returns-else-not-has_offers : goal.returns-else-not-has_offers
returns-else-not-has_offers c = λ terms d same one two.
    subst (λ x. ConflictFaults c.args.platform.now (Some terms) d x c.misplaced_fault-in-Offers.result) (sym c.in-Offers.is)
    (offers_told c.args.platform.now (listed c.args.roll.now) c.as_slice-lines-in-Offers.result.now _ c.misplaced_fault-in-Offers.result c.as_slice-lines-in-Offers.ensures
    (c.has_offers.ensures.0 c.if-not-has_offers.false) c.misplaced_fault-in-Offers.ensures terms d one)
