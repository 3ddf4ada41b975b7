-- The form, and then the rest.
use Rattle.std.proofs.Common.{sym, subst}
use Rattle.verdict_claims.specs.Matter.{forest, terms}
use Rattle.sysmem_proof.specs.Choice.{FormFaults}
use Rattle.verdict_claims.specs.Fault.{IsSelected}
use Rattle.sysmem_proof.proofs.Left.{of_err}
use Rattle.sysmem_proof.proofs.Choosing.{form_then, form_fails}
use Rattle.sysmem_proof.proofs.checking.choice_faults.choice_fault.Goals as goal

pub returns-in_err-form_fault : goal.returns-in_err-form_fault
returns-in_err-form_fault c =
    let checker = c.args.checker.now in
    of_err c.from_residual.result _ _ _ c.from_residual.ensures.1 (λ y same. same)
    (form_fails checker.platform (forest checker) c.args.chosen.now.selection c.args.chosen.now.settings c.args.certificate.now (terms checker) c.in_err-form_fault.field-0.0
    (subst (λ xs. FormFaults (terms checker) (forest checker) xs c.args.certificate.now c.in_err-form_fault.field-0.0) c.selection.ensures c.in_err-form_fault.ensures))

pub initial_choice_fault-requires-clause-initial : goal.initial_choice_fault-requires-clause-initial
initial_choice_fault-requires-clause-initial c = sym c.in-None.ensures

pub initial_choice_fault-requires-clause-selected : goal.initial_choice_fault-requires-clause-selected
initial_choice_fault-requires-clause-selected c = subst (IsSelected (forest c.args.checker.now)) c.selection.ensures c.in_ok-form_fault.ensures.1

pub attached_choice_fault-requires-clause-base : goal.attached_choice_fault-requires-clause-base
attached_choice_fault-requires-clause-base c = sym c.in-Some.ensures

pub attached_choice_fault-requires-clause-selected : goal.attached_choice_fault-requires-clause-selected
attached_choice_fault-requires-clause-selected c = subst (IsSelected (forest c.args.checker.now)) c.selection.ensures c.in_ok-form_fault.ensures.1

pub attached_choice_fault-requires-clause-fitting : goal.attached_choice_fault-requires-clause-fitting
attached_choice_fault-requires-clause-fitting c = c.in_ok-form_fault.ensures.2

pub returns-in-None : goal.returns-in-None
returns-in-None c =
    let checker = c.args.checker.now in
    form_then checker.platform (terms checker) (forest checker) c.args.chosen.now.selection c.args.chosen.now.settings c.args.certificate.now c.initial_choice_fault.result
    (c.in_ok-form_fault.ensures.0, subst (IsSelected (forest checker)) c.selection.ensures c.in_ok-form_fault.ensures.1, c.in_ok-form_fault.ensures.2) c.initial_choice_fault.ensures

pub returns-in-Some : goal.returns-in-Some
returns-in-Some c =
    let checker = c.args.checker.now in
    form_then checker.platform (terms checker) (forest checker) c.args.chosen.now.selection c.args.chosen.now.settings c.args.certificate.now c.attached_choice_fault.result
    (c.in_ok-form_fault.ensures.0, subst (IsSelected (forest checker)) c.selection.ensures c.in_ok-form_fault.ensures.1, c.in_ok-form_fault.ensures.2) c.attached_choice_fault.ensures
