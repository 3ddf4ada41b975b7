-- With a base or without.
use Rattle.std.proofs.Common.{refl}
use Rattle.sysmem_proof.proofs.Choosing.{fitting_none, fitting_some}
use Rattle.sysmem_proof.proofs.checking.choice_faults.has_fitting_lines.Goals as goal

pub returns-in-None : goal.returns-in-None
returns-in-None c = (λ is. fitting_none c.args.checker.now.nodes c.args.checker.now.base c.args.certificate.now c.in-None.ensures, λ fits. refl)

pub returns-in-Some : goal.returns-in-Some
returns-in-Some c =
    let same = fitting_some c.args.checker.now.nodes c.args.checker.now.base _ c.args.certificate.now c.in-Some.ensures in
    (λ is. same.0 (c.has_no_lines.ensures.0 is), λ fits. c.has_no_lines.ensures.1 (same.1 fits))
