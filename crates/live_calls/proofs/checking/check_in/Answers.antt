-- What a collection tells a node.
use Rattle.std.proofs.Common.{Some, ap, refl, subst, sym}
use Rattle.live_calls.specs.Checking.{Checks, shows, check_denies, check_misused}
use Rattle.live_calls.specs.Settings.{IsShown}
use Rattle.live_calls.proofs.checking.check_in.Goals as goal

pub returns-in_default : goal.returns-in_default
returns-in_default c = check_misused (λ b e. c.in_default.not-Collection b (cc e)) refl

pub returns-in-Ok : goal.returns-in-Ok
returns-in-Ok c =
    shows c.in-Collection.collection c.in-Ok.chosen (ap Some c.in-Collection.is) (sym c.in-Ok.ensures)
    (subst (λ p. IsShown p c.args.settings.now.struct_size c.in-Ok.chosen c.flat_settings.result) c.platform.ensures c.flat_settings.ensures)

pub returns-in-Err : goal.returns-in-Err
returns-in-Err c =
    subst (Checks c.args.node (Some c.args.object.now) c.args.settings.now c.args.settings.now) (sym c.status_of.ensures)
    (check_denies c.in-Collection.collection c.in-Err.refusal (ap Some c.in-Collection.is) (sym c.in-Err.ensures) refl)
