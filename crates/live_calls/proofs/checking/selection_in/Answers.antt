-- What a node is told of its domain's selection.
use Rattle.std.proofs.Common.{Some, ap, refl, subst, sym}
use Rattle.live_calls.specs.Checking.{TellsSelection, tells_selection, selection_denies, selection_misused}
use Rattle.live_calls.proofs.checking.selection_in.Goals as goal

pub returns-in_default : goal.returns-in_default
returns-in_default c = selection_misused (λ b e. c.in_default.not-Collection b (cc e)) refl refl

pub returns-in-Ok : goal.returns-in-Ok
returns-in-Ok c = tells_selection c.in-Collection.collection c.in-Ok.chosen.now c.fit.result (ap Some c.in-Collection.is) c.in-Ok.ensures.chosen c.fit.ensures

pub returns-in-Err : goal.returns-in-Err
returns-in-Err c =
    subst (TellsSelection c.args.node (Some c.args.object.now) c.args.choices.now c.args.choices.now c.args.size.now c.args.size.now) (sym c.status_of.ensures)
    (selection_denies c.in-Collection.collection c.in-Err.refusal (ap Some c.in-Collection.is) c.in-Err.ensures.none refl refl)
