use Rattle.std.proofs.Common.{Some, ap}
use Rattle.std.specs.Arc.{arc_value}
use Rattle.script_replay.specs.Events.{shows}
use Rattle.script_replay.proofs.Told.{can_be_told, decided_as}
use Rattle.script_replay.proofs.deciding.decided_by.Goals as goal

pub corner_in-corner-requires : goal.corner_in-corner-requires
corner_in-corner-requires c =
    let allowed = rw c.in-Some.is at c.requires in
    rw c.deref.ensures (can_be_told c.no_corner.ensures c.args.book.now c.args.domain _ c.recall_legal.ensures allowed.1.optimal)

pub returns-in_default : goal.returns-in_default
returns-in_default c = rw c.in_default.is (shows _ tt)

pub returns : goal.returns
returns c =
    let shown = rw c.deref.ensures at c.corner_in-corner.ensures in
    rw c.in-Some.is (decided_as (Some (arc_value c.in-Some.shared)) (Some (arc_value c.in_ok-try_clone.field-0)) c.corner_in-corner.result (ap Some c.in_ok-try_clone.ensures) shown)
