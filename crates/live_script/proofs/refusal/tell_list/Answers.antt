-- Somebody is in the way.
use Rattle.live_script.proofs.Telling.{who_told}
use Rattle.live_script.proofs.refusal.tell_list.Goals as goal

pub unreachable-requires : goal.unreachable-requires
unreachable-requires c = c.requires.unmet c.in-Ok.field-0 c.in-Ok.ensures.best.meets

pub returns : goal.returns
returns c r same =
    who_told c.args.snapshot.now r c.args.numbers.now c.args.why.now c.tell_unsettled.new.why c.tell_unsettled.result c.in-Err.unsettled same c.in-Err.ensures.unmet c.tell_unsettled.ensures.tells
    c.tell_unsettled.ensures.starves
