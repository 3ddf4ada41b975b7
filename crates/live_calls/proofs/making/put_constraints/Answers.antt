-- What a struct states is put into the handle.
use Rattle.live_calls.proofs.Stated.{constraints_by, constraints_unsaid}
use Rattle.live_calls.proofs.making.put_constraints.Goals as goal

pub returns-in-Ok : goal.returns-in-Ok
returns-in-Ok c = constraints_by c.args.flat.now c.args.held.now.value c.put_shared.new.held.value c.args.why.now c.in-Ok.constraints c.put_shared.result c.in-Ok.ensures.said c.put_shared.ensures

pub returns-in-Err : goal.returns-in-Err
returns-in-Err c = constraints_unsaid c.args.flat.now c.args.held.now.value c.args.why.now c.tell_participant.new.why c.in-Err.unsaid c.tell_participant.result c.in-Err.ensures.amiss c.tell_participant.ensures
