-- What structs state is put into the handle.
use Rattle.live_calls.proofs.Stated.{platform_by, platform_unsaid}
use Rattle.live_calls.proofs.making.put_platform.Goals as goal

pub returns-in-Ok : goal.returns-in-Ok
returns-in-Ok c = platform_by c.args.flat.now c.args.held.now.value c.put_new.new.held.value c.args.why.now c.in-Ok.platform c.put_new.result c.in-Ok.ensures.said c.put_new.ensures

pub returns-in-Err : goal.returns-in-Err
returns-in-Err c = platform_unsaid c.args.flat.now c.args.held.now.value c.args.why.now c.tell_platform.new.why c.in-Err.unsaid c.tell_platform.result c.in-Err.ensures.amiss c.tell_platform.ensures
