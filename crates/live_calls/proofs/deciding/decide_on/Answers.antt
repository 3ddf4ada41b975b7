-- A decision is made of what was taken.
use Rattle.std.proofs.Common.{refl}
use Rattle.live_calls.specs.Deciding.{decide_misused, decide_starves}
use Rattle.live_calls.proofs.Endings.{decided_by}
use Rattle.live_calls.proofs.deciding.decide_on.Goals as goal

pub returns-in_default : goal.returns-in_default
returns-in_default c = decide_misused (c.in_default.ensures.none refl) c.in_default.ensures.taken

pub returns-in-Ok : goal.returns-in-Ok
returns-in-Ok c =
    decided_by c.args.decision.now.value c.taken_decision.new.held.value c.put_decided.new.held.value c.in-Some.frozen c.in-Ok.decided c.put_decided.result
    c.in-Some.ensures.decision c.in-Some.ensures.taken c.in-Ok.ensures.0 c.in-Ok.ensures.1 c.put_decided.ensures

pub returns-in-Err : goal.returns-in-Err
returns-in-Err c = decide_starves c.in-Some.frozen c.in-Some.ensures.decision c.in-Some.ensures.taken
