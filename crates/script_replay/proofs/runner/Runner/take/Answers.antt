use Rattle.std.proofs.lemmas.Result.{err_from_is_err_and}
use Rattle.script_replay.specs.Runner.{state_of}
use Rattle.script_replay.proofs.Answering.{takes_as}
use Rattle.script_replay.proofs.Results.{on_err, on_ok}
use Rattle.script_replay.proofs.Stopping.{no_objection, objects_so, stops_after}
use Rattle.script_replay.proofs.runner.Runner.take.Goals as goal

pub returns-in_err-reply-clause-stops : goal.returns-in_err-reply-clause-stops
returns-in_err-reply-clause-stops g c =
    let failed = err_from_is_err_and c.from_residual.result c.from_residual.ensures.1 in
    no_objection c.from_residual.result _ (cc (failed.1, failed.2))

pub returns-clause-goes : goal.returns-clause-goes
returns-clause-goes g c =
    on_ok c.decide_waiting.result _ _ (λ on. takes_as c.args.number (state_of c.args.self.now) _ (state_of c.reply.new.self) (state_of c.decide_waiting.new.self) _ _ _ (g.D.Decider.gave c.args.decider.now)
    (g.D.Decider.gave c.decide_waiting.new.decider) c.requires.idle c.in_ok-reply.ensures on) c.decide_waiting.ensures.goes

pub returns-clause-stops : goal.returns-clause-stops
returns-clause-stops g c =
    on_err c.decide_waiting.result _ _ (λ stop. objects_so stop _ _ (λ o on. stops_after c.args.number (state_of c.args.self.now) (state_of c.reply.new.self) (state_of c.decide_waiting.new.self) _ _ _
    (g.D.Decider.gave c.args.decider.now) (g.D.Decider.gave c.decide_waiting.new.decider) _ o c.requires.idle c.in_ok-reply.ensures on)) c.decide_waiting.ensures.stops
