use Rattle.std.proofs.Common.{◌∙◌, refl}
use Rattle.std.proofs.lemmas.Result.{err_from_is_err_and}
use Rattle.script_replay.specs.Runner.{state_of}
use Rattle.script_replay.proofs.Following.{starts, one_more}
use Rattle.script_replay.proofs.Stopping.{objects_so, passed_on, stops_on}
use Rattle.script_replay.proofs.runner.Runner.decide_waiting.Goals as goal

pub loop-domain-init : goal.loop-domain-init
loop-domain-init g c = (λ number. starts number (state_of c.args.self.now) _ _, refl)

pub loop-domain-preserved : goal.loop-domain-preserved
loop-domain-preserved g c = (
  one_more _ (state_of c.loop-domain.self) (state_of c.decide.new.self) _ _ _ _ (g.D.Decider.gave c.loop-domain.decider) (g.D.Decider.gave c.decide.new.decider) c.in_ok-decide.ensures.lines c.loop-domain.invariant.0,
  c.decide.ensures.given ∙ c.loop-domain.invariant.1,
)

pub returns-in_err-decide-clause-stops : goal.returns-in_err-decide-clause-stops
returns-in_err-decide-clause-stops g c =
    let failed = err_from_is_err_and c.from_residual.result c.from_residual.ensures.1 in
    passed_on c.from_residual.result c.in_err-decide.field-0.0 _ (cc (failed.1, failed.2))
    (objects_so c.in_err-decide.field-0.0 _ _ (λ o stops. stops_on (state_of c.args.self.now) (state_of c.loop-domain.self) (state_of c.decide.new.self) _ _ _ (g.D.Decider.gave c.loop-domain.decider)
    (g.D.Decider.gave c.decide.new.decider) _ o c.loop-domain.invariant.0 stops) c.in_err-decide.ensures.stops)
