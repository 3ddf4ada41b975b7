use Rattle.std.proofs.lemmas.Result.{err_from_is_err_and}
use Rattle.script_replay.specs.Runner.{state_of}
use Rattle.script_replay.proofs.Stopping.{no_objection, objects_both, passed_on, stops_here}
use Rattle.script_replay.proofs.runner.Runner.decide.Goals as goal

pub returns-clause-lines : goal.returns-clause-lines
returns-clause-lines g c = record {
  claimed = _;
  allowed = c.in_ok-claim.ensures.allowed;
  enters = c.in_ok-tell.ensures.lines;
  gave = c.in_ok-claim.ensures.gave;
}

pub returns-in_err-claim-clause-stops : goal.returns-in_err-claim-clause-stops
returns-in_err-claim-clause-stops g c =
    let failed = err_from_is_err_and c.from_residual.result c.from_residual.ensures.1 in
    passed_on c.from_residual.result c.in_err-claim.field-0.0 _ (cc (failed.1, failed.2))
    (objects_both c.in_err-claim.field-0.0 _ _ _ (λ o kept object. stops_here (state_of c.args.self.now) _ _ _ c.args.domain o c.requires.next kept object) c.in_err-claim.ensures.kept c.in_err-claim.ensures.objects)

pub returns-in_err-tell-clause-stops : goal.returns-in_err-tell-clause-stops
returns-in_err-tell-clause-stops g c =
    let failed = err_from_is_err_and c.from_residual-in_err-tell.result c.from_residual-in_err-tell.ensures.1 in
    no_objection c.from_residual-in_err-tell.result _ (cc (failed.1, failed.2))
