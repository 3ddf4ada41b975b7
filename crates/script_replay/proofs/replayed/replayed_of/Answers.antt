use Rattle.std.proofs.Common.{◌<◌, ◌≤◌, length, map, ◌∙◌, refl, arith}
use Rattle.std.proofs.lemmas.Result.{err_from_is_err_and}
use Rattle.script_replay.specs.Events.{events_of}
use Rattle.script_replay.specs.Runner.{state_of}
use Rattle.script_reading.specs.Seen.{call_seen}
use Rattle.script_replay.proofs.Reaching.{reaches-start, reaches-stop, reaches-take, reaches-end, reaches-last, reaches-all-events, added_to, platform_is, text_is, drop-call_seen}
use Rattle.script_replay.proofs.Stopping.{no_objection, stopped_as}
use Rattle.script_replay.proofs.replayed.replayed_of.Goals as goal

pub returns-in_err-runner-clause-stops : goal.returns-in_err-runner-clause-stops
returns-in_err-runner-clause-stops g c =
    let failed = err_from_is_err_and c.from_residual.result c.from_residual.ensures.1 in
    no_objection c.from_residual.result _ (cc (failed.1, failed.2))

pub loop-index-init : goal.loop-index-init
loop-index-init g c = (reaches-start _ (map call_seen c.args.calls.now) (state_of c.in_ok-runner.runner) _ _ c.in_ok-runner.ensures c.new-events.ensures, refl)

pub take-requires : goal.take-requires
take-requires g c = record { idle = c.loop-index.invariant.0.idle }

pub loop-index-preserved : goal.loop-index-preserved
loop-index-preserved g c =
    let within : c.loop-index.index < length c.args.calls.now = omega arith in (
      reaches-take _ (map call_seen c.args.calls.now) c.loop-index.index (state_of c.loop-index.runner) (state_of c.take.new.self) _ (events_of c.loop-index.events) _ _
          (g.D.Decider.gave c.loop-index.decider) (g.D.Decider.gave c.take.new.decider)
          (drop-call_seen c.args.calls.now c.loop-index.index c.index-calls-index.result within c.index-calls-index.is) c.in_default.ensures.goes c.in_default.ensures.idle c.loop-index.invariant.0,
      c.take.ensures.given ∙ c.loop-index.invariant.1,
    )

pub returns-in-Err-clause-stops : goal.returns-in-Err-clause-stops
returns-in-Err-clause-stops g c =
    let within : c.loop-index.index < length c.args.calls.now = omega arith in
    stopped_as c.stopped.result c.in-Err.stop _ _ _ (λ o fed stops. reaches-stop _ (map call_seen c.args.calls.now) c.loop-index.index (state_of c.loop-index.runner) (state_of c.take.new.self) _ (events_of c.loop-index.events) _
    (g.D.Decider.gave c.loop-index.decider) (g.D.Decider.gave c.take.new.decider) _ o
    (drop-call_seen c.args.calls.now c.loop-index.index c.index-calls-index.result within c.index-calls-index.is) fed stops c.loop-index.invariant.0) c.stopped.ensures c.in-Err.ensures.stops

pub returns-in_err-add_pending-clause-stops : goal.returns-in_err-add_pending-clause-stops
returns-in_err-add_pending-clause-stops g c =
    let failed = err_from_is_err_and c.from_residual-in_err-add_pending.result c.from_residual-in_err-add_pending.ensures.1 in
    no_objection c.from_residual-in_err-add_pending.result _ (cc (failed.1, failed.2))

pub returns-in_err-put_text-clause-stops : goal.returns-in_err-put_text-clause-stops
returns-in_err-put_text-clause-stops g c =
    let failed = err_from_is_err_and c.from_residual-in_err-put_text.result c.from_residual-in_err-put_text.ensures.1 in
    no_objection c.from_residual-in_err-put_text.result _ (cc (failed.1, failed.2))

pub returns-clause-report : goal.returns-clause-report
returns-clause-report g c =
    let all : length c.args.calls.now ≤ c.loop-index.index = omega arith in
    let reached = c.loop-index.invariant.0 in
    rw c.is_starved.ensures (reaches-end _ c.args.calls.now c.loop-index.index (state_of c.loop-index.runner) (events_of c.loop-index.events) _ _ _ _ all c.requires reached
    (added_to _ _ _ _ (state_of c.loop-index.runner) c.book.ensures c.in_ok-add_pending.ensures refl) (text_is _ _ _ _ _ c.new-text.ensures.bytes (platform_is _ _ _ _ _ _ _ _ _ _ c.book-2.ensures c.platform.ensures.platform refl reached) c.in_ok-put_text.ensures))

pub returns-clause-leaves : goal.returns-clause-leaves
returns-clause-leaves g c =
    let all : length c.args.calls.now ≤ c.loop-index.index = omega arith in
    let reached = c.loop-index.invariant.0 in
    reaches-last _ c.args.calls.now c.loop-index.index (state_of c.loop-index.runner) (events_of c.loop-index.events) _ _ _ _ all reached
    (added_to _ _ _ _ (state_of c.loop-index.runner) c.book.ensures c.in_ok-add_pending.ensures refl) (text_is _ _ _ _ _ c.new-text.ensures.bytes (platform_is _ _ _ _ _ _ _ _ _ _ c.book-2.ensures c.platform.ensures.platform refl reached) c.in_ok-put_text.ensures)

pub returns-clause-happens : goal.returns-clause-happens
returns-clause-happens g c =
    let all : length c.args.calls.now ≤ c.loop-index.index = omega arith in
    reaches-all-events _ c.args.calls.now c.loop-index.index (state_of c.loop-index.runner) (events_of c.loop-index.events) _ _ _ all c.requires c.loop-index.invariant.0
    (added_to _ _ _ _ (state_of c.loop-index.runner) c.book.ensures c.in_ok-add_pending.ensures refl)

pub returns-clause-text : goal.returns-clause-text
returns-clause-text g c =
    text_is _ _ _ _ _ c.new-text.ensures.bytes (platform_is _ _ _ _ _ _ _ _ _ _ c.book-2.ensures c.platform.ensures.platform refl c.loop-index.invariant.0) c.in_ok-put_text.ensures
