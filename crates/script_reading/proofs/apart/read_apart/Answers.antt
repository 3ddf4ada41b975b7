use Rattle.std.proofs.Common.{◌∙◌, sym, map, Vec, Global}
use Rattle.std.proofs.lemmas.Result.{err_from_is_err_and}
use Rattle.script_reading.specs.declared.call.Call.{Call}
use Rattle.script_reading.specs.Known.{known_seen}
use Rattle.script_reading.specs.Seen.{call_seen}
use Rattle.script_reading.proofs.ApartLemmas.{apart_turn, apart_fault, apart_shared, apart_end}
use Rattle.script_reading.proofs.CallsLemmas.{fault_given}
use Rattle.script_reading.proofs.apart.read_apart.Goals as goal

pub returns-in_err-call : goal.returns-in_err-call
returns-in_err-call c =
    let p = err_from_is_err_and c.from_residual.result c.from_residual.ensures.1 in
    rw (p.1, p.2) (fault_given {X = Call} {Y = Vec Call Global} (λ call. (call_seen call, known_seen c.read_call.new.self)) (λ calls. map call_seen calls.items) _ _ _
    (λ f read. sym c.loop-index.invariant
    ∙ apart_fault c.args.values.now c.loop-index.index c.index-values-index.result c.loop-index-test.true c.index-values-index.is (known_seen c.loop-index.known) _ f read)
    c.in_err-call.ensures)

pub returns-then-is_shared : goal.returns-then-is_shared
returns-then-is_shared c =
    sym c.loop-index.invariant
    ∙ apart_shared c.args.values.now c.loop-index.index c.index-values-index.result c.loop-index-test.true c.index-values-index.is (known_seen c.loop-index.known)
    (known_seen c.read_call.new.self) c.loop-index.calls.items c.in_ok-call.call _ c.is_shared.result c.is_shared.ensures c.deref.ensures.value c.if-is_shared.true c.in_ok-call.ensures

pub loop-index-preserved : goal.loop-index-preserved
loop-index-preserved c =
    apart_turn c.args.values.now c.loop-index.index c.index-values-index.result c.loop-index-test.true c.index-values-index.is (known_seen c.loop-index.known)
    (known_seen c.read_call.new.self) c.loop-index.calls.items c.push.new.self.items c.in_ok-call.call _ c.is_shared.result c.is_shared.ensures c.deref.ensures.value c.if-is_shared.false
    c.in_ok-push.ensures.items c.in_ok-call.ensures
    ∙ c.loop-index.invariant

pub returns : goal.returns
returns c = sym c.loop-index.invariant ∙ apart_end c.args.values.now c.loop-index.index _ _ _ c.loop-index-test.false
