use Rattle.std.proofs.Common.{rules}
use Rattle.std.proofs.lemmas.Result.{err_from_is_err_and}
use Rattle.serde_json.specs.View.{view}
use Rattle.record_reading.proofs.Refusals.{later-heap}
use Rattle.record_reading.proofs.reading.heap_info.heap_of.Goals as goal

pub returns-in_err-domains : goal.returns-in_err-domains
returns-in_err-domains c =
    let p = err_from_is_err_and c.from_residual-in_err-domains.result c.from_residual-in_err-domains.ensures.1 in
    rw (p.1, p.2) (later-heap (view c.args.object.now) _ _ _ c.in_ok-expect_object.ensures c.in_ok-heap.ensures (search rules))
