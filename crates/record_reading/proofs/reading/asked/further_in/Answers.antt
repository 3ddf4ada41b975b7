use Rattle.std.proofs.Common.{subst}
use Rattle.std.proofs.lemmas.List.{drop_all}
use Rattle.std.proofs.lemmas.Result.{err_from_is_err_and}
use Rattle.serde_json.specs.View.{items_view}
use Rattle.record_reading.specs.Reading.Entries.{with_further}
use Rattle.record_reading.proofs.Refusals.{IsRest, rest-start, rest-more, rest-fault, rest-none, steady-further}
use Rattle.record_reading.proofs.reading.asked.further_in.Goals as goal

pub loop-value-init : goal.loop-value-init
loop-value-init c = rest-start _ _ _

pub loop-value-preserved : goal.loop-value-preserved
loop-value-preserved c =
    rest-more (λ lack. with_further lack c.args.entries.now) c.args.pairs.items c.loop-value.pairs.items _ c.args.list.now c.loop-value.value-index c.value-item.result (steady-further c.args.entries.now) c.loop-value.invariant c.loop-value-test.true c.value-item.is c.in_ok-add_further.ensures

pub returns-in_err-add_further : goal.returns-in_err-add_further
returns-in_err-add_further c =
    let p = err_from_is_err_and c.from_residual.result c.from_residual.ensures.1 in
    rw (p.1, p.2) (rest-fault (λ lack. with_further lack c.args.entries.now) c.args.pairs.items c.loop-value.pairs.items c.args.list.now c.loop-value.value-index c.value-item.result _ c.loop-value.invariant c.loop-value-test.true c.value-item.is c.in_err-add_further.ensures)

pub returns : goal.returns
returns c =
    rest-none (λ lack. with_further lack c.args.entries.now) c.args.pairs.items c.loop-value.pairs.items (items_view c.args.list.now)
    (subst (λ rest. IsRest (λ lack. with_further lack c.args.entries.now) c.args.pairs.items c.loop-value.pairs.items (items_view c.args.list.now) (items_view rest)) (drop_all c.loop-value.value-index c.args.list.now c.loop-value-test.false) c.loop-value.invariant)
