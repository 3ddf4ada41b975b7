use Rattle.std.proofs.Common.{[], subst}
use Rattle.std.proofs.lemmas.List.{drop_all}
use Rattle.std.proofs.lemmas.Result.{err_from_is_err_and}
use Rattle.serde_json.specs.View.{items_view}
use Rattle.record_reading.proofs.Refusals.{IsRest, rest-more, rest-fault, rest-none}
use Rattle.record_reading.proofs.reading.list.list_in.Goals as goal

pub loop-value-preserved : goal.loop-value-preserved
loop-value-preserved g c =
    rest-more g.T.Listed.added [] c.loop-value.items.items _ c.args.list.now c.loop-value.value-index c.value-item.result c.requires c.loop-value.invariant c.loop-value-test.true c.value-item.is c.in_ok-add.ensures

pub returns-in_err-add : goal.returns-in_err-add
returns-in_err-add g c =
    let p = err_from_is_err_and c.from_residual.result c.from_residual.ensures.1 in
    rw (p.1, p.2) (rest-fault g.T.Listed.added [] c.loop-value.items.items c.args.list.now c.loop-value.value-index c.value-item.result _ c.loop-value.invariant c.loop-value-test.true c.value-item.is c.in_err-add.ensures)

pub returns : goal.returns
returns g c =
    rest-none g.T.Listed.added [] c.loop-value.items.items (items_view c.args.list.now)
    (subst (λ rest. IsRest g.T.Listed.added [] c.loop-value.items.items (items_view c.args.list.now) (items_view rest)) (drop_all c.loop-value.value-index c.args.list.now c.loop-value-test.false) c.loop-value.invariant)
