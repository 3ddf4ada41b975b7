use Rattle.std.proofs.Common.{rules}
use Rattle.std.proofs.lemmas.Result.{err_from_is_err_and}
use Rattle.serde_json.specs.View.{view}
use Rattle.record_reading.proofs.Refusals.{later-entry, reads-entry}
use Rattle.record_reading.proofs.reading.entry.EntryListed.add.Goals as goal

pub returns-in_err-colours : goal.returns-in_err-colours
returns-in_err-colours c =
    let p = err_from_is_err_and c.from_residual-in_err-colours.result c.from_residual-in_err-colours.ensures.1 in
    rw (p.1, p.2) (later-entry c.args.entries.now.items (view c.args.value.now) _ c.in_ok-pairs.pairs.items _ c.in_ok-expect_entry.ensures (search rules) (search rules))

pub returns-in_err-bounds : goal.returns-in_err-bounds
returns-in_err-bounds c =
    let p = err_from_is_err_and c.from_residual-in_err-bounds.result c.from_residual-in_err-bounds.ensures.1 in
    rw (p.1, p.2) (later-entry c.args.entries.now.items (view c.args.value.now) _ c.in_ok-pairs.pairs.items _ c.in_ok-expect_entry.ensures (search rules) (search rules))

pub returns : goal.returns
returns c =
    reads-entry c.args.entries.now.items (view c.args.value.now) _ _ c.in_ok-pairs.pairs.items _ _ _ c.in_ok-expect_entry.ensures (search rules) c.in_ok-stated.ensures c.in_ok-colours.ensures c.in_ok-bounds.ensures (search rules)
