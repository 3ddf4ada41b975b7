-- As far as the copy has come, it shows the same.
use Rattle.std.proofs.Common.{◌∙◌, ap, map}
use Rattle.std.proofs.lemmas.List.{take_all}
use Rattle.sysmem_alloc.specs.Entry.{entry_in}
use Rattle.live_book.proofs.Copies.{grown}
use Rattle.live_book.proofs.snapshot.copied_history.Goals as goal

pub loop-entry-preserved : goal.loop-entry-preserved
loop-entry-preserved c nodes =
    ap (map (entry_in nodes)) c.in_ok-push.ensures.items
    ∙ grown (entry_in nodes) c.loop-entry.copy.items c.args.history.now c.loop-entry.entry-index c.in_ok-copied_entry.field-0 c.entry-item.result
    c.loop-entry-test.true (c.loop-entry.invariant nodes) (c.in_ok-copied_entry.ensures nodes ∙ ap (entry_in nodes) c.entry-item.is)

pub returns : goal.returns
returns c nodes =
    c.loop-entry.invariant nodes ∙ ap (map (entry_in nodes)) (take_all c.loop-entry.entry-index c.args.history.now c.loop-entry-test.false)
