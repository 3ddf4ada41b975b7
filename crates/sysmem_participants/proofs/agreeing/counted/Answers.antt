use Rattle.std.proofs.Common.{◌≡◌, ◌∙◌, ap, sym, arith, length}
use Rattle.std.proofs.lemmas.List.{length-map}
use Rattle.sysmem_alloc.specs.Entry.{entry_in}
use Rattle.sysmem_participants.proofs.Entries.{all_counted}
use Rattle.sysmem_participants.proofs.agreeing.counted.Goals as goal

pub returns-clause-decisions : goal.returns-clause-decisions
returns-clause-decisions c =
    let many : length c.history.result.now ≡ length c.args.book.now.history = sym (length-map c.history.result.now (entry_in c.args.book.now.state.tree.nodes)) ∙ ap length c.history.ensures.entries in
    omega (arith, many, all_counted c.args.book.now.history, c.actions_of-actions.ensures.actions)
