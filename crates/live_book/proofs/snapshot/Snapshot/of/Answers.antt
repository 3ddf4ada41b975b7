-- Each part of the copy is the collection's.
use Rattle.std.proofs.Common.{◌∙◌}
use Rattle.live_book.proofs.Parts.{is_copy, settled_copy}
use Rattle.live_book.proofs.snapshot.Snapshot.of.Goals as goal

pub invariant_of-copy : goal.invariant_of-copy
invariant_of-copy c =
    settled_copy c.book-book.result.now c.in_ok-copy.field-0 c.in_ok-copy-2.field-0 c.in_ok-history.history.items c.platform.ensures.book (c.in_ok-copy.ensures ∙ c.platform.ensures.platform) (c.in_ok-copy-2.ensures ∙ c.tree.ensures) c.in_ok-history.ensures

pub returns : goal.returns
returns c =
    is_copy c.args.collection.now c.book-book.result.now c.in_ok-copy.field-0 c.in_ok-copy-2.field-0 c.in_ok-history.history.items c.in_ok-copy-3.field-0 c.book-book.ensures.book
    (c.in_ok-copy.ensures ∙ c.platform.ensures.platform) (c.in_ok-copy-2.ensures ∙ c.tree.ensures) (c.in_ok-copy-3.ensures ∙ c.names.ensures) c.in_ok-history.ensures
