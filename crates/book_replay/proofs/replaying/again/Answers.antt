-- Each entry is allowed where it is entered once more, and is prompt there if it was.
use Rattle.std.proofs.Common.{◌≡◌, ◌∙◌, Some, ap, slice_get, sym}
use Rattle.std.proofs.lemmas.Option.{slice_get-get_or}
use Rattle.sysmem_alloc.specs.Book.{BookFacts}
use Rattle.sysmem_alloc.specs.Entry.{entry_in}
use Rattle.book_replay.proofs.Replays.{next_allowed, next_prompt, not_eager, stands}
use Rattle.book_replay.proofs.replaying.again.Goals as goal

pub enter-requires : goal.enter-requires
enter-requires c =
    let b = c.args.book.now in
    let raw = c.history-history.result.now in
    let i = c.loop-entry.entry-index in
    let e = c.entry-item.result in
    let here : slice_get raw i ≡ Some e = slice_get-get_or raw i e c.loop-entry-test.true ∙ ap Some (sym c.entry-item.is) in
    next_allowed b c.loop-entry.copy i (entry_in c.tree-tree.result.now.nodes e) c.history-history.ensures.book c.recall_legal.ensures c.loop-entry.invariant
    (stands b.state.tree c.tree-tree.result.now raw b.history i e c.tree-tree.ensures c.history-history.ensures.entries here)

pub returns-then-not-branch-clause-eager : goal.returns-then-not-branch-clause-eager
returns-then-not-branch-clause-eager c =
    let b = c.args.book.now in
    let raw = c.history-history.result.now in
    let i = c.loop-entry.entry-index in
    let e = c.entry-item.result in
    let here : slice_get raw i ≡ Some e = slice_get-get_or raw i e c.loop-entry-test.true ∙ ap Some (sym c.entry-item.is) in
    let there = stands b.state.tree c.tree-tree.result.now raw b.history i e c.tree-tree.ensures c.history-history.ensures.entries here in (
      λ t. absurd (cc t),
      λ eager.
          let did = c.in_ok-enter.ensures.prompt.1 (not_eager b c.loop-entry.copy i (entry_in c.tree-tree.result.now.nodes e) c.recall_legal.ensures c.loop-entry.invariant there eager) in
          absurd (cc (did, c.if-not-branch.true)),
    )

pub loop-entry-preserved : goal.loop-entry-preserved
loop-entry-preserved c =
    let b = c.args.book.now in
    let raw = c.history-history.result.now in
    let i = c.loop-entry.entry-index in
    let e = c.entry-item.result in
    let here : slice_get raw i ≡ Some e = slice_get-get_or raw i e c.loop-entry-test.true ∙ ap Some (sym c.entry-item.is) in
    let there = stands b.state.tree c.tree-tree.result.now raw b.history i e c.tree-tree.ensures c.history-history.ensures.entries here in
    let done = c.in_ok-enter.ensures.entered c.if-not-branch.false in
    next_prompt b c.loop-entry.copy c.enter.new.book i (entry_in c.tree-tree.result.now.nodes e) c.recall_legal.ensures c.loop-entry.invariant there
    (c.in_ok-enter.ensures.prompt.0 c.if-not-branch.false) (ap (λ (x : BookFacts). x.platform) done) (ap (λ (x : BookFacts). x.history) done)
