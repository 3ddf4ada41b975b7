-- One entry after the other.
use Rattle.std.proofs.Common.{◌≡◌, ◌∙◌, Some, ap, map, slice_get, sym}
use Rattle.std.specs.List.{list_any}
use Rattle.std.proofs.lemmas.List.{take_all}
use Rattle.std.proofs.lemmas.Option.{slice_get-get_or}
use Rattle.live_script.specs.Refusing.{is_emptied}
use Rattle.live_script.proofs.Refusing.{found, none_more}
use Rattle.sysmem_alloc.specs.Entry.{entry_in}
use Rattle.live_script.proofs.refusal.has_emptied.Goals as goal

pub loop-entry-preserved : goal.loop-entry-preserved
loop-entry-preserved c =
    let nodes = c.args.snapshot.now.tree.nodes in
    let raw = c.history-history.result.now in
    let entry = c.entry-item.result in
    let here : slice_get raw c.loop-entry.entry-index ≡ Some entry = slice_get-get_or raw c.loop-entry.entry-index entry c.loop-entry-test.true ∙ ap Some (sym c.entry-item.is) in
    none_more (is_emptied c.args.domain) (entry_in nodes) raw c.loop-entry.entry-index entry here (sym (c.is_emptied.ensures nodes) ∙ c.if-is_emptied.false) c.loop-entry.invariant

pub returns-then-is_emptied : goal.returns-then-is_emptied
returns-then-is_emptied c =
    let nodes = c.args.snapshot.now.tree.nodes in
    let raw = c.history-history.result.now in
    let entry = c.entry-item.result in
    let here : slice_get raw c.loop-entry.entry-index ≡ Some entry = slice_get-get_or raw c.loop-entry.entry-index entry c.loop-entry-test.true ∙ ap Some (sym c.entry-item.is) in
    sym (ap (list_any (is_emptied c.args.domain)) (sym c.history-history.ensures)
    ∙ found (is_emptied c.args.domain) (entry_in nodes) raw c.loop-entry.entry-index entry here (sym (c.is_emptied.ensures nodes) ∙ c.if-is_emptied.true))

pub returns : goal.returns
returns c =
    let p = is_emptied c.args.domain in
    let f = entry_in c.args.snapshot.now.tree.nodes in
    sym c.loop-entry.invariant ∙ ap (list_any p) (ap (map f) (take_all c.loop-entry.entry-index c.history-history.result.now c.loop-entry-test.false) ∙ c.history-history.ensures)
