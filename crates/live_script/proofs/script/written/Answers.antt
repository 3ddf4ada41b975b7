-- The calls of all entries are told.
use Rattle.std.proofs.Common.{◌≡◌, ◌≤◌, ◌∙◌, [], Some, ap, arith, length, length-take-le, map, refl, slice_get, subst, sym, take}
use Rattle.std.specs.List.{AllByRecursion}
use Rattle.std.proofs.lemmas.List.{length-map, take_all}
use Rattle.std.proofs.lemmas.Option.{slice_get-get_or}
use Rattle.live_script.proofs.Entries.{entry_at, mapped_more}
use Rattle.live_script.proofs.Growing.{always, few_behind, if_ok, its_node, told_more}
use Rattle.live_script.specs.Calls.{IsRead, IsToldOf}
use Rattle.live_script.specs.Script.{calls_told}
use Rattle.script_writing.specs.Script.{HasTaken, IsScriptText}
use Rattle.sysmem_alloc.specs.Entry.{entry_in}
use Rattle.live_script.proofs.script.written.Goals as goal

pub loop-entry-init : goal.loop-entry-init
loop-entry-init c = record { taken = subst (λ p. HasTaken c.in_ok-writer.writer p []) c.platform.ensures c.in_ok-writer.ensures; nodes_are = refl; read = tt }

pub put_entry-requires : goal.put_entry-requires
put_entry-requires c =
    let s = c.args.snapshot.now in
    let raw = c.history-history.result.now in
    let f = entry_in s.tree.nodes in
    let es = map f (take c.loop-entry.entry-index raw) in
    let there = its_node s.platform s.history s.tree c.loop-entry.entry-index (f c.entry-item.result) c.recall_settled.ensures.led
    (entry_at f raw s.history c.loop-entry.entry-index c.entry-item.result c.loop-entry-test.true c.entry-item.is c.history-history.ensures) in
    let many : length raw ≡ length s.history = sym (length-map raw f) ∙ ap length c.history-history.ensures in
    let few : length s.history ≤ 639 = c.few_entries.ensures s.platform s.history c.recall_settled.ensures.settled.legal in
    let long : length es ≡ c.loop-entry.entry-index = length-map (take c.loop-entry.entry-index raw) f ∙ length-take-le _ _ c.loop-entry.auto.entry-index-end in
    let at : c.loop-entry.entry-index ≤ length raw = c.loop-entry.auto.entry-index-end in
    let small : c.loop-entry.nodes ≤ 1000 = omega (arith, c.loop-entry.invariant.nodes_are, few_behind 1 es, long, at, many, few) in
    record { there = there; few = small }

pub loop-entry-preserved : goal.loop-entry-preserved
loop-entry-preserved c =
    let s = c.args.snapshot.now in
    let raw = c.history-history.result.now in
    let f = entry_in s.tree.nodes in
    let entry = c.entry-item.result in
    let es = map f (take c.loop-entry.entry-index raw) in
    let here : slice_get raw c.loop-entry.entry-index ≡ Some entry = slice_get-get_or raw c.loop-entry.entry-index entry c.loop-entry-test.true ∙ ap Some (sym c.entry-item.is) in
    let before : IsToldOf s c.loop-entry.writer c.loop-entry.nodes es = record { taken = c.loop-entry.invariant.taken; nodes_are = c.loop-entry.invariant.nodes_are; read = c.loop-entry.invariant.read } in
    subst (IsToldOf s c.put_entry.new.writer c.in_ok-nodes.nodes) (sym (mapped_more f raw c.loop-entry.entry-index entry here))
    (told_more s c.loop-entry.writer c.put_entry.new.writer c.loop-entry.nodes c.in_ok-nodes.nodes es (f entry) before (c.in_ok-nodes.ensures.put s.platform (calls_told s.names 1 es) before.taken) c.in_ok-nodes.ensures.read c.in_ok-nodes.ensures.behind)

pub returns : goal.returns
returns c =
    let s = c.args.snapshot.now in
    let raw = c.history-history.result.now in
    let f = entry_in s.tree.nodes in
    let es = map f (take c.loop-entry.entry-index raw) in
    let whole : es ≡ s.history = ap (map f) (take_all c.loop-entry.entry-index raw c.loop-entry-test.false) ∙ c.history-history.ensures in
    record {
      text = if_ok c.finish.result (λ text is. subst (λ xs. IsScriptText s.platform (calls_told s.names 1 xs) text.items) whole is) (c.finish.ensures s.platform (calls_told s.names 1 es) c.loop-entry.invariant.taken);
      read = always c.finish.result (subst (AllByRecursion IsRead) whole c.loop-entry.invariant.read);
    }
