use Rattle.std.proofs.Common.{◌∙◌, ap, map, subst}
use Rattle.serde_json.specs.View.{view}
use Rattle.script_reading.specs.Seen.{call_seen}
use Rattle.constraint_changes.specs.Edited.{IsEdited, stating}
use Rattle.constraint_changes.proofs.Promises.{edited_none, edited_more}
use Rattle.constraint_changes.proofs.trials.editing.edited_calls.Goals as goal

pub loop-edit-init : goal.loop-edit-init
loop-edit-init c = edited_none c.args.heaps.now c.args.calls.now c.in_ok-made.made.items c.in_ok-made.ensures.items

pub loop-edit-preserved : goal.loop-edit-preserved
loop-edit-preserved c =
    let x = c.edit-item.result in
    let d = view x.value in
    edited_more c.args.heaps.now (map call_seen c.args.calls.now) (map call_seen c.loop-edit.made.items) (map call_seen c.in_ok-next.next.items) c.args.edits.now c.loop-edit.edit-index x d
    c.loop-edit-test.true c.edit-item.is c.loop-edit.invariant
    (subst (λ cs. IsEdited c.args.heaps.now (map call_seen cs) x.place x.changes.items (stating (map call_seen cs) x.place d)) c.deref.ensures.value
    (subst (λ changes. IsEdited c.args.heaps.now (map call_seen c.deref.result.now) x.place changes (stating (map call_seen c.deref.result.now) x.place d)) c.deref-in-loop-edit.ensures.value
    (c.in_ok-is_edit.ensures c.if-not-branch.false)))
    (c.in_ok-next.ensures ∙ ap (λ cs. stating (map call_seen cs) x.place d) c.deref-in-loop-edit-2.ensures.value)
