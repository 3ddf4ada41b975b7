use Rattle.std.proofs.Common.{◌≡◌, ◌∙◌, Some, ap, arith, length, map, refl, rules, slice_get}
use Rattle.std.proofs.lemmas.Option.{slice_get_read}
use Rattle.serde_json.specs.View.{view}
use Rattle.script_reading.specs.Call.{states}
use Rattle.script_reading.specs.Seen.{call_seen}
use Rattle.constraint_changes.specs.Edited.{stating}
use Rattle.constraint_changes.proofs.Stating.{stating_at}
use Rattle.constraint_changes.proofs.trials.trying.replaced.Goals as goal

pub returns : goal.returns
returns c =
    let copied = c.in_ok-copy.copy.items in
    let at : slice_get copied c.args.place ≡ Some c.index_mut.result.now =
    slice_get_read copied (length copied) c.args.place c.index_mut.result.now refl (omega (arith, ap (λ xs. length xs) c.in_ok-copy.ensures.items)) (search rules) in
    stating_at copied c.args.place c.index_mut.result.now _ (view c.args.value.now) at
    (ap (λ v. record (call_seen c.index_mut.result.now) { act = states (Some (view v)) }) c.of.ensures)
    ∙ ap (λ cs. stating (map call_seen cs) c.args.place (view c.args.value.now)) c.in_ok-copy.ensures.items
