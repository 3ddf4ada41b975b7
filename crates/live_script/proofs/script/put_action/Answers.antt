-- What is put is the call that is told of the action.
use Rattle.std.proofs.Common.{◌≡◌, ◌∙◌, ◌++◌, ◌∷◌, [], Bor, List, ap, subst, sym, ℕ}
use Rattle.std.specs.Prelude.{option_map}
use Rattle.live_script.proofs.Growing.{ref_mapped, same_call}
use Rattle.live_script.proofs.Told.{states_record}
use Rattle.live_script.specs.Script.{act_told, actor_told, asked_by, called}
use Rattle.node_names.specs.Names.{NamedNode}
use Rattle.record_laws.specs.Sparse.{participant_written}
use Rattle.script_reading.specs.Seen.{act_seen}
use Rattle.script_writing.specs.Call.{StatesRecord, WrittenCall}
use Rattle.script_writing.specs.Script.{HasTaken}
use Rattle.serde_json.specs.View.{view}
use Rattle.sysmem_alloc.specs.Entry.{deed_with}
use Rattle.sysmem_tree.specs.Domain.{TreeFacts}
use Rattle.verdict_claims.specs.Asked.{asks_at}
use Rattle.live_script.proofs.script.put_action.Goals as goal

pub put-requires : goal.put-requires
put-requires c =
    let s = c.args.snapshot.now in
    let set = asks_at s.tree.nodes c.args.node in
    let made = c.deref.ensures ∙ c.in_ok-made.ensures ∙ ap (λ (ns : List NamedNode). called ns c.args.nodes) c.names-names.ensures in
    let stated = ref_mapped view c.as_ref.result c.in_ok-record.record c.as_ref.ensures.value ∙ c.in_ok-record.ensures.written
    ∙ ap (λ (t : TreeFacts). option_map participant_written (asked_by (deed_with (asks_at t.nodes c.args.node) c.args.kind))) c.tree-tree.ensures in
    subst StatesRecord (sym (c.act_of-act.ensures s.names c.args.nodes set made stated)) (states_record s.names c.args.nodes (deed_with set c.args.kind))

pub returns-clause-put : goal.returns-clause-put
returns-clause-put c = λ platform calls taken.
    let s = c.args.snapshot.now in
    let set = asks_at s.tree.nodes c.args.node in
    let made = c.deref.ensures ∙ c.in_ok-made.ensures ∙ ap (λ (ns : List NamedNode). called ns c.args.nodes) c.names-names.ensures in
    let stated = ref_mapped view c.as_ref.result c.in_ok-record.record c.as_ref.ensures.value ∙ c.in_ok-record.ensures.written
    ∙ ap (λ (t : TreeFacts). option_map participant_written (asked_by (deed_with (asks_at t.nodes c.args.node) c.args.kind))) c.tree-tree.ensures in
    let act = c.act_of-act.ensures s.names c.args.nodes set made stated in
    let on : c.deref-2.result.now ≡ called s.names c.args.node =
    c.deref-2.ensures ∙ c.in_ok-on.ensures ∙ ap (λ (ns : List NamedNode). called ns c.number_of-number.result) c.names-names.ensures ∙ ap (called s.names) c.number_of-number.ensures.number in
    let actor : option_map (λ (one : Bor (List ℕ)). one.now) c.actor_of.result ≡ actor_told s.names c.args.node =
    c.actor_of.ensures ∙ ap (λ (ns : List NamedNode). actor_told ns c.number_of-number.result) c.names-names.ensures ∙ ap (actor_told s.names) c.number_of-number.ensures.number in
    subst (λ (k : WrittenCall). HasTaken c.put.new.self platform (calls ++ k ∷ []))
    (same_call (act_seen c.act_of-act.result) (act_told s.names c.args.nodes (deed_with set c.args.kind)) c.deref-2.result.now (called s.names c.args.node) (option_map (λ (one : Bor (List ℕ)). one.now) c.actor_of.result) (actor_told s.names c.args.node)
    act on actor) (c.in_ok-put.ensures platform calls taken)
