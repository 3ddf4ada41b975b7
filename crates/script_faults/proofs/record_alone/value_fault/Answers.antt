-- A record with a first fault: the text begins with its name.
use Rattle.std.proofs.Common.{◌∙◌, string_bytes}
use Rattle.serde_json.specs.View.{view}
use Rattle.script_faults.proofs.RecordSayings.{tells_fault}
use Rattle.script_faults.proofs.record_alone.value_fault.Goals as goal

pub returns : goal.returns
returns c json =
    tells_fault c.args.kind c.args.bytes.now (string_bytes c.in_ok-named.field-0) c.deref.result.now (view c.args.value.now) c.in-Some.fault json
    (c.in_ok-fault.ensures ∙ c.in-Some.is) c.in_ok-named.ensures
