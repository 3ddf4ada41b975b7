-- What the program's calls stand for.
use Rattle.std.specs.Prelude.{map, option_map}
use Rattle.serde_json.specs.Data.{Data}
use Rattle.serde_json.specs.View.{view}
use Rattle.script_reading.specs.declared.call.Act.{Act}
use Rattle.script_reading.specs.declared.call.Act.TheVariants.{Duplicate, Bind, SetConstraints}
use Rattle.script_reading.specs.declared.call.Act.TheVariants.{CreateGroup, CreateChild}
use Rattle.script_reading.specs.declared.call.Act.TheVariants.{AllChildrenPresent, AttachToken}
use Rattle.script_reading.specs.declared.call.Act.TheVariants.{Release, Close, Check, Wait}
use Rattle.script_reading.specs.declared.call.Call.{Call}
use Rattle.script_reading.specs.declared.form.Form.{Form}
use Rattle.script_reading.specs.declared.script.Script.{Script}
use Rattle.script_reading.specs.declared.stated.Stated.{Stated}
use Rattle.script_reading.specs.Call.{ActFacts, duplicates, binds, states, creates_group}
use Rattle.script_reading.specs.Call.{creates_child, has_all_children, attaches_token, releases}
use Rattle.script_reading.specs.Call.{closes, checks, waits, FormFacts}
use Rattle.script_reading.specs.Script.{CallFacts, ScriptFacts}

abbrev pub stated_seen : Stated → Data
stated_seen s = view s.value.now

abbrev pub act_seen : Act → ActFacts
act_seen (Duplicate name) = duplicates name.now
act_seen Bind = binds
act_seen (SetConstraints stated) = states (option_map stated_seen stated)
act_seen (CreateGroup name) = creates_group name.now
act_seen (CreateChild name) = creates_child name.now
act_seen AllChildrenPresent = has_all_children
act_seen (AttachToken name) = attaches_token name.now
act_seen Release = releases
act_seen Close = closes
act_seen Check = checks
act_seen Wait = waits

abbrev pub form_seen : Form → FormFacts
form_seen s = record { act = act_seen s.act; on = s.on.now; actor = s.actor.now }

abbrev pub call_seen : Call → CallFacts
call_seen c = record { act = act_seen c.act; on = c.on.now; place = c.place; actor = c.actor }

abbrev pub script_seen : Script → ScriptFacts
script_seen s = record { platform = s.platform; calls = map call_seen s.calls.items }
