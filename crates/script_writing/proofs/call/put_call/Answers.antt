-- What a call states is a plain record.
use Rattle.serde_json.specs.View.{view}
use Rattle.script_reading.specs.Seen.{act_seen}
use Rattle.script_writing.specs.Call.{stated_by}
use Rattle.script_writing.proofs.Growing.{plain_stated}
use Rattle.script_writing.proofs.call.put_call.Goals as goal

pub put_stated-requires : goal.put_stated-requires
put_stated-requires c = plain_stated (λ v. view v.now) c.stated_by.result (stated_by (act_seen c.args.act)) c.stated_by.ensures c.requires
