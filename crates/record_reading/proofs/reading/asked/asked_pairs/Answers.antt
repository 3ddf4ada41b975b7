use Rattle.std.proofs.Common.{rules}
use Rattle.serde_json.specs.View.{view}
use Rattle.record_reading.proofs.Refusals.{reads-further}
use Rattle.record_reading.proofs.reading.asked.asked_pairs.Goals as goal

pub returns-in-Some : goal.returns-in-Some
returns-in-Some c =
    reads-further c.args.entries.now (view c.args.object.now) c.in_ok-own.own.items _ c.in_ok-own.ensures (search rules)
