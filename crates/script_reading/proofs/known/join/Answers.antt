use Rattle.script_reading.proofs.TextsLemmas.{actors_joined}
use Rattle.script_reading.proofs.known.join.Goals as goal

pub returns : goal.returns
returns c = actors_joined c.args.actors.now.keys c.insert.new.self.keys c.args.actor c.len.result c.in_ok-insert.ensures.keys c.len.ensures.len
