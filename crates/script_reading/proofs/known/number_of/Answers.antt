use Rattle.script_reading.proofs.TextsLemmas.{number_told}
use Rattle.script_reading.proofs.known.number_of.Goals as goal

pub returns : goal.returns
returns c = number_told c.args.actors.now.keys c.args.actor.now c.place_of.result c.len.result c.unwrap_or.result c.place_of.ensures c.len.ensures.len c.unwrap_or.ensures
