-- Of a copy, to whose tree its history has led.
use Rattle.live_script.proofs.Unmet.{led_are_unmet}
use Rattle.live_script.proofs.refusal.recall_unmet.Goals as goal

pub returns : goal.returns
returns c = led_are_unmet c.headline.ensures c.numbers_stay.ensures c.legal_is_sound.ensures c.one_path.ensures c.one_forest.ensures c.args.snapshot.now c.args.domain c.recall_settled.ensures.led c.requires
