use Rattle.script_replay.proofs.Texts.{five}
use Rattle.script_replay.proofs.domain_line.put_chosen_text.Goals as goal

pub returns : goal.returns
returns c =
    let selection = rw (c.choices.ensures, c.selection.ensures) at c.in_ok-put_selection.ensures in
    let settings = rw c.settings.ensures at c.in_ok-put_settings.ensures in
    let image = rw c.settings-2.ensures at c.in_ok-put_image.ensures in
    five _ _ _ _ _ _ _ _ _ _ _ c.in_ok-push_str.ensures.bytes selection c.in_ok-push_str-2.ensures.bytes settings image
