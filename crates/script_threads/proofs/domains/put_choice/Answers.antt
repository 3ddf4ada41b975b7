use Rattle.std.proofs.Common.{false}
use Rattle.script_threads.specs.Text.{chose}
use Rattle.script_threads.proofs.Lines.{line_put}
use Rattle.script_threads.proofs.domains.put_choice.Goals as goal

pub returns-in-Ok : goal.returns-in-Ok
returns-in-Ok c =
    line_put c.put_chosen.result c.args.text.now c.put_chosen.new.text false c.args.path.now _ (chose c.args.platform.now c.args.chosen.now c.in-Ok.corner (rw c.settings-settings.ensures at c.in-Ok.ensures.corner)) c.put_chosen.ensures
