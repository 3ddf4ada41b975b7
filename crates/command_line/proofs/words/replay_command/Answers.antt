-- One subcommand more.
use Rattle.command_line.specs.CommandLine.{check_app}
use Rattle.command_line.proofs.Grown.{joined}
use Rattle.command_line.proofs.words.replay_command.Goals as goal

pub returns : goal.returns
returns c =
    joined c.in_ok-command_of_tellers.field-0 check_app c.check_command.result _ c.check_command.ensures.app c.check_command.ensures.local c.in_ok-command_of_tellers.ensures c.with_subcommand.ensures
