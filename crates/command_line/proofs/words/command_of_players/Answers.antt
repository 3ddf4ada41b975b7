-- One subcommand more.
use Rattle.command_line.specs.CommandLine.{threads_app}
use Rattle.command_line.proofs.Grown.{joined}
use Rattle.command_line.proofs.words.command_of_players.Goals as goal

pub returns : goal.returns
returns c =
    joined c.in_ok-command_of_runs.field-0 threads_app c.threads_command.result _ c.threads_command.ensures.app c.threads_command.ensures.local c.in_ok-command_of_runs.ensures c.with_subcommand.ensures
