-- One subcommand more.
use Rattle.command_line.specs.CommandLine.{run_app}
use Rattle.command_line.proofs.Grown.{joined}
use Rattle.command_line.proofs.words.command_of_runs.Goals as goal

pub returns : goal.returns
returns c =
    joined c.in_ok-jobless_command.field-0 run_app c.run_command.result _ c.run_command.ensures.app c.run_command.ensures.local c.in_ok-jobless_command.ensures c.with_subcommand.ensures
