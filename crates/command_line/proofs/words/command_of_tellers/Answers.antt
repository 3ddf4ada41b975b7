-- One subcommand more.
use Rattle.command_line.specs.CommandLine.{explain_app}
use Rattle.command_line.proofs.Grown.{joined}
use Rattle.command_line.proofs.words.command_of_tellers.Goals as goal

pub returns : goal.returns
returns c =
    joined c.in_ok-command_of_players.field-0 explain_app c.explain_command.result _ c.explain_command.ensures.app c.explain_command.ensures.local c.in_ok-command_of_players.ensures c.with_subcommand.ensures
