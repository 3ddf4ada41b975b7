-- A job that doesn't write where its script stands keeps it, and one that does empties it.
use Rattle.std.proofs.Common.{rules, map, string_bytes}
use Rattle.clap.specs.Words.{subcommand_of}
use Rattle.command_line.specs.CommandLine.{replay_app}
use Rattle.command_line.proofs.Emptied.{emptied_by, kept_apart}
use Rattle.command_line.proofs.words.read_words.Goals as goal

pub returns-in-Ok-2-clause-entries : goal.returns-in-Ok-2-clause-entries
returns-in-Ok-2-clause-entries c =
    kept_apart (subcommand_of replay_app (map string_bytes c.args.words.now)) c.in-Ok.job c.in-Ok.ensures.entries (search rules)

pub returns-in-Ok-clause-one_file : goal.returns-in-Ok-clause-one_file
returns-in-Ok-clause-one_file c =
    λ same. emptied_by _ c.in-Ok.job c.in-Ok.ensures.entries (c.is_one_file.ensures.0 c.if-is_one_file.true)
