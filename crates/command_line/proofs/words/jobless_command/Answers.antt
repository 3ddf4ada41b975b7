-- Its name, then its settings, one after the other; the name in usage changes none of them.
use Rattle.std.proofs.Common.{◌≡◌, codes, rules}
use Rattle.std.proofs.lemmas.Result.{IfOk-weaker}
use Rattle.clap.specs.Words.{app_of, new_app}
use Rattle.command_line.specs.CommandLine.{jobless_app}
use Rattle.command_line.proofs.words.jobless_command.Goals as goal

pub returns : goal.returns
returns c =
    let named : app_of c.about.result ≡ new_app (codes "sysmem_replay") = search rules in
    let settled : app_of c.subcommand_required-command.result ≡ jobless_app = search rules in
    IfOk-weaker c.bin_name.result _ _ (λ x is. search rules) c.bin_name.ensures
