use Rattle.std.proofs.Common.{◌∙◌, false, ap, sym, subst, None, IsSomeAnd}
use Rattle.clap.specs.Words.{fault_of, subcommand_of}
use Rattle.command_line.specs.CommandLine.{IsRunOf, replay_app}
use Rattle.command_line.proofs.Plain.{plain_asked, plain_fault}
use Rattle.command_line.proofs.words.job_asked.Goals as goal

pub returns-in-Some-clause-entries : goal.returns-in-Some-clause-entries
returns-in-Some-clause-entries c =
    subst (λ words. IsSomeAnd (subcommand_of replay_app words) (λ e. IsRunOf e c.in-Some.file.now false None)) (sym c.in-Some.ensures.two)
    (plain_asked c.in-Some.file.now c.in-Some.ensures.plain)

pub returns-in-Some-clause-kinds : goal.returns-in-Some-clause-kinds
returns-in-Some-clause-kinds c = ap (fault_of replay_app) c.in-Some.ensures.two ∙ plain_fault c.in-Some.file.now c.in-Some.ensures.plain
