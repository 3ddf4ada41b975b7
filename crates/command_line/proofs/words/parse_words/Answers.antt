use Rattle.std.proofs.Common.{◌≡◌, ◌∙◌, ap, sym, subst, map, string_bytes, [], IfSome}
use Rattle.clap.specs.Words.{app_of, fault_of}
use Rattle.clap.specs.Faults.{is_simple_and_free}
use Rattle.command_line.specs.CommandLine.{AsksForNone, replay_app}
use Rattle.clap.specs.Words.{HasKind, is_simple, subcommand_of, subcommand_rows_of}
use Rattle.clap.proofs.FaultLemmas.{failed_up}
use Rattle.command_line.proofs.Asked.{job_asked, none_asked}
use Rattle.command_line.proofs.words.parse_words.Goals as goal

pub returns-clause-kinds : goal.returns-clause-kinds
returns-clause-kinds c =
    let app : app_of c.in_ok-command.command ≡ replay_app = c.in_ok-command.ensures in
    ap (λ a. fault_of a (map string_bytes c.args.words.now)) (sym app) ∙ c.in_ok-matches.ensures.kinds (ap is_simple_and_free app)

pub returns-in_err-matches-clause-kinds : goal.returns-in_err-matches-clause-kinds
returns-in_err-matches-clause-kinds c =
    let app : app_of c.in_ok-command.command ≡ replay_app = c.in_ok-command.ensures in
    failed_up c.from_residual-in_err-matches.result _ _ _ c.from_residual-in_err-matches.ensures.1
    (subst (λ a. HasKind (fault_of a (map string_bytes c.args.words.now)) c.in_err-matches.field-0.0) app (c.in_err-matches.ensures.kinds (ap is_simple_and_free app)))

pub unreachable-requires : goal.unreachable-requires
unreachable-requires c =
    let app : app_of c.in_ok-command.command ≡ replay_app = c.in_ok-command.ensures in
    let words = map string_bytes c.args.words.now in
    let fine : fault_of replay_app words ≡ [] = ap (λ a. fault_of a words) (sym app) ∙ c.in_ok-matches.ensures.kinds (ap is_simple_and_free app) in
    let rows : subcommand_rows_of c.in_ok-matches.matches ≡ subcommand_of replay_app words =
    (c.in_ok-matches.ensures.ok.2 (ap is_simple app)).1 ∙ ap (λ a. subcommand_of a words) app in
    let unasked : IfSome (subcommand_rows_of c.in_ok-matches.matches) AsksForNone = c.in-None.ensures.none in
    none_asked (subcommand_of replay_app words) (subst (λ o. IfSome o AsksForNone) rows unasked) (job_asked words fine)
