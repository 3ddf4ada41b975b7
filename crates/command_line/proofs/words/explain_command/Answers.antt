-- One argument after the other, none of them global.
use Rattle.std.proofs.Common.{◌≡◌, codes, false, rules}
use Rattle.std.proofs.lemmas.Result.{IfOk-weaker}
use Rattle.clap.specs.declared.builder.command.Command.TheViews.{out-Command as fields_of}
use Rattle.clap.specs.Words.{app_of, new_app}
use Rattle.command_line.proofs.Grown.{grown, still_local}
use Rattle.command_line.proofs.words.explain_command.Goals as goal

pub returns-clause-app : goal.returns-clause-app
returns-clause-app c =
    let named : app_of c.about.result ≡ new_app (codes "explain") = search rules in
    let with_file = grown c.in_ok-arg.ensures c.file_arg.ensures.local c.file_arg.ensures.rule named in
    let with_json = grown c.in_ok-arg-2.ensures c.json_arg.ensures.local c.json_arg.ensures.rule with_file in
    let with_strict = grown c.in_ok-arg-3.ensures c.strict_arg.ensures.local c.strict_arg.ensures.rule with_json in
    IfOk-weaker c.arg-4.result _ _ (λ x added. grown added c.page_arg.ensures.local c.page_arg.ensures.rule with_strict) c.arg-4.ensures

pub returns-clause-local : goal.returns-clause-local
returns-clause-local c =
    let none : (fields_of c.about.result).has_globals ≡ false = search rules in
    let with_file = still_local c.in_ok-arg.ensures c.file_arg.ensures.local none in
    let with_json = still_local c.in_ok-arg-2.ensures c.json_arg.ensures.local with_file in
    let with_strict = still_local c.in_ok-arg-3.ensures c.strict_arg.ensures.local with_json in
    IfOk-weaker c.arg-4.result _ _ (λ x added. still_local added c.page_arg.ensures.local with_strict) c.arg-4.ensures
