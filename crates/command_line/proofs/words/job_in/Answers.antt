use Rattle.std.proofs.Common.{◌≡◌, ◌∙◌, ap, sym, codes, option_map, Some, None}
use Rattle.clap.specs.Words.{first_of, found_of, rows_of}
use Rattle.clap.proofs.WalkLemmas.{first_value-rows}
use Rattle.command_line.specs.CommandLine.{AsksForNone, IsCheckOf, IsExplainOf, IsRunOf, IsThreadsOf}
use Rattle.command_line.proofs.Entries.{entered_is, none_entered, some_entered, some≢none}
use Rattle.command_line.proofs.words.job_in.Goals as goal

check_or_run : codes "check" ≡ codes "run" → ⊥
check_or_run e = absurd (cc)

check_or_threads : codes "check" ≡ codes "threads" → ⊥
check_or_threads e = absurd (cc)

check_or_explain : codes "check" ≡ codes "explain" → ⊥
check_or_explain e = absurd (cc)

pub returns-in_err-file-in-run-clause-none : goal.returns-in_err-file-in-run-clause-none
returns-in_err-file-in-run-clause-none c =
    let rows = rows_of (found_of c.in_ok-name.entries.now) in
    let unread : first_of (codes "FILE") rows ≡ None =
    sym (first_value-rows (found_of c.in_ok-name.entries.now) (codes "FILE")) ∙ sym c.get_str.ensures ∙ ap (option_map (λ s. s.now)) (c.in_err-file-in-run.was) in
    none_entered _ c.args.matches.now (c.in_ok-name.name.now, rows) AsksForNone
    (entered_is c.args.matches.now c.in_ok-name.name.now rows c.in_ok-name.ensures.name c.in_ok-name.ensures.rows)
    (record { run = λ file json proof h. some≢none file (sym h.1 ∙ unread); threads = λ file h. some≢none file (sym h.1 ∙ unread); explain = λ file json page strict h. some≢none file (sym h.1 ∙ unread); check = λ file proof h. some≢none file (sym h.1 ∙ unread) })

pub returns-in_ok-file-in-run-clause-some : goal.returns-in_ok-file-in-run-clause-some
returns-in_ok-file-in-run-clause-some c =
    let rows = rows_of (found_of c.in_ok-name.entries.now) in
    let file = c.in_ok-file-in-run.file.now in
    let out = option_map (λ s. s.now) c.get_str-proof.result in
    let read : first_of (codes "FILE") rows ≡ Some file =
    sym (first_value-rows (found_of c.in_ok-name.entries.now) (codes "FILE")) ∙ sym c.get_str.ensures ∙ ap (option_map (λ s. s.now)) (c.in_ok-file-in-run.was) in
    let kept : first_of (codes "proof") rows ≡ out =
    sym (first_value-rows (found_of c.in_ok-name.entries.now) (codes "proof")) ∙ sym c.get_str-proof.ensures in
    some_entered c.args.matches.now (c.in_ok-name.name.now, rows) (λ e. IsRunOf e file c.is_set-is_json.result out)
    (entered_is c.args.matches.now c.in_ok-name.name.now rows c.in_ok-name.ensures.name c.in_ok-name.ensures.rows) (c.in-run.is, read, sym c.is_set-is_json.ensures, kept)

pub returns-in_err-file-in-threads-clause-none : goal.returns-in_err-file-in-threads-clause-none
returns-in_err-file-in-threads-clause-none c =
    let rows = rows_of (found_of c.in_ok-name.entries.now) in
    let unread : first_of (codes "FILE") rows ≡ None =
    sym (first_value-rows (found_of c.in_ok-name.entries.now) (codes "FILE")) ∙ sym c.get_str-in-threads.ensures ∙ ap (option_map (λ s. s.now)) (c.in_err-file-in-threads.was) in
    none_entered _ c.args.matches.now (c.in_ok-name.name.now, rows) AsksForNone
    (entered_is c.args.matches.now c.in_ok-name.name.now rows c.in_ok-name.ensures.name c.in_ok-name.ensures.rows)
    (record { run = λ file json proof h. some≢none file (sym h.1 ∙ unread); threads = λ file h. some≢none file (sym h.1 ∙ unread); explain = λ file json page strict h. some≢none file (sym h.1 ∙ unread); check = λ file proof h. some≢none file (sym h.1 ∙ unread) })

pub returns-in_ok-file-in-threads-clause-some : goal.returns-in_ok-file-in-threads-clause-some
returns-in_ok-file-in-threads-clause-some c =
    let rows = rows_of (found_of c.in_ok-name.entries.now) in
    let file = c.in_ok-file-in-threads.file.now in
    let read : first_of (codes "FILE") rows ≡ Some file =
    sym (first_value-rows (found_of c.in_ok-name.entries.now) (codes "FILE")) ∙ sym c.get_str-in-threads.ensures ∙ ap (option_map (λ s. s.now)) (c.in_ok-file-in-threads.was) in
    some_entered c.args.matches.now (c.in_ok-name.name.now, rows) (λ e. IsThreadsOf e file)
    (entered_is c.args.matches.now c.in_ok-name.name.now rows c.in_ok-name.ensures.name c.in_ok-name.ensures.rows) (c.in-threads.is, read)

pub returns-in_err-file-in-explain-clause-none : goal.returns-in_err-file-in-explain-clause-none
returns-in_err-file-in-explain-clause-none c =
    let rows = rows_of (found_of c.in_ok-name.entries.now) in
    let unread : first_of (codes "FILE") rows ≡ None =
    sym (first_value-rows (found_of c.in_ok-name.entries.now) (codes "FILE")) ∙ sym c.get_str-in-explain.ensures ∙ ap (option_map (λ s. s.now)) (c.in_err-file-in-explain.was) in
    none_entered _ c.args.matches.now (c.in_ok-name.name.now, rows) AsksForNone
    (entered_is c.args.matches.now c.in_ok-name.name.now rows c.in_ok-name.ensures.name c.in_ok-name.ensures.rows)
    (record { run = λ file json proof h. some≢none file (sym h.1 ∙ unread); threads = λ file h. some≢none file (sym h.1 ∙ unread); explain = λ file json page strict h. some≢none file (sym h.1 ∙ unread); check = λ file proof h. some≢none file (sym h.1 ∙ unread) })

pub returns-in_ok-file-in-explain-clause-some : goal.returns-in_ok-file-in-explain-clause-some
returns-in_ok-file-in-explain-clause-some c =
    let rows = rows_of (found_of c.in_ok-name.entries.now) in
    let file = c.in_ok-file-in-explain.file.now in
    let read : first_of (codes "FILE") rows ≡ Some file =
    sym (first_value-rows (found_of c.in_ok-name.entries.now) (codes "FILE")) ∙ sym c.get_str-in-explain.ensures ∙ ap (option_map (λ s. s.now)) (c.in_ok-file-in-explain.was) in
    let page = option_map (λ s. s.now) c.get_str-page.result in
    let kept : first_of (codes "page") rows ≡ page =
    sym (first_value-rows (found_of c.in_ok-name.entries.now) (codes "page")) ∙ sym c.get_str-page.ensures in
    some_entered c.args.matches.now (c.in_ok-name.name.now, rows) (λ e. IsExplainOf e file c.is_set-is_json-in-explain.result page c.is_set-is_strict.result)
    (entered_is c.args.matches.now c.in_ok-name.name.now rows c.in_ok-name.ensures.name c.in_ok-name.ensures.rows) (c.in-explain.is, read, sym c.is_set-is_json-in-explain.ensures, kept, sym c.is_set-is_strict.ensures)

pub returns-in_err-file-in-check-clause-none : goal.returns-in_err-file-in-check-clause-none
returns-in_err-file-in-check-clause-none c =
    let rows = rows_of (found_of c.in_ok-name.entries.now) in
    let unread : first_of (codes "FILE") rows ≡ None =
    sym (first_value-rows (found_of c.in_ok-name.entries.now) (codes "FILE")) ∙ sym c.get_str-in-check.ensures ∙ ap (option_map (λ s. s.now)) (c.in_err-file-in-check.was) in
    none_entered _ c.args.matches.now (c.in_ok-name.name.now, rows) AsksForNone
    (entered_is c.args.matches.now c.in_ok-name.name.now rows c.in_ok-name.ensures.name c.in_ok-name.ensures.rows)
    (record { run = λ file json proof h. some≢none file (sym h.1 ∙ unread); threads = λ file h. some≢none file (sym h.1 ∙ unread); explain = λ file json page strict h. some≢none file (sym h.1 ∙ unread); check = λ file proof h. some≢none file (sym h.1 ∙ unread) })

pub returns-in_err-proof-in-check-clause-none : goal.returns-in_err-proof-in-check-clause-none
returns-in_err-proof-in-check-clause-none c =
    let rows = rows_of (found_of c.in_ok-name.entries.now) in
    let unread : first_of (codes "PROOF") rows ≡ None =
    sym (first_value-rows (found_of c.in_ok-name.entries.now) (codes "PROOF")) ∙ sym c.get_str-in-check-2.ensures ∙ ap (option_map (λ s. s.now)) (c.in_err-proof-in-check.was) in
    none_entered _ c.args.matches.now (c.in_ok-name.name.now, rows) AsksForNone
    (entered_is c.args.matches.now c.in_ok-name.name.now rows c.in_ok-name.ensures.name c.in_ok-name.ensures.rows)
    (record { run = λ file json proof h. check_or_run (sym c.in-check.is ∙ h.0); threads = λ file h. check_or_threads (sym c.in-check.is ∙ h.0); explain = λ file json page strict h. check_or_explain (sym c.in-check.is ∙ h.0); check = λ file proof h. some≢none proof (sym h.2 ∙ unread) })

pub returns-in_ok-proof-in-check-clause-some : goal.returns-in_ok-proof-in-check-clause-some
returns-in_ok-proof-in-check-clause-some c =
    let rows = rows_of (found_of c.in_ok-name.entries.now) in
    let file = c.in_ok-file-in-check.file.now in
    let proof = c.in_ok-proof-in-check.proof.now in
    let read : first_of (codes "FILE") rows ≡ Some file =
    sym (first_value-rows (found_of c.in_ok-name.entries.now) (codes "FILE")) ∙ sym c.get_str-in-check.ensures ∙ ap (option_map (λ s. s.now)) (c.in_ok-file-in-check.was) in
    let kept : first_of (codes "PROOF") rows ≡ Some proof =
    sym (first_value-rows (found_of c.in_ok-name.entries.now) (codes "PROOF")) ∙ sym c.get_str-in-check-2.ensures ∙ ap (option_map (λ s. s.now)) (c.in_ok-proof-in-check.was) in
    some_entered c.args.matches.now (c.in_ok-name.name.now, rows) (λ e. IsCheckOf e file proof)
    (entered_is c.args.matches.now c.in_ok-name.name.now rows c.in_ok-name.ensures.name c.in_ok-name.ensures.rows) (c.in-check.is, read, kept)
