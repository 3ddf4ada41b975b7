-- Where clap finds no fault in the words, they ask for a job.
use Rattle.std.proofs.Common.{◌≡◌, ◌||◌, ◌⊎◌, inl, inr, Bool, cond, true, false, not, refl, List, [], Option, Some, None, codes, is_some, IfSome, IsSomeAnd}
use Rattle.std.specs.Prelude.{option_map}
use Rattle.std.specs.Option.{option_map_or}
use Rattle.clap.specs.Walk.{Names, Row, Text, answers_to, first_of, nothing_held, rows_after, stop_after}
use Rattle.clap.specs.Simple.{Shape, built, built_leaf, entered, inherited, label_of, marked_built, names_of, rows_at, subcommand_of, with_leaf_noted}
use Rattle.clap.specs.Takes.{is_given}
use Rattle.clap.specs.Kinds.{check_kinds}
use Rattle.clap.specs.Faults.{check_fault, entered_fault, fault_of, level_fault}
use Rattle.command_line.specs.CommandLine.{AsksForNone, IsCheckOf, IsExplainOf, IsRunOf, IsThreadsOf, check_app, explain_app, flag_of, replay_app, run_app, threads_app}
use Rattle.command_line.proofs.Filled.{each_has_value, faults, given_is_read, level_parts}

-- the subcommands as clap builds them
unfoldable pub run_shape : Shape
run_shape = built_leaf (inherited (with_leaf_noted (marked_built replay_app.top)) run_app.top)

threads_shape : Shape
threads_shape = built_leaf (inherited (with_leaf_noted (marked_built replay_app.top)) threads_app.top)

explain_shape : Shape
explain_shape = built_leaf (inherited (with_leaf_noted (marked_built replay_app.top)) explain_app.top)

check_shape : Shape
check_shape = built_leaf (inherited (with_leaf_noted (marked_built replay_app.top)) check_app.top)

abbrev IsAskedRun : Text × List Row → Type 0
IsAskedRun e = (file : Text) × (is_json : Bool) × (proof : Option Text) × IsRunOf e file is_json proof

abbrev IsAskedThreads : Text × List Row → Type 0
IsAskedThreads e = (file : Text) × IsThreadsOf e file

abbrev IsAskedExplain : Text × List Row → Type 0
IsAskedExplain e = (file : Text) × (is_json : Bool) × (page : Option Text) × (is_strict : Bool) × IsExplainOf e file is_json page is_strict

abbrev IsAskedCheck : Text × List Row → Type 0
IsAskedCheck e = (file : Text) × (proof : Text) × IsCheckOf e file proof

abbrev IsAsked : Text × List Row → Type 0
IsAsked e = IsAskedRun e ⊎ (IsAskedThreads e ⊎ (IsAskedExplain e ⊎ IsAskedCheck e))

-- where nothing is wrong with what was found, FILE was given
file_given : (rows : List Row) → check_fault run_shape rows false ≡ [] → is_given (codes "FILE") rows ≡ true
unfolding run_shape
file_given rows none = go (is_given (codes "FILE") rows) none
  where
    go : (b : Bool) → check_kinds false false (not b || false) ≡ [] → b ≡ true
    go true fine = refl
    go false fine = absurd (faults _ refl fine)

threads_file_given : (rows : List Row) → check_fault threads_shape rows false ≡ [] → is_given (codes "FILE") rows ≡ true
unfolding threads_shape
threads_file_given rows none = go (is_given (codes "FILE") rows) none
  where
    go : (b : Bool) → check_kinds false false (not b || false) ≡ [] → b ≡ true
    go true fine = refl
    go false fine = absurd (faults _ refl fine)

explain_file_given : (rows : List Row) → check_fault explain_shape rows false ≡ [] → is_given (codes "FILE") rows ≡ true
unfolding explain_shape
explain_file_given rows none = go (is_given (codes "FILE") rows) none
  where
    go : (b : Bool) → check_kinds false false (not b || false) ≡ [] → b ≡ true
    go true fine = refl
    go false fine = absurd (faults _ refl fine)

-- both were
both_given : (rows : List Row) → check_fault check_shape rows false ≡ [] → (is_given (codes "FILE") rows ≡ true) × (is_given (codes "PROOF") rows ≡ true)
unfolding check_shape
both_given rows none = go (is_given (codes "FILE") rows) (is_given (codes "PROOF") rows) none
  where
    go : (a b : Bool) → check_kinds false false (not a || (not b || false)) ≡ [] → (a ≡ true) × (b ≡ true)
    go true true fine = (refl, refl)
    go true false fine = absurd (faults _ refl fine)
    go false b fine = absurd (faults _ refl fine)

-- the words after `run` give FILE
run_asked : (words : List Text) → level_fault run_shape [] nothing_held words false [] ≡ [] → IsAskedRun (rows_at run_shape words)
unfolding run_shape
run_asked words none =
    let given = file_given (rows_after run_shape.rules [] words) (level_parts run_shape [] words false [] none).1 in
    let read = given_is_read (codes "FILE") (rows_after run_shape.rules [] words) (each_has_value run_shape words [] refl none) given in
    let rows = rows_after run_shape.rules [] words in
    (read.0, flag_of (codes "json") rows, first_of (codes "proof") rows, (refl, read.1, refl, refl))

-- the words after `threads` give FILE
threads_asked : (words : List Text) → level_fault threads_shape [] nothing_held words false [] ≡ [] → IsAskedThreads (rows_at threads_shape words)
unfolding threads_shape
threads_asked words none =
    let given = threads_file_given (rows_after threads_shape.rules [] words) (level_parts threads_shape [] words false [] none).1 in
    let read = given_is_read (codes "FILE") (rows_after threads_shape.rules [] words) (each_has_value threads_shape words [] refl none) given in
    (read.0, (refl, read.1))

-- the words after `explain` give FILE
explain_asked : (words : List Text) → level_fault explain_shape [] nothing_held words false [] ≡ [] → IsAskedExplain (rows_at explain_shape words)
unfolding explain_shape
explain_asked words none =
    let given = explain_file_given (rows_after explain_shape.rules [] words) (level_parts explain_shape [] words false [] none).1 in
    let read = given_is_read (codes "FILE") (rows_after explain_shape.rules [] words) (each_has_value explain_shape words [] refl none) given in
    let rows = rows_after explain_shape.rules [] words in
    (read.0, flag_of (codes "json") rows, first_of (codes "page") rows, flag_of (codes "strict") rows, (refl, read.1, refl, refl, refl))

-- the words after `check` give FILE and PROOF
check_asked : (words : List Text) → level_fault check_shape [] nothing_held words false [] ≡ [] → IsAskedCheck (rows_at check_shape words)
unfolding check_shape
check_asked words none =
    let given = both_given (rows_after check_shape.rules [] words) (level_parts check_shape [] words false [] none).1 in
    let each = each_has_value check_shape words [] refl none in
    let file = given_is_read (codes "FILE") (rows_after check_shape.rules [] words) each given.0 in
    let proof = given_is_read (codes "PROOF") (rows_after check_shape.rules [] words) each given.1 in
    (file.0, proof.0, (refl, file.1, proof.1))

-- the words ask for a job
pub job_asked : (words : List Text) → fault_of replay_app words ≡ [] → IsSomeAnd (subcommand_of replay_app words) IsAsked
unfolding run_shape threads_shape explain_shape check_shape
job_asked words none =
    let parts = level_parts top names words (is_some (entered (built replay_app) stop)) (entered_fault (built replay_app) stop) none in
    by_stop stop parts.0 parts.1
  where
    top : Shape
    top = (built replay_app).top

    names : Names
    names = names_of (built replay_app)

    rows : List Row
    rows = rows_after top.rules names words

    stop : Option (Text × List Text)
    stop = stop_after top.rules names words

    -- the subcommand that a name has, where it is one of theirs
    sub : Bool → Bool → Bool → Bool → Option Shape
    sub run threads explain check = cond run (Some run_shape) (cond threads (Some threads_shape) (cond explain (Some explain_shape) (cond check (Some check_shape) None)))

    by_name : (p : Text × List Text) (a b c d : Bool) → option_map_or (λ s. level_fault s [] nothing_held p.1 false []) (sub a b c d) [] ≡ []
        → check_fault top rows (is_some (option_map (λ s. rows_at s p.1) (sub a b c d))) ≡ []
        → IsSomeAnd (option_map (λ s. rows_at s p.1) (sub a b c d)) IsAsked
    by_name p true b c d fine last = inl (run_asked p.1 fine)
    by_name p false true c d fine last = inr (inl (threads_asked p.1 fine))
    by_name p false false true d fine last = inr (inr (inl (explain_asked p.1 fine)))
    by_name p false false false true fine last = inr (inr (inr (check_asked p.1 fine)))
    by_name p false false false false fine last = absurd (faults _ refl last)

    by_stop : (o : Option (Text × List Text)) → entered_fault (built replay_app) o ≡ [] → check_fault top rows (is_some (entered (built replay_app) o)) ≡ []
        → IsSomeAnd (entered (built replay_app) o) IsAsked
    by_stop None fine last = absurd (faults _ refl last)
    by_stop (Some p) fine last = by_name p (answers_to p.0 (label_of run_shape)) (answers_to p.0 (label_of threads_shape)) (answers_to p.0 (label_of explain_shape)) (answers_to p.0 (label_of check_shape)) fine last

-- entries that ask for no job are none of those
pub none_asked : (o : Option (Text × List Row)) → IfSome o AsksForNone → IsSomeAnd o IsAsked → ⊥
none_asked None h asked = asked
none_asked (Some e) h (inl run) = h.run run.0 run.1 run.2 run.3
none_asked (Some e) h (inr (inl threads)) = h.threads threads.0 threads.1
none_asked (Some e) h (inr (inr (inl explain))) = h.explain explain.0 explain.1 explain.2 explain.3 explain.4
none_asked (Some e) h (inr (inr (inr check))) = h.check check.0 check.1 check.2
