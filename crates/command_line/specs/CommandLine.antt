-- The command line: what clap is given of it, and which job its entries ask for.
use Rattle.std.specs.Prelude.{◌≡◌, ◌⊎◌, Bool, List, [], ◌∷◌, true, false, Option, Some, None, Result, Ok, Err, codes}
use Rattle.std.specs.Prelude.{option_map}
use Rattle.std.specs.Option.{option_map_or}
use Rattle.std.specs.Str.{bytes_eq}
use Rattle.clap.specs.declared.builder.action.ArgAction.TheVariants.{SetTrue}
use Rattle.clap.specs.Words.{App, HasKind, Kinds, Row, Rule, Shape, Text, first_of, new_app, new_rule, with_rule}
use Rattle.clap.specs.Words.{with_subcommand}
use Rattle.clap.specs.Lexer.{strip_byte}
use Rattle.clap.specs.Simple.{on_top}
use Rattle.command_line.specs.declared.words.Job.{Job}
use Rattle.command_line.specs.declared.words.Job.TheVariants.{Run, Threads, Explain, Check}
use Rattle.command_line.specs.declared.words.Refusal.{Refusal}
use Rattle.command_line.specs.declared.words.Refusal.TheVariants.{Parser, OneFile}

-- FILE, which has to be there
abbrev pub file_rule : Rule
file_rule = record (new_rule (codes "FILE")) { required = true }

-- --proof OUT, which may be left out
abbrev pub proof_rule : Rule
proof_rule = record (new_rule (codes "proof")) {
  long = Some (codes "proof");
  value_names = 1;
}

-- a flag of this name
abbrev pub new_flag : Text → Rule
new_flag name = record (new_rule name) { long = Some name; action = Some SetTrue }

-- --json, which may be left out
abbrev pub json_rule : Rule
json_rule = new_flag (codes "json")

-- run FILE [--json] [--proof OUT]
abbrev pub run_app : App
run_app = with_rule (with_rule (with_rule (new_app (codes "run")) file_rule) json_rule) proof_rule

-- threads FILE
abbrev pub threads_app : App
threads_app = with_rule (new_app (codes "threads")) file_rule

-- --strict, which may be left out
abbrev pub strict_rule : Rule
strict_rule = new_flag (codes "strict")

-- --page OUT, which may be left out
abbrev pub page_rule : Rule
page_rule = record (new_rule (codes "page")) { long = Some (codes "page"); value_names = 1 }

-- explain FILE [--json] [--strict] [--page OUT]
abbrev pub explain_app : App
explain_app = with_rule (with_rule (with_rule (with_rule (new_app (codes "explain")) file_rule)
    json_rule) strict_rule) page_rule

-- PROOF, which has to be there
abbrev pub certificate_rule : Rule
certificate_rule = record (new_rule (codes "PROOF")) { required = true }

-- check FILE PROOF
abbrev pub check_app : App
check_app = with_rule (with_rule (new_app (codes "check")) file_rule) certificate_rule

-- the words begin with no program's name, and have to name a job, or to ask for help or the
-- version
abbrev pub settings : Shape → Shape
settings s = record s {
  no_binary_name = true;
  disable_help_subcommand = true;
  subcommand_required = true;
  has_version = true;
}

-- sysmem_replay with no subcommand
abbrev pub jobless_app : App
jobless_app = on_top settings (new_app (codes "sysmem_replay"))

-- sysmem_replay with the subcommand `run` alone
abbrev pub runs_app : App
runs_app = with_subcommand jobless_app run_app.top

-- sysmem_replay with the subcommands `run` and `threads` alone
abbrev pub players_app : App
players_app = with_subcommand runs_app threads_app.top

-- sysmem_replay with every subcommand but `check`
abbrev pub tellers_app : App
tellers_app = with_subcommand players_app explain_app.top

-- sysmem_replay, with a subcommand for each job
abbrev pub replay_app : App
replay_app = with_subcommand tellers_app check_app.top

-- whether a flag was given
abbrev pub flag_of : Text → List Row → Bool
flag_of name rows = option_map_or (λ t. bytes_eq t (codes "true")) (first_of name rows) false

-- a subcommand's name and entries are `run`, this FILE, whether JSON is asked for, and this OUT or
-- none
abbrev pub IsRunOf : Text × List Row → Text → Bool → Option Text → Type 0
IsRunOf entries file is_json proof =
    (entries.0 ≡ codes "run") × (first_of (codes "FILE") entries.1 ≡ Some file)
    × (flag_of (codes "json") entries.1 ≡ is_json)
    × (first_of (codes "proof") entries.1 ≡ proof)

-- they are `threads` and this FILE
abbrev pub IsThreadsOf : Text × List Row → Text → Type 0
IsThreadsOf entries file =
    (entries.0 ≡ codes "threads") × (first_of (codes "FILE") entries.1 ≡ Some file)

-- they are `explain`, this FILE, whether JSON is asked for, this OUT or none, and whether the
-- status is to tell
abbrev pub IsExplainOf : Text × List Row → Text → Bool → Option Text → Bool → Type 0
IsExplainOf entries file is_json page is_strict =
    (entries.0 ≡ codes "explain") × (first_of (codes "FILE") entries.1 ≡ Some file)
    × (flag_of (codes "json") entries.1 ≡ is_json)
    × (first_of (codes "page") entries.1 ≡ page)
    × (flag_of (codes "strict") entries.1 ≡ is_strict)

-- they are `check`, this FILE and this PROOF
abbrev pub IsCheckOf : Text × List Row → Text → Text → Type 0
IsCheckOf entries file proof =
    (entries.0 ≡ codes "check") × (first_of (codes "FILE") entries.1 ≡ Some file)
    × (first_of (codes "PROOF") entries.1 ≡ Some proof)

-- they are this job, its files and its flags
abbrev pub AsksForJob : Text × List Row → Job → Type 0
AsksForJob entries (Run file is_json proof) =
    IsRunOf entries file.now is_json (option_map (λ s. s.now) proof)
AsksForJob entries (Threads file) = IsThreadsOf entries file.now
AsksForJob entries (Explain file is_json page is_strict) =
    IsExplainOf entries file.now is_json (option_map (λ s. s.now) page) is_strict
AsksForJob entries (Check file proof) = IsCheckOf entries file.now proof.now

-- they are no job's
pub record AsksForNone (entries : Text × List Row) : Type 0 where
  pub run : (file : Text) (is_json : Bool) (proof : Option Text)
      → ¬ IsRunOf entries file is_json proof
  pub threads : (file : Text) → ¬ IsThreadsOf entries file
  pub explain : (file : Text) (is_json : Bool) (page : Option Text) (is_strict : Bool)
      → ¬ IsExplainOf entries file is_json page is_strict
  pub check : (file proof : Text) → ¬ IsCheckOf entries file proof

-- they name this OUT: a run's certificate, or an explanation's page
abbrev pub WritesTo : Text × List Row → Text → Type 0
WritesTo entries out =
    ((entries.0 ≡ codes "run") × (first_of (codes "proof") entries.1 ≡ Some out))
    ⊎ ((entries.0 ≡ codes "explain") × (first_of (codes "page") entries.1 ≡ Some out))

-- they name one file as FILE and OUT
pub record EmptiesScript (entries : Text × List Row) : Type 0 where
  pub file : Text
  pub reads : first_of (codes "FILE") entries.1 ≡ Some file
  pub writes : WritesTo entries file

-- a job's certificate or page is to be written where its script stands
abbrev pub IsOneFile : Job → Type 0
IsOneFile (Run file is_json proof) = option_map (λ s. s.now) proof ≡ Some file.now
IsOneFile (Threads file) = ⊥
IsOneFile (Explain file is_json page is_strict) = option_map (λ s. s.now) page ≡ Some file.now
IsOneFile (Check file proof) = ⊥

-- the parser's error has one of these kinds, or is want of memory, and else there are none
abbrev pub IsRefusedBy : Kinds → Result Job Refusal → Type 0
IsRefusedBy kinds (Err (Parser error)) = HasKind kinds error
IsRefusedBy kinds (Err OneFile) = kinds ≡ []
IsRefusedBy kinds (Ok job) = kinds ≡ []

-- the words are `run` and this file, which doesn't begin with a hyphen
pub record IsPlainRun (words : List Text) (file : Text) : Type 0 where
  pub two : words ≡ codes "run" ∷ file ∷ []
  pub plain : strip_byte 45 file ≡ None
