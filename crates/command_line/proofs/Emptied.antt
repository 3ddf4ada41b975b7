-- Words empty their script where the job is to write where the script stands, and else not.
use Rattle.std.proofs.Common.{◌≡◌, ◌∙◌, ℕ, inl, inr, refl, sym, ap, arith, slice_index, codes, List, Option, Some, None, IsSomeAnd}
use Rattle.clap.specs.Words.{Row, Text}
use Rattle.command_line.specs.CommandLine.{AsksForJob, EmptiesScript, IsOneFile}
use Rattle.command_line.specs.declared.words.Job.{Job}
use Rattle.command_line.specs.declared.words.Job.TheVariants.{Run, Threads, Explain, Check}

run_or_explain : codes "run" ≡ codes "explain" → ⊥
run_or_explain e = absurd (cc)

run_or_threads : codes "run" ≡ codes "threads" → ⊥
run_or_threads e = absurd (cc)

run_or_check : codes "run" ≡ codes "check" → ⊥
run_or_check e = absurd (cc)

-- an e is no t
apart : (a b : ℕ) → a ≡ 101 → b ≡ 116 → a ≡ b → ⊥
apart a b e t same = absurd (omega (arith, e, t, same))

explain_or_threads : codes "explain" ≡ codes "threads" → ⊥
explain_or_threads e = apart (slice_index (codes "explain") 0) (slice_index (codes "threads") 0) refl refl (ap (λ t. slice_index t 0) e)

explain_or_check : codes "explain" ≡ codes "check" → ⊥
explain_or_check e = absurd (cc)

not_emptied : (entries : Text × List Row) (job : Job) → AsksForJob entries job → ¬ IsOneFile job → ¬ EmptiesScript entries
not_emptied entries (Run file is_json proof) asks apart h = elim h.writes [
  | inl run ↦ apart (sym asks.3 ∙ run.1 ∙ sym h.reads ∙ asks.1)
  | inr explain ↦ run_or_explain (sym asks.0 ∙ explain.0)
]
not_emptied entries (Threads file) asks apart h = elim h.writes [
  | inl run ↦ run_or_threads (sym run.0 ∙ asks.0)
  | inr explain ↦ explain_or_threads (sym explain.0 ∙ asks.0)
]
not_emptied entries (Explain file is_json page is_strict) asks apart h = elim h.writes [
  | inl run ↦ run_or_explain (sym run.0 ∙ asks.0)
  | inr explain ↦ apart (sym asks.3 ∙ explain.1 ∙ sym h.reads ∙ asks.1)
]
not_emptied entries (Check file proof) asks apart h = elim h.writes [
  | inl run ↦ run_or_check (sym run.0 ∙ asks.0)
  | inr explain ↦ explain_or_check (sym explain.0 ∙ asks.0)
]

-- entries that ask for a job that doesn't write where its script stands empty no script
pub kept_apart : (o : Option (Text × List Row)) (job : Job) → IsSomeAnd o (λ e. AsksForJob e job) → ¬ IsOneFile job
    → IsSomeAnd o (λ e. AsksForJob e job × ¬ EmptiesScript e)
kept_apart None job h apart = h
kept_apart (Some e) job h apart = (h, not_emptied e job h apart)

emptied : (entries : Text × List Row) (job : Job) → AsksForJob entries job → IsOneFile job → EmptiesScript entries
emptied entries (Run file is_json proof) asks one = record { file = file.now; reads = asks.1; writes = inl (asks.0, asks.3 ∙ one) }
emptied entries (Threads file) asks one = absurd one
emptied entries (Explain file is_json page is_strict) asks one = record { file = file.now; reads = asks.1; writes = inr (asks.0, asks.3 ∙ one) }
emptied entries (Check file proof) asks one = absurd one

-- entries that ask for a job that writes where its script stands empty it
pub emptied_by : (o : Option (Text × List Row)) (job : Job) → IsSomeAnd o (λ e. AsksForJob e job) → IsOneFile job → IsSomeAnd o EmptiesScript
emptied_by None job h one = h
emptied_by (Some e) job h one = emptied e job h one
