-- Bytes give one answer, where memory is not refused, and a fault of theirs alone.
use Rattle.std.proofs.Common.{◌≡◌, ℕ, ◌<◌, ◌≤◌, List, Bool, false, Some, Result, Ok, Err, refl, sym, ◌∙◌, ap, subst, length, arith}
use Rattle.serde_json.specs.Data.{Data}
use Rattle.script_reading.specs.declared.fault.ScriptFault.{ScriptFault}
use Rattle.script_reading.specs.declared.fault.ScriptFault.TheVariants.{TooLong, NotJson}
use Rattle.script_check.specs.Laws.{FaultIsAlone, IsFed, OneAnswer, OneReport}
use Rattle.script_replay.specs.Outcome.{ReportFacts, ValueRunsTo, RunsTo, anyhow, refused, reported}
use Rattle.script_replay.specs.Report.{Certified, IsReport}
use Rattle.script_reading.specs.Script.{ScriptFacts}
use Rattle.script_reading.specs.Text.{IsJson, longest, too_long, not_json, spelled}

-- bytes spell one value
pub one_value : (bytes : List ℕ) (v w : Data) → IsJson bytes v → IsJson bytes w → w ≡ v
one_value bytes v w a b = let same : Some w ≡ Some v = sym b.spelled ∙ a.spelled in cc

same_fields : (a b : ReportFacts) → a.text ≡ b.text → a.starved ≡ b.starved → a ≡ b
same_fields a b text starved =
    let first : a ≡ record { text = b.text; starved = a.starved } = ap (λ (t : List ℕ). let r : ReportFacts = record { text = t; starved = a.starved } in r) text in
    first ∙ ap (λ (s : Bool). let r : ReportFacts = record { text = b.text; starved = s } in r) starved

-- the report of a script whose memory is not refused, with that said of it
fed_report : (script : ScriptFacts) (r : ReportFacts) (cs : List Certified) → r.starved ≡ false
    → IsReport script.platform script.calls r.text cs r.starved → IsReport script.platform script.calls r.text cs false
fed_report script r cs e report = subst (λ (s : Bool). IsReport script.platform script.calls r.text cs s) e report

-- a value gives one answer
one_said : OneReport → (value : Data) (a b : Result ReportFacts ScriptFault) → ValueRunsTo anyhow value a → ValueRunsTo anyhow value b → IsFed a → IsFed b → a ≡ b
one_said one value _ _ (refused f e) (refused g h) x y =
    let both : Err f ≡ Err g = sym e ∙ h in let same : f ≡ g = cc in ap Err same
one_said one value _ _ (refused f e) (reported script r h report) x y = let both : Err f ≡ Ok script = sym e ∙ h in absurd (cc)
one_said one value _ _ (reported script r e report) (refused g h) x y = let both : Ok script ≡ Err g = sym e ∙ h in absurd (cc)
one_said one value _ _ (reported script a e first) (reported other b h second) x y =
    let both : Ok other ≡ Ok script = sym h ∙ e in
    let same : other ≡ script = cc in
    let there : IsReport script.platform script.calls b.text second.decisions false =
    subst (λ (z : ScriptFacts). IsReport z.platform z.calls b.text second.decisions false) same (fed_report other b second.decisions y second.report) in
    ap Ok (same_fields a b (one script.platform script.calls a.text b.text first.decisions second.decisions (fed_report script a first.decisions x first.report) there) (x ∙ sym y))

too_long_alone : (n : ℕ) → longest < n → n ≤ longest → ⊥
too_long_alone n long few = absurd (omega (arith, long, few))

-- two answers of bytes are the same fault of theirs, or both of their one value
both_said : (P : Result ReportFacts ScriptFault → Result ReportFacts ScriptFault → Type 0) → ((fault : ScriptFault) → P (Err fault) (Err fault))
    → ((value : Data) (a b : Result ReportFacts ScriptFault) → ValueRunsTo anyhow value a → ValueRunsTo anyhow value b → P a b)
    → (input : List ℕ) (a b : Result ReportFacts ScriptFault) → RunsTo input a → RunsTo input b → P a b
both_said P same both input _ _ (too_long long) (too_long _) = same TooLong
both_said P same both input _ _ (too_long long) (not_json few none) = absurd (too_long_alone (length input) long few)
both_said P same both input _ b (too_long long) (spelled w few json _ said) = absurd (too_long_alone (length input) long few)
both_said P same both input _ _ (not_json few none) (too_long long) = absurd (too_long_alone (length input) long few)
both_said P same both input _ _ (not_json few none) (not_json _ _) = same NotJson
both_said P same both input _ b (not_json few none) (spelled w _ json _ said) = absurd (none w json)
both_said P same both input a _ (spelled v few json _ said) (too_long long) = absurd (too_long_alone (length input) long few)
both_said P same both input a _ (spelled v _ json _ said) (not_json few none) = absurd (none v json)
both_said P same both input a b (spelled v few json _ said) (spelled w _ json' _ said') =
    both v a b said (subst (λ (d : Data). ValueRunsTo anyhow d b) (one_value input v w json json') said')

pub one_answer : OneReport → OneAnswer
one_answer one = both_said (λ a b. IsFed a → IsFed b → a ≡ b) (λ fault x y. refl) (one_said one)

-- a value with a fault gives nothing else
fault_said : (fault : ScriptFault) (value : Data) (a b : Result ReportFacts ScriptFault) → ValueRunsTo anyhow value a → ValueRunsTo anyhow value b → a ≡ Err fault → b ≡ Err fault
fault_said fault value _ _ (refused f e) (refused g h) same =
    let both : Err g ≡ Err f = sym h ∙ e in let other : g ≡ f = cc in ap Err other ∙ same
fault_said fault value _ _ (refused f e) (reported script r h report) same = let both : Err f ≡ Ok script = sym e ∙ h in absurd (cc)
fault_said fault value _ b (reported script r e report) said same = absurd (cc)

pub fault_is_alone : FaultIsAlone
fault_is_alone input fault b first second =
    both_said (λ a b. a ≡ Err fault → b ≡ Err fault) (λ other same. same) (fault_said fault) input (Err fault) b first second refl
