-- What a check of a file says of its inputs, from what it says of the bytes that it read.
use Rattle.std.proofs.lemmas.Bool.{cases_order}
use Rattle.std.proofs.Common.{◌≡◌, ◌≢◌, inl, inr, ℕ, ◌≤◌, ◌++◌, List, [], length, Option, Some, None, Result, Ok, Err, refl, sym, ap, subst, arith, length-append}
use Rattle.std.specs.Prelude.{◌↔◌, IfErr, IfOk, IfSome}
use Rattle.std.specs.String.{string_bytes}
use Rattle.std.specs.Io.KnownBytes.{Appends}
use Rattle.byte_transfer.specs.Transfer.{ReadsToLimit, WritesFront}
use Rattle.serde_json.specs.Data.{Data}
use Rattle.serde_json.specs.View.{view}
use Rattle.serde_json.specs.declared.value.Value.{Value}
use Rattle.script_reading.specs.declared.fault.ParseFault.{ParseFault}
use Rattle.script_reading.specs.declared.fault.ParseFault.TheVariants as parsing
use Rattle.script_reading.specs.declared.fault.ScriptFault.{ScriptFault}
use Rattle.script_reading.specs.declared.script.Script.{Script as Read}
use Rattle.script_reading.specs.Faults.{Gives, GivesOneOf}
use Rattle.script_reading.specs.Script.{ScriptFacts, script_of}
use Rattle.script_reading.specs.Seen.{script_seen}
use Rattle.script_reading.specs.Text.{IsJson, IsValue, Outcome, longest, not_json, spelled, too_long}
use Rattle.script_check.specs.declared.checked_file.CheckAnswer.{CheckAnswer}
use Rattle.script_check.specs.declared.checked_file.CheckReply.{CheckReply}
use Rattle.script_check.specs.declared.checked_file.CheckAnswer.TheVariants as answers
use Rattle.script_replay.specs.declared.decider.Objection.{Objection}
use Rattle.script_run.specs.declared.fault.Disagreement.{Disagreement}
use Rattle.script_run.specs.declared.fault.RunFault.{RunFault}
use Rattle.script_run.specs.declared.fault.RunFault.TheVariants.{Audit, NoMemory, Proof, Script, Write}
use Rattle.script_run.specs.declared.fault.RunFault.TheVariants as faults
use Rattle.script_run.specs.declared.running.RunOutcome.{RunOutcome}
use Rattle.script_run.specs.declared.running.RunOutcome.TheVariants.{CheckedNo, Done}
use Rattle.script_check.specs.CheckedFile.{AnswersIn, ChecksTo, HasChecked, IfBoth, IsListOf, IsNoList, IsRefusal, IsUnchecked, ProofIsRefused, IsScriptOf, IsValueOf}
use Rattle.script_run.specs.Faults.{fault_of_parse}
use Rattle.script_replay.specs.Outcome.{RunsTo, anyhow, refused}
use Rattle.script_run.specs.Run.{IsCausedBy, WritesText, WritesTextPart, both_counts, in_first}
use Rattle.script_run.proofs.CallerLemmas.{Appends-nothing, runs-input, whole-read}

-- ---- from bytes to values

-- bytes that spell a value
value_of : (bytes : List ℕ) (d : Data) (said : Result Data ScriptFault) → said ≡ Ok d → Outcome IsValue bytes said → IsValueOf bytes d
value_of bytes d _ e (too_long long) = absurd (cc)
value_of bytes d _ e (not_json short none) = absurd (cc)
value_of bytes d _ e (spelled value short json _ is) =
    let same : value ≡ d = cc in
    record { short = short; json = subst (IsJson bytes) same json }

pub spells_value : (bytes : List ℕ) (d : Data) → Outcome IsValue bytes (Ok d) → IsValueOf bytes d
spells_value bytes d said = value_of bytes d (Ok d) refl said

-- bytes that spell none
none_of : (bytes : List ℕ) (said : Result Data ScriptFault) (fault : ScriptFault) → said ≡ Err fault → Outcome IsValue bytes said → IsNoList bytes
none_of bytes _ fault e (too_long long) objects listed = absurd (omega (arith, long, listed.spells.short))
none_of bytes _ fault e (not_json short none) objects listed = none listed.value listed.spells.json
none_of bytes _ fault e (spelled value short json _ is) objects listed = absurd (cc)

pub spells_none : (bytes : List ℕ) (fault : ScriptFault) → Outcome IsValue bytes (Err fault) → IsNoList bytes
spells_none bytes fault said = none_of bytes (Err fault) fault refl said

-- a fault of the bytes of a script
fault_of : (bytes : List ℕ) (said : Result Data ScriptFault) (fault : ScriptFault) → said ≡ Err fault → Outcome IsValue bytes said → RunsTo bytes (Err fault)
fault_of bytes _ fault e (too_long long) = let same : _ ≡ fault = cc in subst (λ f. RunsTo bytes (Err f)) same (too_long long)
fault_of bytes _ fault e (not_json short none) = let same : _ ≡ fault = cc in subst (λ f. RunsTo bytes (Err f)) same (not_json short none)
fault_of bytes _ fault e (spelled value short json _ is) = absurd (cc)

-- a fault of their value
value_fault : (bytes : List ℕ) (d : Data) (fault : ScriptFault) → IsValueOf bytes d → script_of d ≡ Err fault → RunsTo bytes (Err fault)
value_fault bytes d fault spells e = spelled d spells.short spells.json (Err fault) (refused fault e)

-- ---- bytes that are there

module _ (bytes certificate : List ℕ) where
  -- what is said of a script's fault, or of want of memory
  no-value : (fault : ParseFault) → GivesOneOf {X = Value} {A = Data} view (Err fault) (Outcome IsValue bytes) → IsUnchecked bytes certificate (fault_of_parse fault)
  no-value parsing.NoMemory said = tt
  no-value (parsing.Refused fault) said = fault_of bytes (Err fault) fault refl said

  -- no JSON, or no memory for the value
  pub unspelled-bytes : (fault : ParseFault) (result : Result CheckReply RunFault) → result ≡ Err (fault_of_parse fault) → GivesOneOf {X = Value} {A = Data} view (Err fault) (Outcome IsValue bytes)
      → IfErr result (IsUnchecked bytes certificate)
  unspelled-bytes fault result e said = rw e (no-value fault said)

  module _ (d : Data) where
    no-script : (fault : ParseFault) → Outcome IsValue bytes (Ok d) → Gives {X = Read} {A = ScriptFacts} script_seen (Err fault) (script_of d) → IsUnchecked bytes certificate (fault_of_parse fault)
    no-script parsing.NoMemory spells said = tt
    no-script (parsing.Refused fault) spells said = value_fault bytes d fault (spells_value bytes d spells) said

    -- no script, or no memory for it
    pub unread-bytes : (fault : ParseFault) (result : Result CheckReply RunFault) → result ≡ Err (fault_of_parse fault) → Outcome IsValue bytes (Ok d)
        → Gives {X = Read} {A = ScriptFacts} script_seen (Err fault) (script_of d) → IfErr result (IsUnchecked bytes certificate)
    unread-bytes fault result e spells said = rw e (no-script fault spells said)

    module _ (script : ScriptFacts) where
      bytes-of : Outcome IsValue bytes (Ok d) → script_of d ≡ Ok script → IsScriptOf bytes script
      bytes-of spells says = record { value = d; spells = spells_value bytes d spells; says = says }

      -- a script's, with an answer
      pub is-answered : (result : Result CheckReply RunFault) → Outcome IsValue bytes (Ok d) → script_of d ≡ Ok script
          → IfOk result (λ reply. AnswersIn script certificate reply.answer (string_bytes reply.text)) → IfOk result (λ reply. ChecksTo bytes certificate reply.answer (string_bytes reply.text))
      is-answered (Ok reply) spells says holds = record { script = script; reads = bytes-of spells says; holds = holds }
      is-answered (Err fault) spells says holds = tt

      why-not : (fault : RunFault) → Outcome IsValue bytes (Ok d) → script_of d ≡ Ok script → IsRefusal certificate fault → IsUnchecked bytes certificate fault
      why-not NoMemory spells says why = tt
      why-not Proof spells says why = record { script = script; reads = bytes-of spells says; none = why }
      why-not faults.Read spells says why = absurd why
      why-not Write spells says why = absurd why
      why-not (Script fault) spells says why = absurd why
      why-not (Audit found) spells says why = absurd why

      -- a script's, with none
      pub is-unanswered : (result : Result CheckReply RunFault) → Outcome IsValue bytes (Ok d) → script_of d ≡ Ok script
          → IfErr result (IsRefusal certificate) → IfErr result (IsUnchecked bytes certificate)
      is-unanswered (Ok reply) spells says why = tt
      is-unanswered (Err fault) spells says why = why-not fault spells says why

-- ---- from what was read to what the reader had

module _ (had left : Option (List ℕ)) (bytes : List ℕ) (read : ReadsToLimit longest had left bytes) where
  of_input : (P : List ℕ → Type 0) → length bytes ≤ longest → P bytes → IfSome had P
  of_input P short h = by had left read where
    by : (had left : Option (List ℕ)) → ReadsToLimit longest had left bytes → IfSome had P
    by None left read = tt
    by (Some input) None read = absurd read.taken
    by (Some input) (Some rest) read = subst P (sym (whole-read input rest bytes read.taken read.all short)) h

  of_script : (script : ScriptFacts) → IsScriptOf bytes script → IfSome had (λ input. IsScriptOf input script)
  of_script script reads = of_input (λ input. IsScriptOf input script) reads.spells.short reads

  of_answer : (script : ScriptFacts) (answer : CheckAnswer) (text : List ℕ) → AnswersIn script bytes answer text → IfSome had (λ input. AnswersIn script input answer text)
  of_answer script answer text holds = of_input (λ input. AnswersIn script input answer text) holds.lists.spells.short holds

  of_none : IsNoList bytes → IfSome had IsNoList
  of_none none = by had left read where
    by : (had left : Option (List ℕ)) → ReadsToLimit longest had left bytes → IfSome had IsNoList
    by None left read = tt
    by (Some input) None read = absurd read.taken
    by (Some input) (Some rest) read = λ objects listed.
        let long : length input ≡ length (bytes ++ rest) = ap length read.taken in
        let few : length bytes ≤ longest = omega (arith, long, length-append bytes rest, listed.spells.short) in
        none objects (subst (λ ts. IsListOf ts objects) (whole-read input rest bytes read.taken read.all few) listed)

-- what holds of both
both_of : (had proof : Option (List ℕ)) (A B : List ℕ → Type 0) (P : List ℕ → List ℕ → Type 0) → ((input certificate : List ℕ) → A input → B certificate → P input certificate)
    → IfSome had A → IfSome proof B → IfBoth had proof P
both_of None proof A B P f a b = tt
both_of (Some input) None A B P f a b = tt
both_of (Some input) (Some certificate) A B P f a b = f input certificate a b

-- ---- how it ends

-- a check that ends before it answers
check-early : (fault : RunFault) (had proof hold : Option (List ℕ)) → fault ≢ Write → fault ≢ Proof → ((found : Disagreement) → fault ≢ Audit found) → ((found : ScriptFault) → fault ≡ Script found → IfSome had (λ input. RunsTo input (Err found)))
    → HasChecked (Err fault) had proof hold hold
check-early fault had proof hold other another audited of = record {
  yes = λ is. absurd (cc);
  no = λ is. absurd (cc);
  fed = λ is. absurd (cc);
  no_audit = λ found is. absurd (audited found (cc));
  script = λ found is. of found (cc);
  proof_refused = λ is. absurd (another (cc));
  front = λ is. absurd (other (cc));
  unwritten = λ found is not. Appends-nothing hold;
}

script-refused : (result : Result RunOutcome RunFault) (fault : ScriptFault) (had left proof hold : Option (List ℕ)) (bytes : List ℕ) → result ≡ Err (Script fault) → ReadsToLimit longest had left bytes
    → RunsTo bytes (Err fault) → HasChecked result had proof hold hold
script-refused result fault had left proof hold bytes e read runs = rw e (check-early (Script fault) had proof hold (λ is. absurd (cc)) (λ is. absurd (cc)) (λ found is. absurd (cc))
    (λ found is. let same : fault ≡ found = cc in runs-input anyhow had left bytes (Err found) read (subst (λ f. RunsTo bytes (Err f)) same runs)))

-- one whose script is no JSON, or whose memory ended
pub check-unspelled : (result : Result RunOutcome RunFault) (fault : ParseFault) (had left proof hold : Option (List ℕ)) (bytes : List ℕ) → result ≡ Err (fault_of_parse fault) → ReadsToLimit longest had left bytes
    → GivesOneOf {X = Value} {A = Data} view (Err fault) (Outcome IsValue bytes) → HasChecked result had proof hold hold
check-unspelled result parsing.NoMemory had left proof hold bytes e read said = rw e (check-early NoMemory had proof hold (λ is. absurd (cc)) (λ is. absurd (cc)) (λ found is. absurd (cc)) (λ found is. absurd (cc)))
check-unspelled result (parsing.Refused fault) had left proof hold bytes e read said = script-refused result fault had left proof hold bytes e read (fault_of bytes (Err fault) fault refl said)

-- one whose script has a fault, or whose memory ended
pub check-no-script : (result : Result RunOutcome RunFault) (fault : ParseFault) (had left proof hold : Option (List ℕ)) (bytes : List ℕ) (d : Data) → result ≡ Err (fault_of_parse fault)
    → ReadsToLimit longest had left bytes → Outcome IsValue bytes (Ok d) → Gives {X = Read} {A = ScriptFacts} script_seen (Err fault) (script_of d) → HasChecked result had proof hold hold
check-no-script result parsing.NoMemory had left proof hold bytes d e read spells said = rw e (check-early NoMemory had proof hold (λ is. absurd (cc)) (λ is. absurd (cc)) (λ found is. absurd (cc)) (λ found is. absurd (cc)))
check-no-script result (parsing.Refused fault) had left proof hold bytes d e read spells said =
    script-refused result fault had left proof hold bytes e read (value_fault bytes d fault (spells_value bytes d spells) said)

module _ (had left proof proof_left : Option (List ℕ)) (bytes certificate : List ℕ) (d : Data) (script : ScriptFacts) (read : ReadsToLimit longest had left bytes) (spells : Outcome IsValue bytes (Ok d))
    (says : script_of d ≡ Ok script) (proof_read : ReadsToLimit longest proof proof_left certificate) where
  reads : IfSome had (λ input. IsScriptOf input script)
  reads = of_script had left bytes read script (record { value = d; spells = spells_value bytes d spells; says = says })

  -- one whose certificate is refused, or whose memory ended
  pub check-refused : (result : Result RunOutcome RunFault) (fault : RunFault) (hold : Option (List ℕ)) → result ≡ Err fault → IsRefusal certificate fault → HasChecked result had proof hold hold
  check-refused result NoMemory hold e why = rw e (check-early NoMemory had proof hold (λ is. absurd (cc)) (λ is. absurd (cc)) (λ found is. absurd (cc)) (λ found is. absurd (cc)))
  check-refused result Proof hold e why = rw e (record {
    yes = λ is. absurd (cc);
    no = λ is. absurd (cc);
    fed = λ is. absurd (cc);
    no_audit = λ found is. absurd (cc);
    script = λ found is. absurd (cc);
    proof_refused = λ is. both_of had proof (λ input. IsScriptOf input script) IsNoList ProofIsRefused (λ input c a b. record { script = script; reads = a; none = b })
        reads (of_none proof proof_left certificate proof_read why);
    front = λ is. absurd (cc);
    unwritten = λ found is not. Appends-nothing hold;
  })
  check-refused result faults.Read hold e why = absurd why
  check-refused result Write hold e why = absurd why
  check-refused result (Script fault) hold e why = absurd why
  check-refused result (Audit found) hold e why = absurd why

  module _ (before after : Option (List ℕ)) (answer : CheckAnswer) (text : List ℕ) (holds : AnswersIn script certificate answer text) where
    answered : IfSome proof (λ c. AnswersIn script c answer text)
    answered = of_answer proof proof_left certificate proof_read script answer text holds

    -- one whose writer failed
    pub check-part : (result : Result RunOutcome RunFault) → result ≡ Err Write → WritesFront before after text → HasChecked result had proof before after
    check-part result e front = rw e (record {
      yes = λ is. absurd (cc);
      no = λ is. absurd (cc);
      fed = λ is. absurd (cc);
      no_audit = λ found is. absurd (cc);
      script = λ found is. absurd (cc);
      proof_refused = λ is. absurd (cc);
      front = λ is. both_of had proof (λ input. IsScriptOf input script) (λ c. AnswersIn script c answer text) (λ input c. WritesTextPart (λ t. (a : CheckAnswer) × ChecksTo input c a t) before after)
          (λ input c a b. record { text = text; certificate = []; report = (answer, record { script = script; reads = a; holds = b }); fronts = in_first front tt }) reads answered;
      unwritten = λ found is not. absurd (not (cc));
    })

    written_as : Appends before after text → IfBoth had proof (λ input c. WritesText (ChecksTo input c answer) before after)
    written_as written = both_of had proof (λ input. IsScriptOf input script) (λ c. AnswersIn script c answer text) (λ input c. WritesText (ChecksTo input c answer) before after)
        (λ input c a b. record { text = text; certificate = []; report = record { script = script; reads = a; holds = b }; written = written; proved = tt }) reads answered

  -- one that says yes
  pub check-yes : (before after : Option (List ℕ)) (answer : CheckAnswer) (text : List ℕ) → AnswersIn script certificate answer text → answer ≡ answers.Yes → Appends before after text
      → HasChecked (Ok Done) had proof before after
  check-yes before after answer text holds is written =
      let holds_yes : AnswersIn script certificate answers.Yes text = subst (λ a. AnswersIn script certificate a text) is holds in
      record {
        yes = λ e. written_as before after answers.Yes text holds_yes written;
        no = λ e. absurd (cc);
        fed = λ e. absurd (cc);
        no_audit = λ found e. absurd (cc);
        script = λ found e. absurd (cc);
        proof_refused = λ e. absurd (cc);
        front = λ e. absurd (cc);
        unwritten = λ found e not. absurd (cc);
      }

  -- one that says no
  pub check-no : (before after : Option (List ℕ)) (answer : CheckAnswer) (text : List ℕ) (objection : Objection) → AnswersIn script certificate answer text → answer ≡ answers.No objection
      → Appends before after text → HasChecked (Ok CheckedNo) had proof before after
  check-no before after answer text objection holds is written =
      let holds_no : AnswersIn script certificate (answers.No objection) text = subst (λ a. AnswersIn script certificate a text) is holds in
      record {
        yes = λ e. absurd (cc);
        no = λ e. both_of had proof (λ input. IsScriptOf input script) (λ c. AnswersIn script c (answers.No objection) text) (λ input c. WritesText (λ t. (o : Objection) × ChecksTo input c (answers.No o) t) before after)
            (λ input c a b. record { text = text; certificate = []; report = (objection, record { script = script; reads = a; holds = b }); written = written; proved = tt })
            reads (answered before after (answers.No objection) text holds_no);
        fed = λ e. absurd (cc);
        no_audit = λ found e. absurd (cc);
        script = λ found e. absurd (cc);
        proof_refused = λ e. absurd (cc);
        front = λ e. absurd (cc);
        unwritten = λ found e not. absurd (cc);
      }

-- ---- read faults

-- where no failure is answered, none was counted
pub same_count : (a b : ℕ) (F : Type 0) → (¬ F) → F ↔ (a ≢ b) → a ≡ b
same_count a b F none cause = elim (cases_order a b) as (λ _. a ≡ b) [
  | inl same ↦ same
  | inr (inl less) ↦ absurd (none (cause.1 (λ e. absurd (omega (arith, less, e)))))
  | inr (inr more) ↦ absurd (none (cause.1 (λ e. absurd (omega (arith, more, e)))))
]

pub not_caused : (F : Type 0) (a b c d : ℕ) → (¬ F) → a ≡ c → b ≡ d → IsCausedBy F (both_counts c d) (both_counts a b)
not_caused F a b c d none e f =
    let same : both_counts a b ≡ both_counts c d = cc in
    record { cause = (λ is. absurd (none is), λ differs. absurd (differs same)); kept = λ _. same }
