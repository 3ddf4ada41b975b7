-- What a run on threads says of its input, from what it says of the bytes that it read.
use Rattle.std.proofs.Common.{◌≡◌, ◌≢◌, ℕ, Bool, false, true, List, Option, Result, Ok, Err, refl, subst}
use Rattle.std.specs.Prelude.{IfSome, IsTrue}
use Rattle.std.specs.Io.KnownBytes.{Appends}
use Rattle.byte_transfer.specs.declared.fault.ReadFault.{ReadFault}
use Rattle.byte_transfer.specs.declared.fault.ReadFault.TheVariants as reading
use Rattle.byte_transfer.specs.Transfer.{ReadsToLimit, WritesFront}
use Rattle.script_reading.specs.declared.fault.ParseFault.TheVariants as parsing
use Rattle.script_reading.specs.declared.fault.ScriptFault.{ScriptFault}
use Rattle.script_reading.specs.Text.{longest}
use Rattle.script_run.specs.declared.fault.Disagreement.{Disagreement}
use Rattle.script_run.specs.declared.fault.Disagreement.TheVariants.{Handles, Calls, Verdicts}
use Rattle.script_run.specs.declared.fault.RunFault.{RunFault}
use Rattle.script_run.specs.declared.fault.RunFault.TheVariants.{Read, Write, NoMemory, Script, Proof}
use Rattle.script_run.specs.declared.fault.RunFault.TheVariants as faults
use Rattle.script_run.specs.declared.running.RunOutcome.{RunOutcome}
use Rattle.script_run.specs.declared.running.RunOutcome.TheVariants.{Done, MemoryRefused, CheckedNo}
use Rattle.script_run.specs.Faults.{fault_of_read}
use Rattle.script_run.proofs.CallerLemmas.{Appends-nothing}
use Rattle.sysmem_participants.specs.declared.faults.AuditFault.TheVariants as audits
use Rattle.script_threads.specs.declared.fault.PlayFault.{PlayFault}
use Rattle.script_threads.specs.declared.fault.PlayFault.TheVariants as plays
use Rattle.script_threads.specs.declared.playing.PlayReport.{PlayReport}
use Rattle.script_threads.specs.Run.{IsPlayable, Played, SpellsApart, TellsOf, Writes, fault_of_play}
use Rattle.script_threads.specs.Text.{IsText, IsTold}
use Rattle.script_threads.proofs.Spelling.{playable-input, spells-input}

module _ (had hold : Option (List ℕ)) where
  -- a run that ends before it writes
  early : (fault : RunFault) → fault ≢ Write → fault ≢ Proof → ((found : ScriptFault) → fault ≡ Script found → IfSome had (λ input. SpellsApart input (Err found)))
      → ((found : Disagreement) → fault ≡ faults.Audit found → IfSome had IsPlayable) → Played (Err fault) had hold hold
  early fault other read refused audited = record {
    played = λ ended is. absurd (cc);
    written = λ ended is. absurd (cc);
    done = λ is. absurd (cc);
    unchecked = λ is. absurd (cc);
    no_proof = λ is. absurd (read (cc));
    refused = λ found is. refused found (cc);
    audited = λ found is. audited found (cc);
    failed = λ is. absurd (other (cc));
    front = λ is. absurd (other (cc));
    unwritten = λ found is not. Appends-nothing hold;
  }

  -- of neither kind
  outside : (fault : RunFault) → fault ≢ Write → fault ≢ Proof → ((found : ScriptFault) → fault ≢ Script found) → ((found : Disagreement) → fault ≢ faults.Audit found) → Played (Err fault) had hold hold
  outside fault other read refused audited = early fault other read (λ found is. absurd (refused found is)) (λ found is. absurd (audited found is))

  -- a run whose reader failed, or whose memory ended as it read
  pub played-unread : (result : Result RunOutcome RunFault) (fault : ReadFault) → result ≡ Err (fault_of_read fault) → Played result had hold hold
  played-unread result reading.Failed e = rw e (outside Read (λ is. absurd (cc)) (λ is. absurd (cc)) (λ found is. absurd (cc)) (λ found is. absurd (cc)))
  played-unread result reading.NoMemory e = rw e (outside NoMemory (λ is. absurd (cc)) (λ is. absurd (cc)) (λ found is. absurd (cc)) (λ found is. absurd (cc)))

  module _ (left : Option (List ℕ)) (bytes : List ℕ) (read : ReadsToLimit longest had left bytes) where
    disagrees : (found : Disagreement) → IsPlayable bytes → Played (Err (faults.Audit found)) had hold hold
    disagrees found is = early (faults.Audit found) (λ is. absurd (cc)) (λ is. absurd (cc)) (λ other is. absurd (cc)) (λ other same. playable-input had left bytes read is)

    -- a run whose script wasn't played to its end
    pub played-refused : (result : Result RunOutcome RunFault) (fault : PlayFault) → result ≡ Err (fault_of_play fault) → TellsOf {X = PlayReport} bytes (Err fault) → Played result had hold hold
    played-refused result (plays.Parse parsing.NoMemory) e said = rw e (outside NoMemory (λ is. absurd (cc)) (λ is. absurd (cc)) (λ found is. absurd (cc)) (λ found is. absurd (cc)))
    played-refused result (plays.Parse (parsing.Refused fault)) e said = rw e (early (Script fault) (λ is. absurd (cc)) (λ is. absurd (cc))
        (λ found is. let same : fault ≡ found = (cc) in spells-input had left bytes (Err found) read (rw (← same) said)) (λ found is. absurd (cc)))
    played-refused result (plays.Audit audits.Stubs) e said = rw e (disagrees Handles said)
    played-refused result (plays.Audit audits.Calls) e said = rw e (disagrees Calls said)
    played-refused result (plays.Audit audits.Verdicts) e said = rw e (disagrees Verdicts said)
    played-refused result (plays.Audit audits.NoMemory) e said = rw e (outside NoMemory (λ is. absurd (cc)) (λ is. absurd (cc)) (λ found is. absurd (cc)) (λ found is. absurd (cc)))

-- what isn't told, no line says
unsaid : (says starved : Bool) → (IsTrue says → IsTrue starved) → starved ≡ false → says ≡ false
unsaid false starved was none = refl
unsaid true starved was none = let is = was refl in absurd (cc)

module _ (had left : Option (List ℕ)) (before after : Option (List ℕ)) (bytes : List ℕ) (read : ReadsToLimit longest had left bytes) (is_script : IsPlayable bytes)
    (starved : Bool) (text : List ℕ) (told : IsTold starved text) where
  -- a run whose writer failed
  pub played-part : (result : Result RunOutcome RunFault) → result ≡ Err Write → WritesFront before after text → Played result had before after
  played-part result e front = rw e (record {
    played = λ ended is. absurd (cc);
    written = λ ended is. absurd (cc);
    done = λ is. absurd (cc);
    unchecked = λ is. absurd (cc);
    no_proof = λ is. absurd (cc);
    refused = λ found is. absurd (cc);
    audited = λ found is. absurd (cc);
    failed = λ is. playable-input had left bytes read is_script;
    front = λ is. record { starved = told.says; text = text; is_text = told.is_text; front = front };
    unwritten = λ found is not. absurd (not (cc));
  })

  -- a run that wrote all
  whole : (ended : RunOutcome) → ended ≢ CheckedNo → (ended ≡ Done → Writes false before after) → Appends before after text → Played (Ok ended) had before after
  whole ended not_no done written = record {
    played = λ other is. playable-input had left bytes read is_script;
    written = λ other is. (told.says, record { text = text; is_text = told.is_text; written = written });
    done = λ is. done (cc);
    unchecked = λ is. absurd (not_no (cc));
    no_proof = λ is. absurd (cc);
    refused = λ found is. absurd (cc);
    audited = λ found is. absurd (cc);
    failed = λ is. absurd (cc);
    front = λ is. absurd (cc);
    unwritten = λ found is not. absurd (cc);
  }

  pub played-starved : Appends before after text → Played (Ok MemoryRefused) had before after
  played-starved written = whole MemoryRefused (λ is. absurd (cc)) (λ is. absurd (cc)) written

  -- one that isn't told that memory was refused: no line says so
  pub played-done : starved ≡ false → Appends before after text → Played (Ok Done) had before after
  played-done none written =
      let quiet = subst (λ says. IsText says text) (unsaid told.says starved told.was none) told.is_text in
      whole Done (λ is. absurd (cc)) (λ is. record { text = text; is_text = quiet; written = written }) written
