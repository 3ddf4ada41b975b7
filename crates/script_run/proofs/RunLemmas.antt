-- What a run says of its input, from what it says of the bytes that it read.
use Rattle.std.proofs.Common.{◌≡◌, ◌≢◌, ℕ, List, [], Bool, true, false, Option, Some, None, Result, Ok, Err, refl}
use Rattle.std.specs.Prelude.{IfSome}
use Rattle.std.specs.Io.KnownBytes.{Appends}
use Rattle.byte_transfer.specs.declared.fault.ReadFault.{ReadFault}
use Rattle.byte_transfer.specs.declared.fault.ReadFault.TheVariants as reading
use Rattle.byte_transfer.specs.Transfer.{ReadsToLimit, WritesFront}
use Rattle.script_reading.specs.declared.fault.ParseFault.{ParseFault}
use Rattle.script_reading.specs.declared.fault.ParseFault.TheVariants as parsing
use Rattle.script_reading.specs.declared.fault.ScriptFault.{ScriptFault}
use Rattle.script_reading.specs.Faults.{GivesOneOf}
use Rattle.script_reading.specs.Text.{longest}
use Rattle.script_run.proofs.CallerLemmas.{Appends-nothing, runs-input}
use Rattle.script_run.specs.declared.fault.Disagreement.{Disagreement}
use Rattle.script_run.specs.declared.fault.RunFault.{RunFault}
use Rattle.script_run.specs.declared.fault.RunFault.TheVariants.{Read, Write, NoMemory, Script, Proof, Audit}
use Rattle.script_run.specs.declared.running.RunOutcome.{RunOutcome}
use Rattle.script_run.specs.declared.running.RunOutcome.TheVariants.{Done, MemoryRefused}
use Rattle.script_run.specs.Faults.{fault_of_parse, fault_of_read}
use Rattle.script_replay.specs.Outcome.{ReportFacts, RunsTo, anyhow}
use Rattle.script_run.specs.Run.{GivesReport, GivesTexts, Ran, RanFor, Writes, WritesFronts, WritesPart, in_first}

-- ---- how a run ends that gives such texts

module _ (gives : GivesTexts) (had hold proof_hold : Option (List ℕ)) where
  -- one that ends before it writes
  early : (fault : RunFault) → fault ≢ Write → fault ≢ Proof → ((found : Disagreement) → fault ≢ Audit found)
      → ((refused : ScriptFault) → fault ≡ Script refused → IfSome had (λ input. RunsTo input (Err refused)))
      → RanFor gives (Err fault) had hold hold proof_hold proof_hold
  early fault other read audited refused = record {
    done = λ is. absurd (cc);
    starved = λ is. absurd (cc);
    unchecked = λ is. absurd (cc);
    no_proof = λ is. absurd (read (cc));
    no_audit = λ found is. absurd (audited found (cc));
    refused = λ found is. refused found (cc);
    front = λ is. absurd (other (cc));
    unwritten = λ found is not. (Appends-nothing hold, Appends-nothing proof_hold);
  }

  -- one whose reader failed, or whose memory ended as it read
  pub unread : (result : Result RunOutcome RunFault) (fault : ReadFault) → result ≡ Err (fault_of_read fault)
      → RanFor gives result had hold hold proof_hold proof_hold
  unread result reading.Failed e = rw e (early Read (λ is. absurd (cc)) (λ is. absurd (cc)) (λ found is. absurd (cc)) (λ found is. absurd (cc)))
  unread result reading.NoMemory e = rw e (early NoMemory (λ is. absurd (cc)) (λ is. absurd (cc)) (λ found is. absurd (cc)) (λ found is. absurd (cc)))

  -- one whose script was refused, or whose memory ended
  pub refused : {X A : Type 0} (seen : X → A) (P : Result A ScriptFault → Type 0) (result : Result RunOutcome RunFault) (fault : ParseFault) (new : Option (List ℕ)) (bytes : List ℕ)
      → ((found : ScriptFault) → P (Err found) → RunsTo bytes (Err found)) → result ≡ Err (fault_of_parse fault) → ReadsToLimit longest had new bytes
      → GivesOneOf {X = X} {A = A} seen (Err fault) P → RanFor gives result had hold hold proof_hold proof_hold
  refused seen P result parsing.NoMemory new bytes of e read said = rw e (early NoMemory (λ is. absurd (cc)) (λ is. absurd (cc)) (λ found is. absurd (cc)) (λ found is. absurd (cc)))
  refused seen P result (parsing.Refused fault) new bytes of e read said =
      rw e (early (Script fault) (λ is. absurd (cc)) (λ is. absurd (cc)) (λ found is. absurd (cc))
      (λ found is. let same : fault ≡ found = (cc) in runs-input anyhow had new bytes (Err found) read (rw (← same) (of fault said))))

module _ (gives : GivesTexts) (had before after proof_before proof_after : Option (List ℕ)) (text certificate : List ℕ) where
  whole : (old : Option (List ℕ)) (starved : Bool) → Appends before after text → Appends proof_before proof_after certificate
      → IfSome old (λ input. gives input starved text certificate) → IfSome old (λ input. Writes (gives input starved) before after proof_before proof_after)
  whole None starved written proved given = tt
  whole (Some input) starved written proved given = record { text = text; certificate = certificate; report = given; written = written; proved = proved }

  front-of : (old : Option (List ℕ)) (starved : Bool) → WritesFronts before after proof_before proof_after text certificate
      → IfSome old (λ input. gives input starved text certificate)
      → IfSome old (λ input. WritesPart (λ t other. (b : Bool) × gives input b t other) before after proof_before proof_after)
  front-of None starved fronts given = tt
  front-of (Some input) starved fronts given = record { text = text; certificate = certificate; report = (starved, given); fronts = fronts }

  -- one of which a writer failed
  pub in-part : (starved : Bool) (result : Result RunOutcome RunFault) → IfSome had (λ input. gives input starved text certificate) → result ≡ Err Write
      → WritesFronts before after proof_before proof_after text certificate → RanFor gives result had before after proof_before proof_after
  in-part starved result given e fronts = rw e (record {
    done = λ is. absurd (cc);
    starved = λ is. absurd (cc);
    unchecked = λ is. absurd (cc);
    no_proof = λ is. absurd (cc);
    no_audit = λ found is. absurd (cc);
    refused = λ found is. absurd (cc);
    front = λ is. front-of had starved fronts given;
    unwritten = λ found is not. absurd (not (cc));
  })

  -- one that wrote its texts, in which memory was refused
  pub in-want : IfSome had (λ input. gives input true text certificate) → Appends before after text → Appends proof_before proof_after certificate
      → RanFor gives (Ok MemoryRefused) had before after proof_before proof_after
  in-want given written proved = record {
    done = λ is. absurd (cc);
    starved = λ is. whole had true written proved given;
    unchecked = λ is. absurd (cc);
    no_proof = λ is. absurd (cc);
    no_audit = λ found is. absurd (cc);
    refused = λ found is. absurd (cc);
    front = λ is. absurd (cc);
    unwritten = λ found is not. absurd (cc);
  }

  -- one that wrote its texts, in which memory was not refused
  pub in-whole : IfSome had (λ input. gives input false text certificate) → Appends before after text → Appends proof_before proof_after certificate
      → RanFor gives (Ok Done) had before after proof_before proof_after
  in-whole given written proved = record {
    done = λ is. whole had false written proved given;
    starved = λ is. absurd (cc);
    unchecked = λ is. absurd (cc);
    no_proof = λ is. absurd (cc);
    no_audit = λ found is. absurd (cc);
    refused = λ found is. absurd (cc);
    front = λ is. absurd (cc);
    unwritten = λ found is not. absurd (cc);
  }

-- ---- a run that writes its report alone

module _ (old new before after : Option (List ℕ)) (bytes : List ℕ) (report : ReportFacts)
    (read : ReadsToLimit longest old new bytes) (runs : RunsTo bytes (Ok report)) where
  reported : IfSome old (λ input. RunsTo input (Ok report))
  reported = runs-input anyhow old new bytes (Ok report) read runs

  given_as : (starved : Bool) → report.starved ≡ starved → IfSome old (λ input. GivesReport input starved report.text [])
  given_as starved e = rw (← e) reported

  -- its writer failed
  pub ran-part : (result : Result RunOutcome RunFault) → result ≡ Err Write → WritesFront before after report.text → Ran result old before after
  ran-part result e front = in-part GivesReport old before after None None report.text [] report.starved result (given_as report.starved refl) e (in_first front tt)

  -- it wrote a report in which memory was refused
  pub ran-starved : report.starved ≡ true → Appends before after report.text → Ran (Ok MemoryRefused) old before after
  ran-starved e written = in-want GivesReport old before after None None report.text [] (given_as true e) written tt

  -- it wrote a report in which memory was not refused
  pub ran-done : report.starved ≡ false → Appends before after report.text → Ran (Ok Done) old before after
  ran-done e written = in-whole GivesReport old before after None None report.text [] (given_as false e) written tt
