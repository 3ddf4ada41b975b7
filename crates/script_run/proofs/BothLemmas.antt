-- What a run that writes a certificate says of its input.
use Rattle.std.proofs.Common.{◌≡◌, List, ℕ, Bool, true, false, Option, Result, Ok, Err, refl}
use Rattle.std.specs.Prelude.{IfSome}
use Rattle.std.specs.Io.KnownBytes.{Appends}
use Rattle.byte_transfer.specs.Transfer.{ReadsToLimit}
use Rattle.script_reading.specs.Text.{longest}
use Rattle.script_run.specs.declared.fault.RunFault.{RunFault}
use Rattle.script_run.specs.declared.fault.RunFault.TheVariants.{Write}
use Rattle.script_run.specs.declared.running.RunOutcome.{RunOutcome}
use Rattle.script_run.specs.declared.running.RunOutcome.TheVariants.{Done, MemoryRefused}
use Rattle.script_run.specs.Certificate.{CertifiedFacts, CertifiesTo, IsCertifiedBy}
use Rattle.script_run.specs.Run.{GivesProvedReport, RanWithProof, WritesFronts}
use Rattle.script_run.proofs.CallerLemmas.{runs-input}
use Rattle.script_run.proofs.RunLemmas.{in-part, in-want, in-whole}

module _ (old new before after proof_before proof_after : Option (List ℕ)) (bytes : List ℕ) (c : CertifiedFacts)
    (read : ReadsToLimit longest old new bytes) (runs : CertifiesTo bytes (Ok c)) where
  certified : IfSome old (λ input. CertifiesTo input (Ok c))
  certified = runs-input (IsCertifiedBy c.certificate) old new bytes (Ok (record { text = c.text; starved = c.starved })) read runs

  given_as : (starved : Bool) → c.starved ≡ starved → IfSome old (λ input. GivesProvedReport input starved c.text c.certificate)
  given_as starved e = rw (← e) certified

  -- a writer failed
  pub both-part : (result : Result RunOutcome RunFault) → result ≡ Err Write → WritesFronts before after proof_before proof_after c.text c.certificate
      → RanWithProof result old before after proof_before proof_after
  both-part result e fronts = in-part GivesProvedReport old before after proof_before proof_after c.text c.certificate c.starved result (given_as c.starved refl) e fronts

  -- it wrote a report in which memory was refused
  pub both-starved : c.starved ≡ true → Appends before after c.text → Appends proof_before proof_after c.certificate
      → RanWithProof (Ok MemoryRefused) old before after proof_before proof_after
  both-starved e written proved = in-want GivesProvedReport old before after proof_before proof_after c.text c.certificate (given_as true e) written proved

  -- it wrote a report in which memory was not refused
  pub both-done : c.starved ≡ false → Appends before after c.text → Appends proof_before proof_after c.certificate
      → RanWithProof (Ok Done) old before after proof_before proof_after
  both-done e written proved = in-whole GivesProvedReport old before after proof_before proof_after c.text c.certificate (given_as false e) written proved
