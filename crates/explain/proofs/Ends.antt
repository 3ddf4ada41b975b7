-- How an explanation as objects ends.
use Rattle.std.proofs.Common.{◌≡◌, ◌≢◌, ℕ, List, [], ◌++◌, Option, Some, None, Result, Ok, Err, sym, append-nil}
use Rattle.std.specs.Io.KnownBytes.{Appends}
use Rattle.byte_transfer.specs.Transfer.{WritesFront}
use Rattle.explain.specs.declared.explaining.Outcome.{Outcome}
use Rattle.script_run.specs.declared.fault.RunFault.{RunFault}
use Rattle.script_run.specs.declared.fault.RunFault.TheVariants.{NoMemory, Read, Write}
use Rattle.explain.specs.ObjectEndings.{Tells}
use Rattle.explain.specs.Lines.{IsToldBy}

Appends-nothing : (hold : Option (List ℕ)) → Appends hold hold []
Appends-nothing None = tt
Appends-nothing (Some bytes) = sym (append-nil bytes)

-- the reader failed
pub tells_unread : (hold : Option (List ℕ)) → Tells (Err Read) hold hold
tells_unread hold = record {
  done = tt;
  front = λ is. absurd (cc);
  unwritten = λ fault is not. Appends-nothing hold;
}

-- memory was refused
pub tells_unmade : (hold : Option (List ℕ)) → Tells (Err NoMemory) hold hold
tells_unmade hold = record {
  done = tt;
  front = λ is. absurd (cc);
  unwritten = λ fault is not. Appends-nothing hold;
}

-- the writer failed
pub tells_part : (said : List (List ℕ)) (text : List ℕ) (before after : Option (List ℕ)) → IsToldBy said text → WritesFront before after text → Tells (Err Write) before after
tells_part said text before after told front = record {
  done = tt;
  front = λ is. record { said = said; text = text; told = told; front = front };
  unwritten = λ fault is not. (let same : fault ≡ Write = (cc) in absurd (not same));
}

-- all was written
pub tells_done : (outcome : Outcome) (said : List (List ℕ)) (text : List ℕ) (before after : Option (List ℕ)) → IsToldBy said text → Appends before after text → Tells (Ok outcome) before after
tells_done outcome said text before after told written = record {
  done = record { said = said; text = text; told = told; written = written };
  front = λ is. absurd (cc);
  unwritten = λ fault is not. absurd (cc);
}
