-- What an explanation as objects has written, by how it ended.
use Rattle.std.specs.Prelude.{◌≡◌, ◌≢◌, ℕ, List, [], Option, Result, Err, IfOk}
use Rattle.std.specs.Io.KnownBytes.{Appends}
use Rattle.byte_transfer.specs.Transfer.{WritesFront}
use Rattle.explain.specs.declared.explaining.Outcome.{Outcome}
use Rattle.script_run.specs.declared.fault.RunFault.{RunFault}
use Rattle.script_run.specs.declared.fault.RunFault.TheVariants.{Write}
use Rattle.explain.specs.Lines.{IsToldBy}

-- the objects of some items were written
pub record WritesObjects (before after : Option (List ℕ)) : Type 0 where
  pub said : List (List ℕ)
  pub text : List ℕ
  pub told : IsToldBy said text
  pub written : Appends before after text

-- a prefix of such objects was written
pub record WritesPart (before after : Option (List ℕ)) : Type 0 where
  pub said : List (List ℕ)
  pub text : List ℕ
  pub told : IsToldBy said text
  pub front : WritesFront before after text

-- all was written where it ends well, a prefix after a write fault, and nothing after any other
pub record Tells (result : Result Outcome RunFault) (before after : Option (List ℕ)) : Type 0 where
  pub done : IfOk result (λ _. WritesObjects before after)
  pub front : result ≡ Err Write → WritesPart before after
  pub unwritten : (fault : RunFault) → result ≡ Err fault → fault ≢ Write → Appends before after []
