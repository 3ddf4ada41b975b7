-- One decision more that has its proof.
use Rattle.std.proofs.Common.{ℕ, ◌++◌, List, [], ◌∷◌, Option, Some, None}
use Rattle.std.specs.Prelude.{IfSome, option_map}
use Rattle.std.proofs.lemmas.List.Elements.{All-append, All-cons, All-nil}
use Rattle.sysmem_alloc.specs.Claims.{HasProof}
use Rattle.verdict_claims.specs.declared.certificate.Claim.{Claim}
use Rattle.script_replay.specs.Proving.{AreProved, IsProved}
use Rattle.script_replay.specs.Report.{Certified}

pub proved_push : (cs : List Certified) (path : List ℕ) (claim : Option Claim) → AreProved cs → IfSome claim HasProof → AreProved (cs ++ (path, claim) ∷ [])
proved_push cs path claim all has =
    let one : Certified = (path, claim) in
    All-append IsProved cs (one ∷ []) all (All-cons IsProved one [] has (All-nil IsProved))

-- what is true of what is there is true of its value
pub if_mapped : {X Y : Type 0} (f : X → Y) (P : Y → Type 0) (o : Option X) → IfSome o (λ x. P (f x)) → IfSome (option_map f o) P
if_mapped f P None h = h
if_mapped f P (Some x) h = h
