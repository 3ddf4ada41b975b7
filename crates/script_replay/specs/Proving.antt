-- Decisions with what proves them.
use Rattle.std.specs.Prelude.{All, IfSome, List}
use Rattle.sysmem_alloc.specs.Claims.{HasProof}
use Rattle.script_replay.specs.Report.{Certified}

-- a decision has its proof, where it has a claim
abbrev pub IsProved : Certified → Type 0
IsProved c = IfSome c.1 HasProof

abbrev pub AreProved : List Certified → Type 0
AreProved decisions = All IsProved decisions
