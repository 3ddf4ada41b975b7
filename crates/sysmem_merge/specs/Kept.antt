-- What is kept of the participants that were added.
use Rattle.std.specs.Prelude.{ℕ, List}
use Rattle.sysmem_counts.specs.Tally.{Tally}
use Rattle.sysmem_memory.specs.declared.bounds.MemoryBounds.{MemoryBounds}
use Rattle.sysmem_merge.specs.declared.kept.KeptOffer.{KeptOffer}
use Rattle.negotiation_inputs.specs.Platform.{PlatformFacts}

-- the platform; what is kept of counts, of places (the coherency domains that are left of each
-- heap), of offers and of sizes; how many were added
pub record Kept : Type 0 where
  pub platform : PlatformFacts
  pub counts : Tally
  pub places : MemoryBounds
  pub offers : List KeptOffer
  pub least_size : ℕ
  pub greatest_size : ℕ
  pub added : ℕ
