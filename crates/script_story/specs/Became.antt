-- What became of a domain, its word, and what was chosen.
use Rattle.std.specs.Prelude.{ℕ, List, Option, Some, None, codes}
use Rattle.sysmem_alloc.specs.Decision.{verdict_in}
use Rattle.verdict_claims.specs.Chosen.{ChosenFacts}
use Rattle.verdict_claims.specs.declared.verdict.Verdict.{Verdict}
use Rattle.verdict_claims.specs.declared.verdict.Verdict.TheVariants as verdicts
use Rattle.script_replay.specs.Events.{FateFacts, decided, failed, pending}
use Rattle.script_story.specs.declared.story.Became.{Became}
use Rattle.script_story.specs.declared.story.Became.TheVariants.{Chosen, Empty, Failed, NoMemory}
use Rattle.script_story.specs.declared.story.Became.TheVariants.{Pending, TooMany}

-- what a verdict makes of its domain, or none where memory was wanted
abbrev pub became_by : Option Verdict → Became
became_by (Some (verdicts.Chosen chosen)) = Chosen
became_by (Some verdicts.IntersectionEmpty) = Empty
became_by (Some verdicts.TooMany) = TooMany
became_by (Some verdicts.Failed) = Failed
became_by (Some verdicts.NoMemory) = NoMemory
became_by None = NoMemory

-- what became of a domain of this fate
abbrev pub became_of : FateFacts → Became
became_of (decided claim corner) = became_by (verdict_in claim)
became_of failed = Failed
became_of pending = Pending

abbrev pub became_word : Became → List ℕ
became_word Pending = codes "pending"
became_word Chosen = codes "chosen"
became_word Empty = codes "empty"
became_word TooMany = codes "too_many"
became_word NoMemory = codes "no_memory"
became_word Failed = codes "failed"

-- what a verdict chooses
abbrev pub chosen_by : Option Verdict → Option ChosenFacts
chosen_by (Some (verdicts.Chosen chosen)) = Some chosen
chosen_by _ = None

-- what was chosen in a domain of this fate
abbrev pub chosen_in : FateFacts → Option ChosenFacts
chosen_in (decided claim corner) = chosen_by (verdict_in claim)
chosen_in _ = None
