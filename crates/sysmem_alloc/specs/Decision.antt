-- Decisions as a book enters them, and what they gave.
use Rattle.std.specs.Prelude.{◌==◌, ℕ, List, [], ◌∷◌, Option, Some, None}
use Rattle.std.specs.Prelude.{option_and_then, option_map, if◌then◌else◌}
use Rattle.sysmem_merge.specs.declared.settings.Settings.{Settings}
use Rattle.verdict_claims.specs.declared.certificate.Claim.{Claim}
use Rattle.verdict_claims.specs.declared.verdict.Verdict.{Verdict}
use Rattle.verdict_claims.specs.declared.verdict.Verdict.TheVariants as verdicts

-- the decision of the domain that this node roots: its verdict, or none where memory was wanted
pub record DomainVerdict : Type 0 where
  pub domain : ℕ
  pub verdict : Option Verdict

-- a decision with its claim: the domain that this node roots, and the
-- claim, or none where memory was wanted
pub record Claimed : Type 0 where
  pub domain : ℕ
  pub claim : Option Claim

-- the verdict that is claimed
abbrev pub verdict_in : Option Claim → Option Verdict
verdict_in claim = option_map (λ c. c.verdict) claim

-- the decision without what proves it
abbrev pub answer_of : Claimed → DomainVerdict
answer_of c = record { domain = c.domain; verdict = verdict_in c.claim }

-- the choices of a verdict that chose
abbrev pub choices_of : Option Verdict → Option (List ℕ)
choices_of (Some (verdicts.Chosen chosen)) = Some chosen.selection
choices_of _ = None

-- its settings
abbrev pub settings_of : Option Verdict → Option Settings
settings_of (Some (verdicts.Chosen chosen)) = Some chosen.settings
settings_of _ = None

-- the decision of a domain
abbrev pub decision_for : List DomainVerdict → ℕ → Option DomainVerdict
decision_for [] r = None
decision_for (d ∷ ds) r = if d.domain == r then Some d else decision_for ds r

-- the settings that were chosen for a domain
abbrev pub settings_for : List DomainVerdict → ℕ → Option Settings
settings_for ds r = option_and_then (λ d. settings_of d.verdict) (decision_for ds r)

-- a verdict that a decision gave, with memory
abbrev pub IsDecision : Verdict → Type 0
IsDecision verdicts.Failed = ⊥
IsDecision verdicts.NoMemory = ⊥
IsDecision v = Unit {0}
