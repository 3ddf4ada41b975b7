-- How many prefixes a search visits.
use Rattle.std.specs.Prelude.{◌≡◌, ◌≢◌, ◌^◌, ◌+◌, ◌-◌, ℕ, List, [], ◌∷◌, length, min}
use Rattle.std.specs.Prelude.{Contains, Option, option_map}
use Rattle.std.specs.List.{AllByRecursion}
use Rattle.verdict_claims.specs.declared.verdict.Verdict.{Verdict}
use Rattle.verdict_claims.specs.declared.verdict.Verdict.TheVariants as verdicts
use Rattle.verdict_claims.specs.Base.{BaseFacts, terms_of}
use Rattle.verdict_claims.specs.Verdict.{Meeting, MeetsLooselyFor}
use Rattle.negotiation_inputs.specs.Platform.{PlatformFacts}
use Rattle.search_questions.specs.Live.{IsLive, IsLiveUpTo}
use Rattle.sysmem_tree.specs.Forest.{Forest}
use Rattle.sysmem_tree.specs.Node.{NodeFacts}
use Rattle.sysmem_tree.specs.Shape.{Member, shape_of}

-- no two of the lists are one
abbrev pub AllDiffer : List (List ℕ) → Type 0
AllDiffer [] = Unit {0}
AllDiffer (p ∷ ps) = AllByRecursion (λ q. p ≢ q) ps × AllDiffer ps

-- a number went up by one for each of the lists with the property, each once; at 2 ^ 64 - 1 it
-- stays
pub record IsRaised (P : List ℕ → Type 0) (from to : ℕ) : Type 0 where
  pub lists : List (List ℕ)
  pub different : AllDiffer lists
  pub each : AllByRecursion P lists
  pub all : (q : List ℕ) → P q → Contains lists q
  pub many : to ≡ min (from + length lists) (2 ^ 64 - 1)

-- as many prefixes as are live and begin the chosen selection or are earlier, all live ones where
-- nothing is chosen, and none where there are too many selections
abbrev pub AreVisits : Meeting → Forest Member → Verdict → ℕ → Type 0
AreVisits Met d (verdicts.Chosen chosen) visits =
    IsRaised (IsLiveUpTo Met d chosen.selection) 0 visits
AreVisits Met d verdicts.IntersectionEmpty visits = IsRaised (IsLive Met d) 0 visits
AreVisits Met d verdicts.TooMany visits = visits ≡ 0
AreVisits Met d verdicts.Failed visits = ⊥
AreVisits Met d verdicts.NoMemory visits = ⊥

-- of a domain of a tree
abbrev pub AreVisitsIn : PlatformFacts → List NodeFacts → ℕ → Option BaseFacts → Verdict → ℕ
    → Type 0
AreVisitsIn platform nodes domain base =
    AreVisits (MeetsLooselyFor platform (option_map (terms_of nodes) base)) (shape_of nodes domain)
