-- What a search from a prefix on finds.
use Rattle.std.specs.Prelude.{◌≡◌, ◌++◌, ℕ, List, Option, Some, None}
use Rattle.sysmem_merge.specs.declared.settings.Settings.{Settings}
use Rattle.verdict_claims.specs.Verdict.{Meeting, IsForestUnmet, IsChosen}
use Rattle.search_questions.specs.Live.{IsLive, IsLiveUpTo}
use Rattle.search_questions.specs.Question.{MeetsOf, MeetsSoFar, IsBestOf}
use Rattle.verdict_claims.specs.Matter.{Matter}
use Rattle.search_questions.specs.Visits.{IsRaised}
use Rattle.sysmem_tree.specs.Forest.{Forest}
use Rattle.sysmem_tree.specs.Shape.{Member}

-- the choices are as before; no selection of the forest can be met, and each live prefix of it was
-- visited
pub record NothingFound (Met Loosely : Meeting) (d : Forest Member) (old new : List ℕ)
    (from to : ℕ) : Type 0 where
  pub same : new ≡ old
  pub unmet : IsForestUnmet Met d
  pub visited : IsRaised (IsLive Loosely d) from to

-- the choices go on to the first selection of the forest that can be met; each live prefix was
-- visited that begins it or is earlier
pub record FirstFound (Met Best Loosely : Meeting) (d : Forest Member) (old new : List ℕ)
    (from to : ℕ) (s : Settings) : Type 0 where
  pub selection : List ℕ
  pub goes_on : new ≡ old ++ selection
  pub chosen : IsChosen Met Best d selection s
  pub visited : IsRaised (IsLiveUpTo Loosely d selection) from to

abbrev pub IsFound : Meeting → Meeting → Meeting → Forest Member → List ℕ → List ℕ → ℕ → ℕ
    → Option Settings → Type 0
IsFound Met Best Loosely d old new from to None = NothingFound Met Loosely d old new from to
IsFound Met Best Loosely d old new from to (Some s) =
    FirstFound Met Best Loosely d old new from to s

-- of a matter
abbrev pub IsFoundOf : Matter → Forest Member → List ℕ → List ℕ → ℕ → ℕ → Option Settings → Type 0
IsFoundOf m = IsFound (MeetsOf m) (IsBestOf m) (MeetsSoFar m)
