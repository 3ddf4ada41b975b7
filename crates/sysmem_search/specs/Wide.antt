-- What several workers find, each of whom has a share of the choices for the first group.
use Rattle.std.specs.Prelude.{◌≡◌, ◌<◌, ◌≤◌, ◌+◌, ◌*◌, ◌/◌, ℕ, List, ◌∷◌, Option, Some, None}
use Rattle.std.specs.Prelude.{Result, IfOk, IfSome, IsSomeAnd, length, slice_index_or}
use Rattle.verdict_claims.specs.Chosen.{ChosenFacts}
use Rattle.verdict_claims.specs.Matter.{Matter, forest}
use Rattle.verdict_claims.specs.Verdict.{IsForestUnmet, IsChosen}
use Rattle.verdict_claims.specs.declared.verdict.Verdict.{Verdict}
use Rattle.verdict_claims.specs.declared.verdict.Verdict.TheVariants as verdicts
use Rattle.search_questions.specs.Live.{choose}
use Rattle.search_questions.specs.Question.{MeetsOf, IsBestOf}
use Rattle.sysmem_search.specs.declared.wide.Share.{Share}

-- no settings meet a selection that begins with this choice
abbrev pub IsUnmetAt : Matter → ℕ → Type 0
IsUnmetAt m c = IfSome (choose (forest m) c) (λ e. IsForestUnmet (MeetsOf m) e)

-- of the selections that begin with this choice, the first that any settings meet, with the best
-- settings for it
abbrev pub IsFirstAt : Matter → ℕ → ChosenFacts → Type 0
IsFirstAt m c chosen = IsSomeAnd (choose (forest m) c) (λ e. (rest : List ℕ)
    × (chosen.selection ≡ c ∷ rest) × IsChosen (MeetsOf m) (IsBestOf m) e rest chosen.settings)

-- what is found by trying one choice after another, from one choice on and as far as another: the
-- first selection that any settings meet
abbrev pub IsFirstIn : Matter → ℕ → ℕ → Option ChosenFacts → Type 0
IsFirstIn m from to None = (c : ℕ) → from ≤ c → c < to → IsUnmetAt m c
IsFirstIn m from to (Some chosen) = (c : ℕ) × IsFirstAt m c chosen
    × ((b : ℕ) → from ≤ b → b < c → IsUnmetAt m b)

-- what each worker found in its share, which begins at its `start`
abbrev pub AreFirstIn : {E : Type 0} → Matter → (ℕ → ℕ) → List (Result Share E) → Type 0
AreFirstIn {E} m start shares = (w : ℕ) (d : Result Share E) → w < length shares
    → IfOk (slice_index_or shares w d) (λ share. IsFirstIn m (start w) (start (w + 1)) share.chosen)

-- the first selection of all that any settings meet, with the best settings for it; none where none
-- is met
abbrev pub IsFirstOfAll : Matter → Option ChosenFacts → Type 0
IsFirstOfAll m None = IsForestUnmet (MeetsOf m) (forest m)
IsFirstOfAll m (Some chosen) =
    IsChosen (MeetsOf m) (IsBestOf m) (forest m) chosen.selection chosen.settings

-- the verdict on it, where there aren't too many selections
abbrev pub verdict_of : Option ChosenFacts → Verdict
verdict_of None = verdicts.IntersectionEmpty
verdict_of (Some chosen) = verdicts.Chosen chosen

-- the choice with which a worker's share begins, where all shares are about the same size; it ends
-- where the next worker's begins
abbrev pub share_start : ℕ → ℕ → ℕ → ℕ
share_start workers choices worker = worker * choices / workers
