-- What is asked where a search stands, and what is known before each pair was looked at.
use Rattle.std.specs.Prelude.{◌≡◌, ◌+◌, ◌++◌, ℕ, List, Bool, true, false, Option, None, IsSomeAnd}
use Rattle.std.specs.Prelude.{IsPermutation, MatchOption, slice_get}
use Rattle.negotiation_inputs.specs.Participant.{Participant}
use Rattle.sysmem_merge.specs.Asked.{IsOpenFrom}
use Rattle.sysmem_merge.specs.declared.settings.Settings.{Settings}
use Rattle.verdict_claims.specs.Matter.{Matter}
use Rattle.verdict_claims.specs.Members.{participants}
use Rattle.search_questions.specs.declared.kept.ChoiceShare.{ChoiceShare}
use Rattle.search_questions.specs.declared.kept.PrefixSum.{PrefixSum}
use Rattle.search_questions.specs.declared.levels.Level.{Level}
use Rattle.search_questions.specs.Kept.{IsKeptFor, IsPartFor, HasPairs}
use Rattle.search_questions.specs.Question.{MeetsOf, MeetsSoFar, IsBestOf}
use Rattle.sysmem_tree.specs.Shape.{Member}

-- whole: the members are a selection, else more may come
abbrev pub MeetsAs : Bool → Matter → List Member → Settings → Type 0
MeetsAs true = MeetsOf
MeetsAs false = MeetsSoFar

-- of a selection the best settings, else some
abbrev pub IsBestAs : Bool → Matter → List Member → Settings → Type 0
IsBestAs true = IsBestOf
IsBestAs false = MeetsSoFar

-- settings for the members, or none where none meet them
abbrev pub IsAnswer : Bool → Matter → List Member → Option Settings → Type 0
IsAnswer whole m ms answer =
    MatchOption answer ((t : Settings) → ¬ (MeetsAs whole m ms t)) (IsBestAs whole m ms)

-- the members are of an initial domain, and the first n pairs were looked at
pub record IsOpenOf (n : ℕ) (whole : Bool) (m : Matter) (ms : List Member) : Type 0 where
  pub initial : m.base ≡ None
  pub from : IsOpenFrom n whole m.platform (participants ms)

-- what a look at the n-th pair gives: settings, or one pair more was looked at
abbrev pub IsAnswerAt : ℕ → Bool → Matter → List Member → Option Settings → Type 0
IsAnswerAt n whole m ms found =
    MatchOption found (IsOpenOf (n + 1) whole m ms) (IsBestAs whole m ms)

-- what is kept gives that, where it has the pair, and then still stands for the participants
abbrev pub LooksAt : ℕ → Bool → Matter → PrefixSum → PrefixSum → Option Settings → Type 0
LooksAt n whole m old new found =
    ((ms : List Member) → IsKeptFor m old (participants ms) → HasPairs old (n + 1)
    → IsOpenOf n whole m ms → IsAnswerAt n whole m ms found × IsKeptFor m new (participants ms))
    × ((k : ℕ) → HasPairs old k → HasPairs new k)

-- what is kept of the participants above, then of those of a part, has the pairs up to so many
-- where that above has them, and else is as it was
abbrev pub JoinsPairs : PrefixSum → ChoiceShare → ℕ → PrefixSum → PrefixSum → Type 0
JoinsPairs above part n old new = (m : Matter) (all ps qs : List Participant)
    → IsPermutation (ps ++ qs) all → HasPairs above n → IsKeptFor m old all
    → IsKeptFor m above ps → IsPartFor m part qs → IsKeptFor m new all × HasPairs new n

-- the level at this depth has the pairs up to so many
abbrev pub HasPairsAt : List Level → ℕ → ℕ → Type 0
HasPairsAt levels depth n = IsSomeAnd (slice_get levels depth) (λ level. HasPairs level.kept n)
