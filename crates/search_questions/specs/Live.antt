-- Which prefixes a search with cuts goes through.
use Rattle.std.specs.Prelude.{◌≡◌, ◌<◌, ◌⊎◌, ℕ, List, [], ◌∷◌, Option}
use Rattle.std.specs.Prelude.{IsSomeAnd, option_and_then, slice_get}
use Rattle.sysmem_merge.specs.declared.settings.Settings.{Settings}
use Rattle.verdict_claims.specs.Verdict.{Meeting}
use Rattle.sysmem_tree.specs.Forest.{Forest, choices, settled}
use Rattle.sysmem_tree.specs.Shape.{Member}

-- some settings meet what is settled
abbrev pub SomeMeet : Meeting → Forest Member → Type 0
SomeMeet Met d = (t : Settings) × Met (settled d) t

-- the forest after a choice for its first group; none where that is no child, or no group is left
abbrev pub choose : Forest Member → ℕ → Option (Forest Member)
choose d c = option_and_then (λ es. slice_get es c) (choices d)

-- the choices can be made, and before each of them what is settled can be met
abbrev pub IsLive : Meeting → Forest Member → List ℕ → Type 0
IsLive Met d [] = Unit {0}
IsLive Met d (c ∷ cs) = SomeMeet Met d × IsSomeAnd (choose d c) (λ e. IsLive Met e cs)

-- the choices begin the selection, or are earlier
abbrev pub IsNotLater : List ℕ → List ℕ → Type 0
IsNotLater [] selection = Unit {0}
IsNotLater (c ∷ cs) [] = ⊥
IsNotLater (c ∷ cs) (s ∷ selection) = (c < s) ⊎ ((c ≡ s) × IsNotLater cs selection)

-- live choices that begin the selection, or are earlier
pub record IsLiveUpTo (Met : Meeting) (d : Forest Member) (selection cs : List ℕ) : Type 0 where
  pub live : IsLive Met d cs
  pub not_later : IsNotLater cs selection
