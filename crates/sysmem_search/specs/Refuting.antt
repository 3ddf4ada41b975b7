-- What refutes a forest that can't be met, and the first choices for its first group.
use Rattle.std.specs.Prelude.{◌≡◌, ◌++◌, ℕ, List, IsSomeAnd, take}
use Rattle.std.specs.List.{AllZip}
use Rattle.verdict_claims.specs.Certificate.{IsRefutation}
use Rattle.verdict_claims.specs.Matter.{Matter, terms}
use Rattle.verdict_claims.specs.declared.refutation.Item.{Item}
use Rattle.sysmem_search.specs.Cut.{IsCut}
use Rattle.sysmem_tree.specs.Forest.{Forest, choices}
use Rattle.sysmem_tree.specs.Shape.{Member}

-- a refutation of the forest joined the items
pub record AddsRefutation (m : Matter) (d : Forest Member) (old new : List Item) : Type 0 where
  pub refutation : List Item
  pub items : new ≡ old ++ refutation
  pub refutes : IsRefutation m.platform (terms m) d refutation
  pub cut : IsCut m d refutation

-- the items refute the forest, and end where they can
abbrev pub IsCutRefutation : Matter → Forest Member → List Item → Type 0
IsCutRefutation m d items = IsRefutation m.platform (terms m) d items × IsCut m d items

-- refutations of the first choices for the first group, so many, one of each
abbrev pub RefutesFirst : Matter → Forest Member → ℕ → List (List Item) → Type 0
RefutesFirst m d c refutations =
    IsSomeAnd (choices d) (λ es. AllZip (IsCutRefutation m) (take c es) refutations)
