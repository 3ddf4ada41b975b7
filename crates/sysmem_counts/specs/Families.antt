-- The families of usages, by their names and bits.
use Rattle.std.specs.Prelude.{ℕ, List, [], ◌∷◌, Option, codes}
use Rattle.bitflags.specs.Sets.{find_name}

-- each family's name and its bit
abbrev pub families : List (List ℕ × ℕ)
families = (codes "none", 1) ∷ (codes "cpu", 2) ∷ (codes "vulkan", 4) ∷ (codes "display", 8)
    ∷ (codes "video", 16) ∷ []

-- the bit of the family of this name
abbrev pub family_named : List ℕ → Option ℕ
family_named name = find_name families name
