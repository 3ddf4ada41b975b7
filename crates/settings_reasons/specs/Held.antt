-- Which of a participant's entries holds for a pair, and which is never used.
use Rattle.std.specs.Prelude.{◌+◌, ℕ, Bool, ◌||◌, not, All, List, IsTrue, take, is_some}
use Rattle.sysmem_formats.specs.declared.colour_space.ColourSpace.TheVariants.{Srgb}
use Rattle.sysmem_formats.specs.declared.offer.Offer.TheVariants.{Image}
use Rattle.sysmem_formats.specs.declared.offer.Pair.{Pair}
use Rattle.sysmem_image.specs.Entries.{first_match}
use Rattle.sysmem_image.specs.declared.entry.Entry.{Entry}

-- whether one of the entries takes the pair, in whichever colour spaces
abbrev pub takes : List Entry → Pair → Bool
takes entries pair = is_some (first_match (Image pair Srgb) entries)

-- the entry of this index is the first that takes the pair
pub record IsHolder (entries : List Entry) (pair : Pair) (index : ℕ) : Type 0 where
  pub up_to_it : IsTrue (takes (take (index + 1) entries) pair)
  pub not_before : IsTrue (not (takes (take index entries) pair))

-- whether a pair that one of some entries takes is taken by one of those before
abbrev pub is_taken_before : List Entry → List Entry → Pair → Bool
is_taken_before before with pair = not (takes with pair) || takes before pair

-- the entry of this index holds for none of the pairs: each that those up to it take, those before
-- it take
abbrev pub IsNeverUsed : List Pair → List Entry → ℕ → Type 0
IsNeverUsed pairs entries index =
    All (λ pair. IsTrue (is_taken_before (take index entries) (take (index + 1) entries) pair))
    pairs
