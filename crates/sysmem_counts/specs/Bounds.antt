-- What is kept of the counts that were asked.
use Rattle.std.specs.Prelude.{ℕ, ◌≡◌, ◌^◌, ◌<◌, min, List, [], ◌∷◌, All, sum_by}
use Rattle.sysmem_counts.specs.Counts.{greatest, own_buffers}
use Rattle.sysmem_counts.specs.Tally.{Tally}
use Rattle.sysmem_counts.specs.declared.constraints.CountConstraints.{CountConstraints}

-- the greatest number of 32 bits
abbrev pub most_number : ℕ
most_number = 4294967295

-- the least of these numbers, the greatest of 32 bits of none
abbrev pub least : {X : Type 0} → (X → ℕ) → List X → ℕ
least f [] = most_number
least f (x ∷ xs) = min (f x) (least f xs)

-- what is kept of these participants
abbrev pub tally : List CountConstraints → Tally
tally ps = record {
  own = sum_by own_buffers ps;
  shared = greatest (λ p. p.min_buffer_count_for_shared_slack) ps;
  minimum = greatest (λ p. p.min_buffer_count) ps;
  maximum = least (λ p. p.max_buffer_count) ps;
}

-- what is kept stands for these participants, whose maximums are of 32 bits
pub record IsTallyOf (kept : Tally) (ps : List CountConstraints) : Type 0 where
  pub tallied : kept ≡ tally ps
  pub fits : All (λ p. p.max_buffer_count < 2 ^ 32) ps
