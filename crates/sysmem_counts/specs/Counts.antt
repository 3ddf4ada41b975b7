-- How many buffers participants need, and which numbers of buffers suit all of them.
use Rattle.std.specs.Prelude.{ℕ, ◌+◌, ◌≤◌, ◌<◌, max, List, [], ◌∷◌, All, Any, sum_by}
use Rattle.sysmem_counts.specs.declared.bounds.TheConstants.{BUFFER_COUNT_LIMIT}
use Rattle.sysmem_counts.specs.declared.constraints.CountConstraints.{CountConstraints}
use Rattle.sysmem_counts.specs.declared.field.Field.{Field}
use Rattle.sysmem_counts.specs.declared.field.Field.TheVariants.{MinBufferCount, MaxBufferCount}
use Rattle.sysmem_counts.specs.declared.field.Field.TheVariants.{BufferCountLimit}

-- the greatest of these numbers, 0 of none
abbrev pub greatest : {X : Type 0} → (X → ℕ) → List X → ℕ
greatest f [] = 0
greatest f (x ∷ xs) = max (f x) (greatest f xs)

-- the buffers of one participant alone: camping and dedicated slack
abbrev pub own_buffers : CountConstraints → ℕ
own_buffers p = p.min_buffer_count_for_camping + p.min_buffer_count_for_dedicated_slack

-- what the participants hold at once: what each has alone, and the greatest shared slack
abbrev pub held_together : List CountConstraints → ℕ
held_together ps = sum_by own_buffers ps + greatest (λ p. p.min_buffer_count_for_shared_slack) ps

-- the number of buffers suits the participants
pub record IsCounted (ps : List CountConstraints) (count : ℕ) : Type 0 where
  pub some : 1 ≤ count
  pub together : held_together ps ≤ count
  pub minimum : All (λ p. p.min_buffer_count ≤ count) ps
  pub maximum : All (λ p. count ≤ p.max_buffer_count) ps
  pub limit : count ≤ BUFFER_COUNT_LIMIT

-- it suits them, and no smaller number does
pub record IsLeastCount (ps : List CountConstraints) (count : ℕ) : Type 0 where
  pub counted : IsCounted ps count
  pub least : (other : ℕ) → IsCounted ps other → count ≤ other

-- no number of buffers suits them
abbrev pub HasNoCount : List CountConstraints → Type 0
HasNoCount ps = (count : ℕ) → IsCounted ps count → ⊥

-- the least number that they need, whatever the maximums and the limit are
abbrev pub needed : List CountConstraints → ℕ
needed ps = max 1 (max (held_together ps) (greatest (λ p. p.min_buffer_count) ps))

-- a count line is true of participants: they need more than a maximum
-- of theirs, or more than the limit
abbrev pub IsCountLine : Field → List CountConstraints → Type 0
IsCountLine MaxBufferCount ps = Any (λ p. p.max_buffer_count < needed ps) ps
IsCountLine BufferCountLimit ps = BUFFER_COUNT_LIMIT < needed ps
IsCountLine _ ps = ⊥

-- why participants have no count, with the first line that is true of
-- them: a maximum before the limit
abbrev pub IsCountFault : List CountConstraints → Field → Type 0
IsCountFault ps BufferCountLimit =
    All (λ p. needed ps ≤ p.max_buffer_count) ps × (BUFFER_COUNT_LIMIT < needed ps)
IsCountFault ps field = IsCountLine field ps

-- a line is true of participants where the count is fixed: they need more than it,
-- or a maximum of theirs is below it
abbrev pub IsFixedCountLine : ℕ → Field → List CountConstraints → Type 0
IsFixedCountLine count MinBufferCount ps = count < needed ps
IsFixedCountLine count MaxBufferCount ps = Any (λ p. p.max_buffer_count < count) ps
IsFixedCountLine count _ ps = ⊥
