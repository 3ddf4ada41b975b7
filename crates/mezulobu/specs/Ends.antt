-- How a call ends that has texts for its caller: what its buffers hold then, and what its sizes
-- say.
use Rattle.std.specs.Prelude.{◌≡◌, ℕ, ◌<◌, ◌⊎◌, List, length}
use Rattle.caller_buffers.specs.Filled.{IsFilled}

-- a call with one text: it is handed out; or (5) it has no room, and its size is said; or (4)
-- memory was refused. Else than where it is handed out the buffer is as it was.
pub data Ends (Says : ℕ → List ℕ → Type 0) (before after : List ℕ) (size : ℕ) : ℕ → Type 0 where
  handed_out : (status : ℕ) (text : List ℕ) → Says status text → size ≡ length text
      → IsFilled text before after → Ends Says before after size status
  too_small : (status : ℕ) (text : List ℕ) → Says status text → size ≡ length text
      → length before < length text → after ≡ before → Ends Says before after size 5
  no_memory : size ≡ 0 → after ≡ before → Ends Says before after size 4

-- a call with two: where one of them has no room, neither is handed out
pub data EndsBoth (Says : ℕ → List ℕ → List ℕ → Type 0)
    (before after other_before other_after : List ℕ) (size other_size : ℕ) : ℕ → Type 0 where
  both_out : (status : ℕ) (text other : List ℕ) → Says status text other → size ≡ length text
      → other_size ≡ length other
      → IsFilled text before after → IsFilled other other_before other_after
      → EndsBoth Says before after other_before other_after size other_size status
  one_too_small : (status : ℕ) (text other : List ℕ) → Says status text other → size ≡ length text
      → other_size ≡ length other
      → (length before < length text) ⊎ (length other_before < length other) → after ≡ before
      → other_after ≡ other_before
      → EndsBoth Says before after other_before other_after size other_size 5
  no_memory_for_both : size ≡ 0 → other_size ≡ 0 → after ≡ before → other_after ≡ other_before
      → EndsBoth Says before after other_before other_after size other_size 4
