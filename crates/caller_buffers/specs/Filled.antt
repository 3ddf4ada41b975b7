-- What a caller's buffer holds.
use Rattle.std.specs.Prelude.{◌≡◌, ℕ, ◌<◌, ◌≤◌, ◌++◌, List, length, drop}

-- a text is at the front of a buffer, which has room for it, and after the text the buffer is as it
-- was
pub record IsFilled (text before after : List ℕ) : Type 0 where
  pub room : length text ≤ length before
  pub bytes : after ≡ text ++ drop (length text) before

-- a text is handed out (0), or the buffer has no room for it and is as it was (5); either way its
-- size is said
pub data Fits (text before after : List ℕ) (size : ℕ) : ℕ → Type 0 where
  fits : size ≡ length text → IsFilled text before after → Fits text before after size 0
  lacks_room : size ≡ length text → length before < length text → after ≡ before
      → Fits text before after size 5
