-- What a transfer takes from a reader and leaves in a writer.
use Rattle.std.specs.Prelude.{ℕ, ◌+◌, ◌≤◌, List, length, take, Option}
use Rattle.std.specs.Io.KnownBytes.{Appends, Consumes, IsAtEnd}

-- The bytes were taken from the reader. They are all that it had,
-- unless they are more than the limit.
pub record ReadsToLimit (limit : ℕ) (old new : Option (List ℕ)) (bytes : List ℕ) : Type 0 where
  pub taken : Consumes old new bytes
  pub all : length bytes ≤ limit → IsAtEnd new

-- Nothing but some bytes was taken from the reader, at most one more than the limit.
pub record ReadsFew (limit : ℕ) (old new : Option (List ℕ)) : Type 0 where
  pub bytes : List ℕ
  pub taken : Consumes old new bytes
  pub few : length bytes ≤ limit + 1

-- Nothing but a prefix of the bytes was written.
pub record WritesFront (old new : Option (List ℕ)) (bytes : List ℕ) : Type 0 where
  pub count : ℕ
  pub written : Appends old new (take count bytes)
