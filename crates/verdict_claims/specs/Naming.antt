-- Which members a list of paths names.
use Rattle.std.specs.Prelude.{◌≡◌, ◌≢◌, ℕ, ◌==◌, Bool, List, Option, Some, map}
use Rattle.std.specs.Prelude.{option_and_then, find, AllPairs}
use Rattle.std.specs.Cmp.Lexicographic.{pointwise}
use Rattle.negotiation_inputs.specs.Participant.{Participant}
use Rattle.sysmem_tree.specs.Shape.{Member}

-- the two paths are one
abbrev pub same_path : List ℕ → List ℕ → Bool
same_path a b = pointwise ◌==◌ a b

-- what the participant at the path asks, if there is one
abbrev pub asked_at : List Member → List ℕ → Option Participant
asked_at ms path = option_and_then (λ m. m.constraints) (find (λ m. same_path m.path path) ms)

-- each path is that of a participant, none is given twice, and this is
-- what those ask, in the same order
pub record Names (ms : List Member) (paths : List (List ℕ)) (ps : List Participant) : Type 0 where
  pub each : map (asked_at ms) paths ≡ map (λ p. Some p) ps
  pub once : AllPairs (λ p q. p ≢ q) paths

-- a fact is true of what the participants at these paths ask
abbrev pub IsTrueOf : List Member → List (List ℕ) → (List Participant → Type 0) → Type 0
IsTrueOf ms paths P = (ps : List Participant) × Names ms paths ps × P ps
