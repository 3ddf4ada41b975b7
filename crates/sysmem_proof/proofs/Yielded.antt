-- Loops over the paths of a list.
use Rattle.std.proofs.Common.{◌≡◌, ◌<◌, ℕ, ◌+◌, List, ◌∷◌, ◌++◌, [], Option, Some, None, Bor, length, get_or}
use Rattle.std.specs.Iterator.{Yields, YieldsFirstRef}
use Rattle.std.proofs.lemmas.Iterator.Consumers.{YieldsList-from_first, YieldsList-turn, YieldsList-end}
use Rattle.std.proofs.lemmas.List.{length_push}

-- what a call of `next` did
abbrev Steps : List (List ℕ) → Option (Bor (List ℕ)) → List (List ℕ) → Type 0
Steps = YieldsFirstRef (λ left. left)

-- a path that comes behind others: it is the one at their number
pub record Comes (paths : List (List ℕ)) (xs : List (Bor (List ℕ))) (path : Bor (List ℕ)) : Type 0 where
  pub inside : length xs < length paths
  pub is : path.now ≡ get_or paths (length xs) path.now
  pub one_more : length (xs ++ path ∷ []) ≡ length xs + 1

module _ {start : List (List ℕ)} (paths : List (List ℕ)) (is : start ≡ paths) (xs : List (Bor (List ℕ))) (left : List (List ℕ)) (came : Yields Steps start xs left) where
  pub comes : (r : Option (Bor (List ℕ))) (others : List (List ℕ)) (path : Bor (List ℕ)) → r ≡ Some path → Steps left r others → Comes paths xs path
  comes r others path some steps =
      let turn = YieldsList-turn (YieldsList-from_first (λ (p : Bor (List ℕ)). p.now) (λ (s : List (List ℕ)). s) paths is) xs left came r others path some steps in
      record { inside = turn.0; is = turn.1; one_more = length_push xs path }

  -- at the end all came
  pub all_came : (r : Option (Bor (List ℕ))) (others : List (List ℕ)) → r ≡ None → Steps left r others → length xs ≡ length paths
  all_came r others none steps = (YieldsList-end (YieldsList-from_first (λ (p : Bor (List ℕ)). p.now) (λ (s : List (List ℕ)). s) paths is) xs left came r others none steps).1
