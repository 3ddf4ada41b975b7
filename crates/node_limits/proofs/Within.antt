-- A node that is there isn't none.
use Rattle.std.proofs.Common.{◌≡◌, ◌<◌, ℕ, zero, suc, List, [], ◌∷◌, None, length, slice_get, arith}

pub not_past : {X : Type 0} (xs : List X) (i : ℕ) → i < length xs → slice_get xs i ≡ None → ⊥
not_past [] i less none = absurd (omega (arith, less))
not_past (x ∷ xs) zero less none = absurd (cc)
not_past (x ∷ xs) (suc i) less none = not_past xs i (omega (arith, less)) none
