-- Different numbers below one are no more than it.
use Rattle.std.proofs.Common.{◌≡◌, ◌≢◌, ◌<◌, ◌≤◌, ◌||◌, false, true, eqb, inl, inr, ℕ, suc, List, [], ◌∷◌, length, sym, ◌∙◌, ap, subst, arith}
use Rattle.std.specs.Prelude.{All, AllPairs, slice_index_or}
use Rattle.std.specs.List.{AllByRecursion, IsDistinct, list_any}
use Rattle.std.proofs.lemmas.Bool.{cases_eq, ne_eqb}
use Rattle.std.proofs.lemmas.Map.Steps.{length-le_from_distinct_below}

other_heads : (x : ℕ) (ys : List ℕ) → ((k d : ℕ) → k < length ys → x ≢ slice_index_or ys k d) → AllByRecursion (λ y. eqb x y ≡ false) ys
other_heads x [] h = tt
other_heads x (y ∷ ys) h = (ne_eqb x y (h 0 0 (omega arith)), other_heads x ys (λ k d less. h (suc k) d (omega (arith, less))))

distinct_of : (xs : List ℕ) → AllPairs (λ i j. i ≢ j) xs → IsDistinct eqb xs
unfolding IsDistinct
distinct_of [] h = tt
distinct_of (x ∷ xs) h = (
  other_heads x xs (λ k d less. h 0 (suc k) d (omega arith) (omega (arith, less))),
  distinct_of xs (λ i j d less within. h (suc i) (suc j) d (omega (arith, less)) (omega (arith, within))),
)

below_all : (n : ℕ) (xs : List ℕ) → All (λ x. x < n) xs → (q : ℕ) → list_any (eqb q) xs ≡ true → q < n
below_all n [] all q h = absurd (cc)
below_all n (x ∷ xs) all q h = elim (cases_eq q x) [
  | inl same ↦ subst (λ y. y < n) (sym same) (all 0 0 (omega arith))
  | inr other ↦ below_all n xs (λ k d less. all (suc k) d (omega (arith, less))) q (sym (ap (λ b. b || list_any (eqb q) xs) (ne_eqb q x other)) ∙ h)
]

pub few_different : (xs : List ℕ) (n : ℕ) → AllPairs (λ i j. i ≢ j) xs → All (λ x. x < n) xs → length xs ≤ n
few_different xs n differ below = length-le_from_distinct_below xs n (distinct_of xs differ) (below_all n xs below)
