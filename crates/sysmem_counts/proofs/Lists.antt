-- The greatest, the least, and some of a list.
use Rattle.std.proofs.Common.{arith, ℕ, zero, suc, ◌≡◌, ◌≤◌, ◌<◌, ◌^◌, max, min, List, [], ◌∷◌, ◌++◌, refl, All, Any, ◌⊎◌, inl, inr}
use Rattle.std.proofs.lemmas.List.Elements.{All-nil, All-cons, All-head, All-tail}
use Rattle.std.proofs.lemmas.List.Recursion.{max_push}
use Rattle.std.proofs.lemmas.List.Sorted.{All-permutation, IsPermutation-sym}
use Rattle.std.specs.List.Sorted.{IsPermutation}
use Rattle.list_lemmas.proofs.CallerLemmas.{All-some, Any-here, Any-later, some_in_order}
use Rattle.list_lemmas.specs.Some.{AreSomeOf}
use Rattle.sysmem_counts.specs.Bounds.{least, most_number}
use Rattle.sysmem_counts.specs.Counts.{greatest}

-- one more number: the greatest is the greater of the greatest so far and it
pub greatest-push : {X : Type 0} (f : X → ℕ) (xs : List X) (x : X) → greatest f (xs ++ x ∷ []) ≡ max (greatest f xs) (f x)
greatest-push f xs x = max_push (greatest f) f refl (λ _ _. refl) xs x

-- and the least is the lesser, where it is of 32 bits
pub least-push : {X : Type 0} (f : X → ℕ) (xs : List X) (x : X) → f x < 2 ^ 32 → least f (xs ++ x ∷ []) ≡ min (least f xs) (f x)
least-push f [] x small = omega arith
least-push f (y ∷ xs) x small = omega (arith, least-push f xs x small)

-- the greatest of two lists is the greater of theirs
pub greatest-append : {X : Type 0} (f : X → ℕ) (xs ys : List X) → greatest f (xs ++ ys) ≡ max (greatest f xs) (greatest f ys)
greatest-append f [] ys = omega arith
greatest-append f (x ∷ xs) ys = omega (arith, greatest-append f xs ys)

-- the least of a list is of 32 bits
least_small : {X : Type 0} (f : X → ℕ) (xs : List X) → least f xs ≤ most_number
least_small f [] = omega arith
least_small f (x ∷ xs) = omega (arith, least_small f xs)

-- the least of two lists is the lesser of theirs
pub least-append : {X : Type 0} (f : X → ℕ) (xs ys : List X) → least f (xs ++ ys) ≡ min (least f xs) (least f ys)
least-append f [] ys = omega (arith, least_small f ys)
least-append f (x ∷ xs) ys = omega (arith, least-append f xs ys)

-- a bound of each number bounds the greatest
pub greatest_within : {X : Type 0} (f : X → ℕ) (m : ℕ) (xs : List X) → All (λ x. f x ≤ m) xs → greatest f xs ≤ m
greatest_within f m [] all = omega arith
greatest_within f m (x ∷ xs) all = omega (arith, All-head (λ x. f x ≤ m) x xs all, greatest_within f m xs (All-tail (λ x. f x ≤ m) x xs all))

-- each number is at most a bound of the greatest
pub within_greatest : {X : Type 0} (f : X → ℕ) (m : ℕ) (xs : List X) → greatest f xs ≤ m → All (λ x. f x ≤ m) xs
within_greatest f m [] bound = All-nil (λ x. f x ≤ m)
within_greatest f m (x ∷ xs) bound = All-cons (λ x. f x ≤ m) x xs (omega (arith, bound)) (within_greatest f m xs (omega (arith, bound)))

-- what the least reaches, each number does
pub above_least : {X : Type 0} (f : X → ℕ) (m : ℕ) (xs : List X) → m ≤ least f xs → All (λ x. m ≤ f x) xs
above_least f m [] bound = All-nil (λ x. m ≤ f x)
above_least f m (x ∷ xs) bound = All-cons (λ x. m ≤ f x) x xs (omega (arith, bound)) (above_least f m xs (omega (arith, bound)))

split : (a b : ℕ) → (a ≤ b) ⊎ (b < a)
split zero b = inl (omega arith)
split (suc a) zero = inr (omega arith)
split (suc a) (suc b) = elim (split a b) [ inl le ↦ inl (omega (arith, le)) | inr lt ↦ inr (omega (arith, lt)) ]

-- a number of 32 bits above the least is above one of them
pub one_below : {X : Type 0} (f : X → ℕ) (m : ℕ) (xs : List X) → m < 2 ^ 32 → least f xs < m → Any (λ x. f x < m) xs
one_below f m [] small below = absurd (omega (arith, small, below))
one_below f m (x ∷ xs) small below = elim (split m (f x)) [
  | inl high ↦ Any-later (λ x. f x < m) x xs (one_below f m xs small (omega (arith, below, high)))
  | inr low ↦ Any-here (λ x. f x < m) x xs low
]

-- and any number above the least is above one of them, where there are some and each is of 32 bits
pub one_below_any : {X : Type 0} (f : X → ℕ) (m : ℕ) (x : X) (xs : List X) → All (λ y. f y < 2 ^ 32) (x ∷ xs) → least f (x ∷ xs) < m → Any (λ y. f y < m) (x ∷ xs)
one_below_any f m x xs fits below = elim (split (2 ^ 32) m) [
  | inl large ↦ Any-here (λ y. f y < m) x xs (omega (arith, large, All-head (λ y. f y < 2 ^ 32) x xs fits))
  | inr small ↦ one_below f m (x ∷ xs) small below
]

-- some of the numbers have no greater one than all
pub greatest_some : {X : Type 0} (f : X → ℕ) (some all : List X) → AreSomeOf some all → greatest f some ≤ greatest f all
greatest_some f some all among = greatest_within f (greatest f all) some
    (All-some (λ x. f x ≤ greatest f all) some all among (within_greatest f (greatest f all) all (omega arith)))

-- nor is theirs any greater than that of the same numbers in another order
pub greatest_in_order : {X : Type 0} (f : X → ℕ) (xs ys : List X) → IsPermutation xs ys → greatest f xs ≡ greatest f ys
greatest_in_order f xs ys order =
    omega (arith, greatest_some f xs ys (some_in_order xs ys order), greatest_some f ys xs (some_in_order ys xs (IsPermutation-sym xs ys order)))

-- the least of numbers of 32 bits is the same in another order
pub least_in_order : {X : Type 0} (f : X → ℕ) (xs ys : List X) → IsPermutation xs ys → least f xs ≡ least f ys
least_in_order {X} f xs ys order =
    omega (arith, least_at_most xs ys order, least_at_most ys xs (IsPermutation-sym xs ys order)) where
      above : (m : ℕ) (zs : List X) → m ≤ most_number → All (λ z. m ≤ f z) zs → m ≤ least f zs
      above m [] fits all = fits
      above m (z ∷ zs) fits all = omega (arith, All-head (λ z. m ≤ f z) z zs all, above m zs fits (All-tail (λ z. m ≤ f z) z zs all))

      least_at_most : (us vs : List X) → IsPermutation us vs → least f us ≤ least f vs
      least_at_most us vs order = above (least f us) vs (least_small f us)
          (All-permutation (λ z. least f us ≤ f z) us vs order (above_least f (least f us) us (omega arith)))
