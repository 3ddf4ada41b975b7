-- What is taken of a list is taken of it in another order too.
use Rattle.std.proofs.Common.{◌<◌, ℕ, zero, suc, List, [], ◌∷◌, Option, Some, None, length, slice_set, arith}
use Rattle.std.specs.Prelude.{slice_index_or}
use Rattle.std.specs.List.{filter_map, cons_option, swap}
use Rattle.std.specs.List.Sorted.{IsPermutation}
use Rattle.std.proofs.lemmas.List.Sorted.{IsPermutation-refl, IsPermutation-trans, IsPermutation-cons, IsPermutation-middle, IsPermutation-keeps}

cons_same : {Y : Type 0} (o : Option Y) (r s : List Y) → IsPermutation r s → IsPermutation (cons_option o r) (cons_option o s)
cons_same None r s h = h
cons_same (Some y) r s h = IsPermutation-cons y r s h

heads_swap : {Y : Type 0} (o u : Option Y) (r : List Y) → IsPermutation (cons_option o (cons_option u r)) (cons_option u (cons_option o r))
heads_swap None u r = IsPermutation-refl (cons_option u r)
heads_swap (Some x) None r = IsPermutation-refl (x ∷ r)
heads_swap (Some x) (Some y) r = IsPermutation-middle (x ∷ []) y r

module _ {X Y : Type 0} (f : X → Option Y) where
  front_swap : (l : List X) (j : ℕ) (x d : X) → j < length l → IsPermutation (filter_map f (x ∷ l)) (filter_map f (slice_index_or l j d ∷ slice_set l j x))
  front_swap [] j x d less = absurd (omega (arith, less))
  front_swap (y ∷ l) zero x d less = heads_swap (f x) (f y) (filter_map f l)
  front_swap (y ∷ l) (suc j) x d less =
      let g = slice_index_or l j d in
      let s = slice_set l j x in
      IsPermutation-trans (cons_option (f x) (cons_option (f y) (filter_map f l))) (cons_option (f y) (cons_option (f x) (filter_map f l))) (cons_option (f g) (cons_option (f y) (filter_map f s)))
      (heads_swap (f x) (f y) (filter_map f l))
      (IsPermutation-trans (cons_option (f y) (cons_option (f x) (filter_map f l))) (cons_option (f y) (cons_option (f g) (filter_map f s))) (cons_option (f g) (cons_option (f y) (filter_map f s)))
      (cons_same (f y) (cons_option (f x) (filter_map f l)) (cons_option (f g) (filter_map f s)) (front_swap l j x d (omega (arith, less))))
      (heads_swap (f y) (f g) (filter_map f s)))

  swapped : (l : List X) (i j : ℕ) (d : X) → i < length l → j < length l → IsPermutation (filter_map f l) (filter_map f (slice_set (slice_set l i (slice_index_or l j d)) j (slice_index_or l i d)))
  swapped [] i j d a b = absurd (omega (arith, a))
  swapped (y ∷ l) zero zero d a b = IsPermutation-refl (filter_map f (y ∷ l))
  swapped (y ∷ l) zero (suc j) d a b = front_swap l j y d (omega (arith, b))
  swapped (y ∷ l) (suc i) zero d a b = front_swap l i y d (omega (arith, a))
  swapped (y ∷ l) (suc i) (suc j) d a b = cons_same (f y) (filter_map f l) (filter_map f (slice_set (slice_set l i (slice_index_or l j d)) j (slice_index_or l i d)))
      (swapped l i j d (omega (arith, a)) (omega (arith, b)))

  one_swap : (l : List X) (i j : ℕ) → i < length l → j < length l → IsPermutation (filter_map f l) (filter_map f (swap l i j))
  one_swap [] i j a b = absurd (omega (arith, a))
  one_swap (d ∷ ys) i j a b = swapped (d ∷ ys) i j d a b

  -- taken of lists that are one but for their order
  pub taken_in_order : (xs ys : List X) → IsPermutation xs ys → IsPermutation (filter_map f xs) (filter_map f ys)
  taken_in_order xs ys order = IsPermutation-keeps xs (λ l. IsPermutation (filter_map f xs) (filter_map f l)) (IsPermutation-refl (filter_map f xs))
      (λ l i j a b h. IsPermutation-trans (filter_map f xs) (filter_map f l) (filter_map f (swap l i j)) h (one_swap l i j a b)) ys order
