-- Lists whose elements are written one after the other.
use Rattle.std.proofs.Common.{◌≡◌, ◌<◌, ◌+◌, ℕ, zero, suc, List, [], ◌∷◌, ◌++◌, length, map, take, drop, get_or, slice_set, refl, ◌∙◌, ap, arith}

written_at : {X : Type 0} (f : X → X) (xs : List X) (i : ℕ) (d : X) → i < length xs
    → slice_set (map f (take i xs) ++ drop i xs) i (f (get_or (map f (take i xs) ++ drop i xs) i d)) ≡ map f (take (suc i) xs) ++ drop (suc i) xs
written_at f [] i d less = absurd (omega (arith, less))
written_at f (y ∷ xs) zero d less = refl
written_at f (y ∷ xs) (suc i) d less = ap (λ zs. f y ∷ zs) (written_at f xs i d (omega (arith, less)))

-- the next element is written too
pub written_next : {X : Type 0} (f : X → X) (xs now : List X) (i : ℕ) (d y : X) → now ≡ map f (take i xs) ++ drop i xs → i < length xs → y ≡ f (get_or now i d)
    → slice_set now i y ≡ map f (take (i + 1) xs) ++ drop (i + 1) xs
written_next f xs now i d y so_far less next =
    let one : suc i ≡ i + 1 = omega arith in
    ap (λ z. slice_set now i z) next ∙ (ap (λ zs. slice_set zs i (f (get_or zs i d))) so_far
    ∙ (written_at f xs i d less ∙ ap (λ k. map f (take k xs) ++ drop k xs) one))
