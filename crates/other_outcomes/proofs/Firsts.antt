-- Lists with an item first.
use Rattle.std.proofs.Common.{◌≡◌, ◌∙◌, ◌++◌, ◌∷◌, ◌+◌, ◌<◌, [], ℕ, List, Bool, true, false, cond, length, sym, ap, get_or, take}
use Rattle.std.specs.List.{filter}
use Rattle.std.proofs.lemmas.List.{append-nil}
use Rattle.std.proofs.lemmas.List.Elements.{filter_more}

-- one more that is kept
pub kept_more : {X : Type 0} (p : X → Bool) (x : X) (xs made : List X) (i : ℕ) (d : X) → i < length xs → made ≡ x ∷ filter p (take i xs) → p (get_or xs i d) ≡ true
    → made ++ get_or xs i d ∷ [] ≡ x ∷ filter p (take (i + 1) xs)
kept_more p x xs made i d within so_far is_kept =
    ap (λ ys. ys ++ get_or xs i d ∷ []) so_far
    ∙ ap (λ ys. x ∷ ys) (sym (filter_more p xs i d within ∙ ap (λ b. filter p (take i xs) ++ cond b (get_or xs i d ∷ []) []) is_kept))

-- one more that isn't
pub dropped_more : {X : Type 0} (p : X → Bool) (x : X) (xs made : List X) (i : ℕ) (d : X) → i < length xs → made ≡ x ∷ filter p (take i xs) → p (get_or xs i d) ≡ false
    → made ≡ x ∷ filter p (take (i + 1) xs)
dropped_more p x xs made i d within so_far is_dropped =
    so_far ∙ ap (λ ys. x ∷ ys) (sym (filter_more p xs i d within ∙ (ap (λ b. filter p (take i xs) ++ cond b (get_or xs i d ∷ []) []) is_dropped ∙ append-nil (filter p (take i xs)))))
