-- A list that is copied item by item, as far as a function sees it.
use Rattle.std.proofs.Common.{◌≡◌, ℕ, ◌+◌, ◌<◌, List, [], ◌∷◌, ◌++◌, length, map, take, get_or, ap, sym, ◌∙◌}
use Rattle.std.proofs.lemmas.List.{map-append, take_more}

pub grown : {A B : Type 0} (f : A → B) (xs hs : List A) (i : ℕ) (x d : A) → i < length hs → map f xs ≡ map f (take i hs) → f x ≡ f (get_or hs i d)
    → map f (xs ++ x ∷ []) ≡ map f (take (i + 1) hs)
grown f xs hs i x d below before same =
    map-append f xs (x ∷ [])
    ∙ (ap (λ l. l ++ f x ∷ []) before
    ∙ (ap (λ y. map f (take i hs) ++ y ∷ []) same
    ∙ (sym (map-append f (take i hs) (get_or hs i d ∷ []))
    ∙ ap (map f) (sym (take_more hs i d below)))))
