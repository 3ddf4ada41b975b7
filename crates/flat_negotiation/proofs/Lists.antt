-- Lists that are made item by item.
use Rattle.std.proofs.Common.{◌≡◌, ℕ, ◌+◌, ◌<◌, ◌≤◌, List, [], ◌∷◌, ◌++◌, length, get_or, take, sym, ap, ◌∙◌, subst, arith, below_more, Option, Some, slice_get, inl, inr}
use Rattle.std.specs.List.{AllZip}
use Rattle.flat_negotiation.specs.Own.{HoldsNowhere, IsFirstAt}
use Rattle.std.proofs.lemmas.List.{take_more, take_all}
use Rattle.std.proofs.lemmas.Option.{slice_get_cases}
use Rattle.std.proofs.lemmas.Slice.Zip.{all_zipped_more}

-- one more of two lists whose items are related
pub zip-more : {A B : Type 0} (R : A → B → Type 0) (xs : List A) (ys zs : List B) (i : ℕ) (d : A) (y : B) → i < length xs
    → AllZip R (take i xs) ys → R (get_or xs i d) y → zs ≡ ys ++ y ∷ [] → AllZip R (take (i + 1) xs) zs
zip-more R xs ys zs i d y within before holds made =
    subst (λ l. AllZip R l zs) (sym (take_more xs i d within)) (subst (λ l. AllZip R (take i xs ++ get_or xs i d ∷ []) l) (sym made) (all_zipped_more R (take i xs) ys (get_or xs i d) y before holds))

-- what holds of those so far and one more
pub so-more : {X : Type 0} (P : List X → Type 0) (xs : List X) (i : ℕ) (x : X) → i < length xs → x ≡ get_or xs i x → P (take i xs ++ x ∷ []) → P (take (i + 1) xs)
so-more P xs i x within is holds = subst P (sym (take_more xs i x within ∙ ap (λ y. take i xs ++ y ∷ []) (sym is))) holds

-- what holds of all, of as many as there are or more
pub so-all : {X : Type 0} (P : List X → Type 0) (xs : List X) (i : ℕ) → length xs ≤ i → P xs → P (take (i + 1) xs)
so-all P xs i over holds = subst P (sym (take_all (i + 1) xs (omega (arith, over)))) holds

-- all, where there are as many or fewer
pub all-up-to : {X : Type 0} (xs : List X) (i : ℕ) → length xs ≤ i → xs ≡ take (i + 1) xs
all-up-to xs i over = sym (take_all (i + 1) xs (omega (arith, over)))

-- none of those so far, nor one more
pub none-more : {X : Type 0} (P : X → Type 0) (xs : List X) (i : ℕ) (x : X) → slice_get xs i ≡ Some x → ¬ P x → ((k : ℕ) (y : X) → k < i → slice_get xs k ≡ Some y → ¬ P y)
    → (k : ℕ) (y : X) → k < i + 1 → slice_get xs k ≡ Some y → ¬ P y
none-more P xs i x here fails before k y below there =
    below_more (λ j. (p : _) → slice_get xs j ≡ Some p → ¬ P p) i (λ j less p that. before j p less that) (λ p that holds. let same : p ≡ x = (cc) in fails (subst P same holds)) k below y there

-- where no item has the property, none is the first to have it
pub no-first : {X : Type 0} (P : X → Type 0) (xs : List X) → HoldsNowhere P xs → ((x : X) × IsFirstAt P xs x) → ⊥
no-first P xs none some = elim (slice_get_cases xs some.1.index).1 as (λ _. ⊥) [
  | inl inside ↦ none.none some.1.index some.0 inside.1 some.1.here some.1.holds
  | inr past ↦ (let gone = past.1 in let there = some.1.here in absurd (cc))
]
