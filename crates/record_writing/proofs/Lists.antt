-- The records of the items of a list, one more at a time.
use Rattle.std.proofs.Common.{◌≡◌, ℕ, ◌+◌, ◌<◌, ◌≤◌, List, [], ◌∷◌, ◌++◌, length, get_or, take, sym, ap, ◌∙◌, subst}
use Rattle.std.specs.Prelude.{All, map}
use Rattle.std.proofs.lemmas.List.{map-append, take_more, take_all}
use Rattle.std.proofs.lemmas.List.Elements.{All-push}
use Rattle.serde_json.specs.Data.{Data}
use Rattle.serde_json.specs.View.{view}
use Rattle.serde_json.specs.declared.value.Value.{Value}

-- those so far, and one more
one_more : {X : Type 0} (xs : List X) (i : ℕ) (x : X) → i < length xs → x ≡ get_or xs i x → take (i + 1) xs ≡ take i xs ++ x ∷ []
one_more xs i x within is = take_more xs i x within ∙ ap (λ y. take i xs ++ y ∷ []) (sym is)

pub map-more : {X : Type 0} (written : X → Data) (xs : List X) (i : ℕ) (x : X) (vs : List Value) (v : Value) → i < length xs → x ≡ get_or xs i x
    → map view vs ≡ map written (take i xs) → view v ≡ written x → map view (vs ++ v ∷ []) ≡ map written (take (i + 1) xs)
map-more written xs i x vs v within is so here =
    map-append view vs (v ∷ []) ∙ ap (λ ds. ds ++ view v ∷ []) so ∙ ap (λ d. map written (take i xs) ++ d ∷ []) here
    ∙ sym (ap (map written) (one_more xs i x within is) ∙ map-append written (take i xs) (x ∷ []))

pub map-left : {X : Type 0} (written : X → Data) (xs : List X) (i : ℕ) (vs : List Value) → length xs ≤ i → map view vs ≡ map written (take i xs) → map view vs ≡ map written xs
map-left written xs i vs over so = so ∙ ap (map written) (take_all i xs over)

pub all-more : {X : Type 0} (P : X → Type 0) (xs : List X) (i : ℕ) (x : X) → i < length xs → x ≡ get_or xs i x → All P (take i xs) → P x → All P (take (i + 1) xs)
all-more P xs i x within is before holds = subst (All P) (sym (one_more xs i x within is)) (All-push P (take i xs) x before holds)

pub all-left : {X : Type 0} (P : X → Type 0) (xs : List X) (i : ℕ) → length xs ≤ i → All P (take i xs) → All P xs
all-left P xs i over all = subst (All P) (take_all i xs over) all
