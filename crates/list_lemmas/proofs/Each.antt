-- What a name finds in a list of all there is.
use Rattle.std.proofs.Common.{◌≡◌, ◌↔◌, ℕ, Bool, true, false, cond, List, [], ◌∷◌, Option, Some, None, IfSome, refl, sym, ap, ◌∙◌}
use Rattle.std.specs.Prelude.{bytes_eq, filter, find}
use Rattle.std.proofs.lemmas.Slice.Eq.{bytes_eq-Decides}
use Rattle.list_lemmas.specs.Each.{ListsEach}
use Rattle.list_lemmas.proofs.CallerLemmas.{find_passes}

-- what a test finds is the first of those that pass it
find_filter : {X : Type 0} (p : X → Bool) (xs ys : List X) (x : X) → filter p xs ≡ x ∷ ys → find p xs ≡ Some x
find_filter p [] ys x e = absurd (cc)
find_filter p (y ∷ xs) ys x e = at (p y) refl e (find_filter p xs ys x) where
  at : (b : Bool) → p y ≡ b → cond b (y ∷ filter p xs) (filter p xs) ≡ x ∷ ys → (filter p xs ≡ x ∷ ys → find p xs ≡ Some x) → cond b (Some y) (find p xs) ≡ Some x
  at true t e rest = cc
  at false t e rest = rest e

-- each is found by its own name
pub found_own : {X : Type 0} (name_of : X → List ℕ) (xs : List X) → ListsEach name_of xs → (x : X) → find (λ y. bytes_eq (name_of y) (name_of x)) xs ≡ Some x
found_own name_of xs each x = find_filter (λ y. bytes_eq (name_of y) (name_of x)) xs [] x (each x)

-- what is found has the name
of_name : {X : Type 0} (name_of : X → List ℕ) (name : List ℕ) (x : X) (r : Option X) → r ≡ Some x → IfSome r (λ y. bytes_eq (name_of y) name ≡ true) → name ≡ name_of x
of_name name_of name x None is passes = absurd (cc)
of_name name_of name x (Some y) is passes = let e : y ≡ x = cc in sym ((bytes_eq-Decides (name_of x) name).0 (ap (λ z. bytes_eq (name_of z) name) (sym e) ∙ passes))

-- what a name finds is the one that has it
pub found_each : {X : Type 0} (name_of : X → List ℕ) (xs : List X) → ListsEach name_of xs → (name : List ℕ) (r : Option X) → r ≡ find (λ y. bytes_eq (name_of y) name) xs → (x : X) → (r ≡ Some x) ↔ (name ≡ name_of x)
found_each name_of xs each name r found x = (
  λ is. of_name name_of name x (find (λ y. bytes_eq (name_of y) name) xs) (sym found ∙ is) (find_passes (λ y. bytes_eq (name_of y) name) xs),
  λ e. found ∙ ap (λ n. find (λ y. bytes_eq (name_of y) n) xs) e ∙ found_own name_of xs each x,
)
