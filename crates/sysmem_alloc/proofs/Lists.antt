-- Lists of which all elements have something, and lists without a repeat.
use Rattle.std.proofs.Common.{◌≡◌, ◌≢◌, ℕ, ◌+◌, Bool, true, false, not, ◌&&◌, List, [], ◌∷◌, ◌++◌, length, refl, ◌∙◌, ap, arith}
use Rattle.std.specs.Prelude.{filter, if◌then◌else◌}
use Rattle.std.specs.List.{AllByRecursion}
use Rattle.sysmem_alloc.specs.Sound.{AreDistinct}

module _ {X : Type 0} where
  pub all_append : (P : X → Type 0) (xs ys : List X) → AllByRecursion P xs → AllByRecursion P ys → AllByRecursion P (xs ++ ys)
  all_append P [] ys a b = b
  all_append P (x ∷ xs) ys a b = (a.0, all_append P xs ys a.1 b)

  pub all_weaken : (P Q : X → Type 0) (xs : List X) → ((x : X) → P x → Q x) → AllByRecursion P xs → AllByRecursion Q xs
  all_weaken P Q [] h a = tt
  all_weaken P Q (x ∷ xs) h a = (h x a.0, all_weaken P Q xs h a.1)

  pub all_each : (P : X → Type 0) (xs : List X) → ((x : X) → P x) → AllByRecursion P xs
  all_each P [] h = tt
  all_each P (x ∷ xs) h = (h x, all_each P xs h)

  -- of what passes a test, the test is true, and what is true of all is true
  pub all_filter : (P : X → Type 0) (p : X → Bool) (xs : List X) → AllByRecursion P xs → AllByRecursion (λ x. P x × (p x ≡ true)) (filter p xs)
  all_filter P p [] a = tt
  all_filter P p (x ∷ xs) a = at (p x) refl (all_filter P p xs a.1) where
    at : (b : Bool) → p x ≡ b → AllByRecursion (λ x. P x × (p x ≡ true)) (filter p xs) → AllByRecursion (λ x. P x × (p x ≡ true)) (if b then x ∷ filter p xs else filter p xs)
    at true is rest = ((a.0, is), rest)
    at false is rest = rest

  -- where none passes
  pub none_pass : (p : X → Bool) (xs : List X) → AllByRecursion (λ x. p x ≡ false) xs → filter p xs ≡ []
  none_pass p [] a = refl
  none_pass p (x ∷ xs) a = ap (λ b. if b then x ∷ filter p xs else filter p xs) a.0 ∙ none_pass p xs a.1

pub apart_append : (xs ys : List ℕ) → AreDistinct xs → AreDistinct ys → AllByRecursion (λ x. AllByRecursion (λ y. x ≢ y) ys) xs → AreDistinct (xs ++ ys)
apart_append [] ys a b c = b
apart_append (x ∷ xs) ys a b c = (all_append (λ y. x ≢ y) xs ys a.0 c.0, apart_append xs ys a.1 b c.1)

all_kept : (P : ℕ → Type 0) (p : ℕ → Bool) (xs : List ℕ) → AllByRecursion P xs → AllByRecursion P (filter p xs)
all_kept P p xs a = all_weaken (λ x. P x × (p x ≡ true)) P (filter p xs) (λ x h. h.0) (all_filter P p xs a)

pub apart_filter : (p : ℕ → Bool) (xs : List ℕ) → AreDistinct xs → AreDistinct (filter p xs)
apart_filter p [] a = tt
apart_filter p (x ∷ xs) a = at (p x) (apart_filter p xs a.1) where
  at : (b : Bool) → AreDistinct (filter p xs) → AreDistinct (if b then x ∷ filter p xs else filter p xs)
  at true rest = (all_kept (λ y. x ≢ y) p xs a.0, rest)
  at false rest = rest

-- how many pass a second test that passes whatever passes a first one: as many as pass that, and
-- those that pass the second alone
pub pass_more : (p q : ℕ → Bool) (xs : List ℕ) → AllByRecursion (λ x. p x ≡ true → q x ≡ true) xs
    → length (filter q xs) ≡ length (filter p xs) + length (filter (λ x. q x && not (p x)) xs)
pass_more p q [] a = refl
pass_more p q (x ∷ xs) a = at (p x) (q x) a.0 (pass_more p q xs a.1) where
  at : (b c : Bool) → (b ≡ true → c ≡ true) → length (filter q xs) ≡ length (filter p xs) + length (filter (λ x. q x && not (p x)) xs)
      → length (if c then x ∷ filter q xs else filter q xs)
      ≡ length (if b then x ∷ filter p xs else filter p xs) + length (if c && not b then x ∷ filter (λ x. q x && not (p x)) xs else filter (λ x. q x && not (p x)) xs)
  at true true h ih = omega (arith, ih)
  at true false h ih = let e = h refl in absurd (cc)
  at false true h ih = omega (arith, ih)
  at false false h ih = omega (arith, ih)
