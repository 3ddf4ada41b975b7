-- Which of two facts holds of numbers and of lists, and the least number that has a property.
use Rattle.std.proofs.Common.{◌≡◌, ◌⊎◌, inl, inr, arith, ℕ, zero, suc, ◌+◌, ◌<◌, ◌≤◌, ◌%◌, Bool, true, false, List, [], ◌∷◌, All, Any, refl, subst}
use Rattle.std.specs.Int.{◌∣◌}
use Rattle.std.proofs.lemmas.Bool.{cases_eq, cases_lt, cases_order}
use Rattle.std.proofs.lemmas.List.Elements.{All-nil, All-cons, All-head, All-tail, All-weaker}
use Rattle.std.proofs.lemmas.Nat.Gcd.{dvd_of_mod-eq-zero, mod-eq-zero_of_dvd}
use Rattle.list_lemmas.proofs.CallerLemmas.{Any-here, Any-later}

-- it is so, or it isn't
abbrev pub Told : Type 0 → Type 0
Told P = P ⊎ (¬ P)

pub told_le : (a b : ℕ) → Told (a ≤ b)
told_le a b = elim (cases_lt b a) as (λ _. Told (a ≤ b)) [ inl above ↦ inr (λ h. omega (arith, above, h)) | inr within ↦ inl within ]

pub told_lt : (a b : ℕ) → Told (a < b)
told_lt a b = elim (cases_lt a b) as (λ _. Told (a < b)) [ inl below ↦ inl below | inr from ↦ inr (λ h. omega (arith, from, h)) ]

pub told_divides : (a b : ℕ) → Told (a ∣ b)
told_divides a b = elim (cases_eq (b % a) 0) as (λ _. Told (a ∣ b)) [ inl even ↦ inl (dvd_of_mod-eq-zero a even) | inr odd ↦ inr (λ d. odd (mod-eq-zero_of_dvd a d)) ]

pub told_bool : (b : Bool) → (b ≡ false) ⊎ (b ≡ true)
told_bool false = inl refl
told_bool true = inr refl

pub told_both : (P Q : Type 0) → Told P → Told Q → Told (P × Q)
told_both P Q (inl p) (inl q) = inl (p, q)
told_both P Q (inl p) (inr fails) = inr (λ both. fails both.1)
told_both P Q (inr fails) q = inr (λ both. fails both.0)

pub told_same : (P Q : Type 0) → (P → Q) → (Q → P) → Told P → Told Q
told_same P Q there back (inl p) = inl (there p)
told_same P Q there back (inr fails) = inr (λ q. fails (back q))

pub told_all : {X : Type 0} (P : X → Type 0) → ((x : X) → Told (P x)) → (xs : List X) → Told (All P xs)
told_all P tell [] = inl (All-nil P)
told_all P tell (x ∷ xs) = by (tell x) (told_all P tell xs) where
  by : Told (P x) → Told (All P xs) → Told (All P (x ∷ xs))
  by (inl p) (inl ps) = inl (All-cons P x xs p ps)
  by (inl p) (inr fails) = inr (λ all. fails (All-tail P x xs all))
  by (inr fails) rest = inr (λ all. fails (All-head P x xs all))

-- where each element has one of two properties, one has the first, or all have the second
pub any_or_all : {X : Type 0} (P Q : X → Type 0) → ((x : X) → P x ⊎ Q x) → (xs : List X) → Any P xs ⊎ All Q xs
any_or_all P Q tell [] = inr (All-nil Q)
any_or_all P Q tell (x ∷ xs) = by (tell x) (any_or_all P Q tell xs) where
  by : P x ⊎ Q x → Any P xs ⊎ All Q xs → Any P (x ∷ xs) ⊎ All Q (x ∷ xs)
  by (inl p) rest = inl (Any-here P x xs p)
  by (inr q) (inl any) = inl (Any-later P x xs any)
  by (inr q) (inr all) = inr (All-cons Q x xs q all)

-- the least number that has the property
pub record HasLeast (P : ℕ → Type 0) : Type 0 where
  pub number : ℕ
  pub holds : P number
  pub least : (k : ℕ) → P k → number ≤ k

-- below a limit some number has the property, or none does
pub search_below : (P : ℕ → Type 0) → ((n : ℕ) → Told (P n)) → (m : ℕ) → HasLeast P ⊎ ((k : ℕ) → k < m → ¬ P k)
search_below P tell zero = inr (λ k below p. omega (arith, below))
search_below P tell (suc m) = by (search_below P tell m) (tell m) where
  by : HasLeast P ⊎ ((k : ℕ) → k < m → ¬ P k) → Told (P m) → HasLeast P ⊎ ((k : ℕ) → k < suc m → ¬ P k)
  by (inl found) t = inl found
  by (inr none) (inl p) = inl (record {
    number = m;
    holds = p;
    least = λ k q. elim (cases_lt k m) as (λ _. m ≤ k) [ inl below ↦ absurd (none k below q) | inr from ↦ from ];
  })
  by (inr none) (inr fails) = inr (λ k below p. elim (cases_order k m) as (λ _. ⊥) [
    | inl same ↦ fails (subst P same p)
    | inr (inl less) ↦ none k less p
    | inr (inr more) ↦ omega (arith, below, more)
  ])

pub least_of : (P : ℕ → Type 0) → ((n : ℕ) → Told (P n)) → (m : ℕ) → P m → HasLeast P
least_of P tell m p = elim (search_below P tell (suc m)) as (λ _. HasLeast P) [ inl found ↦ found | inr none ↦ absurd (none m (omega arith) p) ]

-- a number that isn't below any of a list
pub above_all : {X : Type 0} (f : X → ℕ) (xs : List X) → (m : ℕ) × All (λ x. f x ≤ m) xs
above_all f [] = (0, All-nil (λ x. f x ≤ 0))
above_all f (x ∷ xs) = let rest = above_all f xs in (
  f x + rest.0,
  All-cons (λ y. f y ≤ f x + rest.0) x xs (omega arith) (All-weaker (λ y. f y ≤ rest.0) (λ y. f y ≤ f x + rest.0) (λ y h. omega (arith, h)) xs rest.1),
)
