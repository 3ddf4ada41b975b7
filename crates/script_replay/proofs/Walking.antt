-- A walk over roots that adds what happens to those that pass a test.
use Rattle.std.proofs.Common.{◌≡◌, ◌≤◌, ◌<◌, ℕ, zero, suc, ◌+◌, Bool, true, false, List, [], ◌∷◌, ◌++◌, length, drop, Option, Some, None, slice_get, refl, sym, ◌∙◌, ap, arith, append-nil, append_assoc}
use Rattle.std.specs.Prelude.{filter, map, option_and_then, if◌then◌else◌}

-- what is there, if it passes the test
abbrev pub picked : (ℕ → Bool) → Option ℕ → Option ℕ
picked p o = option_and_then (λ r. if p r then Some r else None) o

-- what is there, if anything, in front of a list
abbrev ifs : Option ℕ → List ℕ → List ℕ
ifs None xs = xs
ifs (Some x) xs = x ∷ xs

-- what happens to those that are left is missing
abbrev pub Lacks : {A : Type 0} → (ℕ → A) → (ℕ → Bool) → List ℕ → ℕ → List A → List A → Type 0
Lacks f p xs k sofar whole = sofar ++ map f (filter p (drop k xs)) ≡ whole

at_place : (xs : List ℕ) (k : ℕ) → k < length xs → (x : ℕ) × (slice_get xs k ≡ Some x) × (drop k xs ≡ x ∷ drop (k + 1) xs)
at_place [] k less = absurd (omega (arith, less))
at_place (x ∷ xs) zero less = (x, refl, refl)
at_place (x ∷ xs) (suc k) less =
    let (y, here, rest) = at_place xs k (omega (arith, less)) in
    let z : suc (k + 1) ≡ suc k + 1 = omega arith in
    (y, here, rest ∙ ap (λ (j : ℕ). y ∷ drop j (x ∷ xs)) z)

chosen : (p : ℕ → Bool) (r : ℕ) (rs : List ℕ) (o : Option ℕ) → picked p (Some r) ≡ o → filter p (r ∷ rs) ≡ ifs o (filter p rs)
chosen p r rs o is = by (p r) is where
  by : (b : Bool) → (if b then Some r else None) ≡ o → (if b then r ∷ filter p rs else filter p rs) ≡ ifs o (filter p rs)
  by true e = ap (λ (x : Option ℕ). ifs x (filter p rs)) e
  by false e = ap (λ (x : Option ℕ). ifs x (filter p rs)) e

next : (p : ℕ → Bool) (xs : List ℕ) (k : ℕ) (o : Option ℕ) → k < length xs → picked p (slice_get xs k) ≡ o
    → filter p (drop k xs) ≡ ifs o (filter p (drop (k + 1) xs))
next p xs k o less is =
    let (r, here, rest) = at_place xs k less in
    ap (filter p) rest ∙ chosen p r (drop (k + 1) xs) o (sym (ap (picked p) here) ∙ is)

-- nothing is added for what doesn't pass
pub passes_by : {A : Type 0} (f : ℕ → A) (p : ℕ → Bool) (xs : List ℕ) (k : ℕ) (sofar whole : List A) → k < length xs → picked p (slice_get xs k) ≡ None
    → Lacks f p xs k sofar whole → Lacks f p xs (k + 1) sofar whole
passes_by f p xs k sofar whole less is lacks = sym (ap (λ ys. sofar ++ map f ys) (next p xs k None less is)) ∙ lacks

-- what happens to what passes
pub adds_one : {A : Type 0} (f : ℕ → A) (p : ℕ → Bool) (xs : List ℕ) (k r : ℕ) (sofar more whole : List A) → k < length xs → picked p (slice_get xs k) ≡ Some r
    → more ≡ sofar ++ f r ∷ [] → Lacks f p xs k sofar whole → Lacks f p xs (k + 1) more whole
adds_one f p xs k r sofar more whole less is put lacks =
    ap (λ ts. ts ++ map f (filter p (drop (k + 1) xs))) put
    ∙ (append_assoc sofar (f r ∷ []) (map f (filter p (drop (k + 1) xs)))
    ∙ (sym (ap (λ ys. sofar ++ map f ys) (next p xs k (Some r) less is)) ∙ lacks))

past : (xs : List ℕ) (k : ℕ) → length xs ≤ k → drop k xs ≡ []
past [] zero more = refl
past [] (suc k) more = refl
past (x ∷ xs) zero more = absurd (omega (arith, more))
past (x ∷ xs) (suc k) more = past xs k (omega (arith, more))

-- after the last one nothing is missing
pub all_added : {A : Type 0} (f : ℕ → A) (p : ℕ → Bool) (xs : List ℕ) (k : ℕ) (sofar whole : List A) → length xs ≤ k → Lacks f p xs k sofar whole → sofar ≡ whole
all_added f p xs k sofar whole more lacks = sym (append-nil sofar) ∙ (sym (ap (λ ys. sofar ++ map f (filter p ys)) (past xs k more)) ∙ lacks)
