-- The text of a path is read as the path.
use Rattle.std.proofs.Common.{◌≡◌, ℕ, zero, suc, ◌+◌, ◌-◌, ◌*◌, ◌/◌, ◌%◌, ◌<◌, ◌≤◌, ◌++◌, List, [], ◌∷◌, length, Option, Some, None, min, option_map, option_and_then, decimal, refl, ap, ◌∙◌, arith, append_assoc, le-leb, ne_eqb}
use Rattle.std.proofs.lemmas.Fmt.{decimal_by_steps, decimal_nonempty}
use Rattle.sysmem_counts.specs.Bounds.{most_number}
use Rattle.certificate_text.specs.CanBeRead.{HasSteps}
use Rattle.certificate_text.specs.Paths.{with_digit, with_byte, steps_said, steps_text, path_behind, path_said, path_text}

same_digit : (d : ℕ) → 48 + d - 48 ≡ d
same_digit d = omega arith

byte_digit : (o : Option ℕ) (d : ℕ) → d < 10 → with_byte o (48 + d) ≡ with_digit o d
byte_digit o d h =
    let low : 48 ≤ 48 + d = omega arith in
    let high : 48 + d ≤ 57 = omega arith in
    rw (le-leb 48 (48 + d) low, le-leb (48 + d) 57 high) (ap (with_digit o) (same_digit d))

step_digit : (o : Option ℕ) (d : ℕ) (rest : List ℕ) → d < 10 → steps_said o ((48 + d) ∷ rest) ≡ option_and_then (λ n. steps_said (Some n) rest) (with_digit o d)
step_digit o d rest h = rw (ne_eqb (48 + d) 47 (λ e. omega (arith, e))) (ap (option_and_then (λ n. steps_said (Some n) rest)) (byte_digit o d h))

longer : (q d m : ℕ) → 1 ≤ q → 10 * q + d ≡ m → m ≤ most_number → with_digit (Some q) d ≡ Some m
longer zero d m some is fits = absurd (omega (arith, some))
longer (suc q) d m some is fits = let e : min (10 * suc q + d) most_number ≡ m = omega (arith, is, fits) in ap Some e

-- the digits of a number are read as the number
number_back : (n : ℕ) → n ≤ most_number → (rest : List ℕ) → steps_said None (decimal n ++ rest) ≡ steps_said (Some n) rest
number_back n fits = decimal_by_steps (λ m ds. m ≤ most_number → (rest : List ℕ) → steps_said None (ds ++ rest) ≡ steps_said (Some m) rest) one more n (omega (arith, fits)) fits
  where
    one : (m : ℕ) → m < 10 → m ≤ most_number → (rest : List ℕ) → steps_said None ((48 + m) ∷ rest) ≡ steps_said (Some m) rest
    one m small fits rest = step_digit None m rest small

    more : (m : ℕ) (ds : List ℕ) → 10 ≤ m → (m / 10 ≤ most_number → (rest : List ℕ) → steps_said None (ds ++ rest) ≡ steps_said (Some (m / 10)) rest)
        → m ≤ most_number → (rest : List ℕ) → steps_said None ((ds ++ (48 + m % 10) ∷ []) ++ rest) ≡ steps_said (Some m) rest
    more m ds long before fits rest =
        let q : m / 10 ≤ most_number = omega (arith, fits) in
        let some : 1 ≤ m / 10 = omega (arith, long) in
        let d : m % 10 < 10 = omega arith in
        let whole : 10 * (m / 10) + m % 10 ≡ m = omega arith in
        ap (steps_said None) (append_assoc ds ((48 + m % 10) ∷ []) rest)
        ∙ before q ((48 + m % 10) ∷ rest)
        ∙ step_digit (Some (m / 10)) (m % 10) rest d
        ∙ ap (option_and_then (λ n. steps_said (Some n) rest)) (longer (m / 10) (m % 10) m some whole fits)

steps_back : (n : ℕ) (path : List ℕ) → n ≤ most_number → HasSteps path → steps_said None (decimal n ++ steps_text path) ≡ Some (n ∷ path)
steps_back n [] fits rest = number_back n fits []
steps_back n (m ∷ path) fits rest = number_back n fits (steps_text (m ∷ path)) ∙ ap (option_map (λ path. n ∷ path)) (steps_back m path rest.0 rest.1)

behind : (t u : List ℕ) → 0 < length t → path_behind (t ++ u) ≡ steps_said None (t ++ u)
behind [] u some = absurd (omega (arith, some))
behind (c ∷ t) u some = refl

pub path_back : (path : List ℕ) → HasSteps path → path_said (path_text path) ≡ Some path
path_back [] fits = refl
path_back (n ∷ path) fits = behind (decimal n) (steps_text path) (decimal_nonempty n (omega (arith, fits.0))) ∙ steps_back n path fits.0 fits.1
