-- Paths and names of fields need no escape.
use Rattle.std.proofs.Common.{◌≡◌, ℕ, suc, ◌+◌, ◌/◌, ◌%◌, ◌^◌, ◌<◌, ◌≤◌, ◌++◌, List, [], ◌∷◌, Result, Ok, Err, OnOk, Fits, w32, get_or, codes, decimal, refl, sym, ap, ap₂, ◌∙◌, arith, append_assoc}
use Rattle.std.proofs.lemmas.Fmt.{decimal_by_steps, decimal_digit, decimal_step}
use Rattle.json.specs.Print.{escape, escape_byte, quoted}
use Rattle.json.proofs.Printed.Strings.{escape_byte_plain}
use Rattle.certificate_text.specs.Paths.{path_text, steps_text}

escape_append : (s t : List ℕ) → escape (s ++ t) ≡ escape s ++ escape t
escape_append [] t = refl
escape_append (c ∷ s) t = ap (λ l. escape_byte c ++ l) (escape_append s t) ∙ sym (append_assoc (escape_byte c) (escape s) (escape t))

-- texts that need no escape, one after the other
both_plain : (s t : List ℕ) → escape s ≡ s → escape t ≡ t → escape (s ++ t) ≡ s ++ t
both_plain s t first second = escape_append s t ∙ ap₂ (λ a b. a ++ b) first second

digit_plain : (d : ℕ) → d < 10 → escape ((48 + d) ∷ []) ≡ (48 + d) ∷ []
digit_plain d small = ap (λ l. l ++ []) (escape_byte_plain (48 + d) (omega arith) (omega arith) (omega arith))

-- numbers of 32 bits
pub decimal_plain : (n : ℕ) → n < 2 ^ 64 → escape (decimal n) ≡ decimal n
decimal_plain = decimal_by_steps (λ m ds. escape ds ≡ ds) digit_plain (λ m ds long plain. both_plain ds ((48 + m % 10) ∷ []) plain (digit_plain (m % 10) (omega arith)))

steps_plain : (path : List ℕ) → ((k : ℕ) → Fits w32 (get_or path k 0)) → escape (steps_text path) ≡ steps_text path
unfolding escape_byte
steps_plain [] fits = refl
steps_plain (n ∷ path) fits =
    let small : n < 2 ^ 64 = omega (arith, fits 0) in
    both_plain (codes "/" ++ decimal n) (steps_text path) (both_plain (codes "/") (decimal n) refl (decimal_plain n small)) (steps_plain path (λ k. fits (suc k)))

-- a path whose ordinals are of 32 bits
pub path_plain : (path : List ℕ) → ((k : ℕ) → Fits w32 (get_or path k 0)) → escape (path_text path) ≡ path_text path
unfolding escape_byte
path_plain [] fits = refl
path_plain (n ∷ path) fits = steps_plain (n ∷ path) fits

-- a text between quotes
pub quoted_text : (old text : List ℕ) → escape text ≡ text → ((old ++ 34 ∷ []) ++ text) ++ 34 ∷ [] ≡ old ++ quoted text
quoted_text old text plain = append_assoc (old ++ 34 ∷ []) text (34 ∷ []) ∙ append_assoc old (34 ∷ []) (text ++ 34 ∷ []) ∙ ap (λ s. old ++ 34 ∷ (s ++ 34 ∷ [])) (sym plain)

-- the digits of a number below 100
two_digits : (n : ℕ) → 10 ≤ n → n < 100 → decimal n ≡ (48 + n / 10) ∷ (48 + n % 10) ∷ []
two_digits n long short =
    let small : n < 2 ^ 64 = omega arith in
    let one : n / 10 < 10 = omega arith in
    decimal_step n long small ∙ ap (λ ds. ds ++ (48 + n % 10) ∷ []) (decimal_digit (n / 10) one)

-- the first of two digits was put, and then the second
pub second_digit : {E : Type 0} (r : Result (Unit {0}) E) (a b c : List ℕ) (n : ℕ) → 10 ≤ n → n < 100 → b ≡ a ++ (48 + n / 10) ∷ [] → OnOk r (c ≡ b ++ (48 + n % 10) ∷ []) → OnOk r (c ≡ a ++ decimal n)
second_digit (Ok u) a b c n long short first second =
    second ∙ ap (λ s. s ++ (48 + n % 10) ∷ []) first ∙ append_assoc a ((48 + n / 10) ∷ []) ((48 + n % 10) ∷ []) ∙ ap (λ s. a ++ s) (sym (two_digits n long short))
second_digit (Err e) a b c n long short first second = tt
