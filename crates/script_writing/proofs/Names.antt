-- Names need no escape.
use Rattle.std.proofs.Common.{◌≡◌, ◌≤◌, ◌&&◌, ◌||◌, ◌++◌, ℕ, Bool, true, false, List, [], ◌∷◌, Option, Some, None, length, nat_eq, nat_le, refl, ap, ap₂, arith, eqb-true, leb-true}
use Rattle.std.specs.Prelude.{IfSome}
use Rattle.std.specs.List.{list_all}
use Rattle.std.proofs.lemmas.Bool.{and_parts}
use Rattle.json.specs.Print.{escape, escape_byte}
use Rattle.json.proofs.Printed.Strings.{escape_byte_plain}
use Rattle.script_reading.specs.Names.{is_name_byte}
use Rattle.script_writing.specs.Call.{IsName}

abbrev pub IsUnescaped : List ℕ → Type 0
IsUnescaped text = escape text ≡ text

either : (P : Type 0) (a b : Bool) → (a || b) ≡ true → (a ≡ true → P) → (b ≡ true → P) → P
either P true b h f g = f refl
either P false b h f g = g h

from : (low high n : ℕ) → (nat_le low n && nat_le n high) ≡ true → low ≤ n
from low high n h = leb-true low n (and_parts (nat_le low n) (nat_le n high) h).0

abbrev is_from : ℕ → ℕ → ℕ → Bool
is_from low high n = nat_le low n && nat_le n high

from_45 : (n : ℕ) → is_name_byte n ≡ true → 45 ≤ n
from_45 n h = either (45 ≤ n) (((is_from 97 122 n || is_from 65 90 n) || is_from 48 57 n) || nat_eq n 95) (nat_eq n 45) h
    (λ a. either (45 ≤ n) ((is_from 97 122 n || is_from 65 90 n) || is_from 48 57 n) (nat_eq n 95) a
    (λ b. either (45 ≤ n) (is_from 97 122 n || is_from 65 90 n) (is_from 48 57 n) b
    (λ c. either (45 ≤ n) (is_from 97 122 n) (is_from 65 90 n) c (λ e. omega (arith, from 97 122 n e)) (λ e. omega (arith, from 65 90 n e)))
    (λ e. omega (arith, from 48 57 n e)))
    (λ e. omega (arith, eqb-true n 95 e)))
    (λ e. omega (arith, eqb-true n 45 e))

no_backslash : (n : ℕ) → is_name_byte n ≡ true → n ≡ 92 → ⊥
no_backslash n h e = let same : is_name_byte n ≡ false = ap is_name_byte e in cc (same, h)

byte_plain : (n : ℕ) → is_name_byte n ≡ true → escape_byte n ≡ n ∷ []
byte_plain n h =
    let low = from_45 n h in
    escape_byte_plain n (λ e. omega (arith, low, e)) (no_backslash n h) (omega (arith, low))

bytes_plain : (text : List ℕ) → list_all is_name_byte text ≡ true → escape text ≡ text
bytes_plain [] h = refl
bytes_plain (c ∷ text) h =
    let parts = and_parts (is_name_byte c) (list_all is_name_byte text) h in
    ap₂ (λ a b. a ++ b) (byte_plain c parts.0) (bytes_plain text parts.1)

pub name_plain : (name : List ℕ) → IsName name → IsUnescaped name
name_plain name h = bytes_plain name (and_parts (nat_le 1 (length name) && nat_le (length name) 32) (list_all is_name_byte name) h).1

pub if_plain : (o : Option (List ℕ)) → IfSome o IsName → IfSome o IsUnescaped
if_plain None h = tt
if_plain (Some name) h = name_plain name h
