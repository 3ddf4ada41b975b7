-- What nodes are called: each has a name, and no two have the same.
use Rattle.std.proofs.Common.{◌≡◌, ◌≢◌, ◌<◌, ◌≤◌, ◌+◌, ◌%◌, ◌^◌, ◌&&◌, ◌||◌, ◌==◌, ℕ, zero, suc, Bool, true, false, cond, not, List, [], ◌∷◌, Option, Some, None, length, drop, get_or, nat_le, nat_eq, decimal, refl, sym, ap, ◌∙◌, subst, arith, eqb-true, le-leb}
use Rattle.std.specs.Prelude.{IfSome, bytes_eq, find, option_map, unwrap_or}
use Rattle.std.specs.Cmp.{IsEquivalence}
use Rattle.std.specs.List.{AllByRecursion, list_all}
use Rattle.std.proofs.lemmas.Bool.{and_from, and_parts, not-true, false≢true}
use Rattle.std.proofs.lemmas.Bool.Decides.{same_from_decides}
use Rattle.std.proofs.lemmas.Fmt.{decimal_by_steps, decimal_injective, length-decimal-le}
use Rattle.std.proofs.lemmas.List.Folds.{list_all-append}
use Rattle.std.proofs.lemmas.Option.{same_Some}
use Rattle.std.proofs.lemmas.Slice.Eq.{bytes_eq-Decides}
use Rattle.node_names.specs.Names.{AreNames, Differ, NamedNode, given_name, is_digit, is_name_byte, is_numbered, own_name}
use Rattle.node_names.specs.Names as own
use Rattle.live_script.specs.Script.{called}
use Rattle.script_reading.specs.Names.{is_name}

-- ---- equal bytes

pub bytes_same : (a b : List ℕ) → bytes_eq a b ≡ true → a ≡ b
bytes_same a b e = (bytes_eq-Decides a b).0 e

pub bytes_are : (a b : List ℕ) → a ≡ b → bytes_eq a b ≡ true
bytes_are a b e = (bytes_eq-Decides a b).1 e

pub bytes_differ : (a b : List ℕ) → a ≢ b → bytes_eq a b ≡ false
bytes_differ a b differ = by (bytes_eq a b) refl where
  by : (t : Bool) → bytes_eq a b ≡ t → bytes_eq a b ≡ false
  by true e = absurd (differ (bytes_same a b e))
  by false e = e

pub bytes_laws : IsEquivalence bytes_eq
bytes_laws = record {
  refl = λ x. bytes_are x x refl;
  symm = λ x y. same_from_decides (bytes_eq x y) (bytes_eq y x) (bytes_eq-Decides x y) ((λ e. sym (bytes_same y x e)), (λ e. bytes_are y x (sym e)));
  congr = λ x y z e. ap (λ w. bytes_eq w z) (bytes_same x y e);
}

-- ---- names that were given

found : (P : NamedNode → Type 0) (ns : List NamedNode) (p : NamedNode → Bool) (m : NamedNode) → AllByRecursion P ns → find p ns ≡ Some m → P m
found P [] p m all is = absurd (cc is)
found P (n ∷ ns) p m all is = by (p n) (λ e. found P ns p m all.1 e) is where
  by : (t : Bool) → (find p ns ≡ Some m → P m) → cond t (Some n) (find p ns) ≡ Some m → P m
  by true rest e = subst P (same_Some n m e) all.0
  by false rest e = rest e

abbrev IsGiven : NamedNode → Type 0
IsGiven n = own.is_name n.name ≡ true

all_given : (ns : List NamedNode) → AreNames ns → AllByRecursion IsGiven ns
all_given [] are = tt
all_given (n ∷ ns) are = (are.0, all_given ns are.2)

abbrev is_node : ℕ → NamedNode → Bool
is_node k n = n.node == k

given_apart : (ns : List NamedNode) → AreNames ns → (i j : ℕ) (a b : NamedNode) → find (is_node i) ns ≡ Some a → find (is_node j) ns ≡ Some b → a.name ≡ b.name → i ≡ j
given_apart [] are i j a b first second same = absurd (cc first)
given_apart (n ∷ ns) are i j a b first second same = by (n.node == i) (n.node == j) refl refl (λ e f. given_apart ns are.2 i j a b e f same) first second where
  by : (s t : Bool) → (n.node == i) ≡ s → (n.node == j) ≡ t → (find (is_node i) ns ≡ Some a → find (is_node j) ns ≡ Some b → i ≡ j) → cond s (Some n) (find (is_node i) ns) ≡ Some a → cond t (Some n) (find (is_node j) ns) ≡ Some b → i ≡ j
  by true true x y rest e f = sym (eqb-true n.node i x) ∙ eqb-true n.node j y
  by true false x y rest e f = absurd ((found (Differ n) ns (is_node j) b are.1 f).name (ap (λ (m : NamedNode). m.name) (same_Some n a e) ∙ same))
  by false true x y rest e f = absurd ((found (Differ n) ns (is_node i) a are.1 e).name (ap (λ (m : NamedNode). m.name) (same_Some n b f) ∙ sym same))
  by false false x y rest e f = rest e f

-- ---- names of nodes without one

digit_is : (d : ℕ) → d < 10 → is_digit (48 + d) ≡ true
digit_is d small = and_from (nat_le 48 (48 + d)) (nat_le (48 + d) 57) (le-leb 48 (48 + d) (omega arith)) (le-leb (48 + d) 57 (omega arith))

digits_are : (n : ℕ) → n < 2 ^ 64 → list_all is_digit (decimal n) ≡ true
digits_are = decimal_by_steps (λ m ds. list_all is_digit ds ≡ true) (λ d small. and_from (is_digit (48 + d)) true (digit_is d small) refl)
    (λ m ds long all. list_all-append is_digit ds ((48 + m % 10) ∷ []) ∙ and_from (list_all is_digit ds) (is_digit (48 + m % 10) && true) all (and_from (is_digit (48 + m % 10)) true (digit_is (m % 10) (omega arith)) refl))

own_numbered : (k : ℕ) → k < 1000 → is_numbered (own_name (suc k)) ≡ true
own_numbered k small = digits_are (suc k) (omega (arith, small))

-- a name that was given is none of these
not_own : (name : List ℕ) (k : ℕ) → k < 1000 → own.is_name name ≡ true → name ≢ own_name k
not_own name zero small is e = let none : own.is_name name ≡ false = ap own.is_name e in cc (none, is)
not_own name (suc k) small is e =
    let last = and_parts _ (not (is_numbered name)) is in
    let numbered : is_numbered name ≡ true = ap is_numbered e ∙ own_numbered k (omega (arith, small)) in
    false≢true (sym (not-true (is_numbered name) last.1) ∙ numbered)

own_apart : (i j : ℕ) → i < 1000 → j < 1000 → own_name i ≡ own_name j → i ≡ j
own_apart zero zero a b e = refl
own_apart zero (suc j) a b e = let h : 114 ≡ 110 = ap (λ (xs : List ℕ). get_or xs 0 0) e in absurd (omega (arith, h))
own_apart (suc i) zero a b e = let h : 110 ≡ 114 = ap (λ (xs : List ℕ). get_or xs 0 0) e in absurd (omega (arith, h))
own_apart (suc i) (suc j) a b e = let same : decimal (suc i) ≡ decimal (suc j) = ap (drop 1) e in decimal_injective (suc i) (suc j) (omega (arith, a)) (omega (arith, b)) same

-- ---- what nodes are called

own_found : (o : Option NamedNode) → IfSome o (λ m. o ≡ Some m)
own_found None = tt
own_found (Some m) = refl

-- what node k is called, if it was given this name or none
abbrev named : ℕ → Option NamedNode → List ℕ
named k o = unwrap_or (option_map (λ (n : NamedNode). n.name) o) (own_name k)

module _ (ns : List NamedNode) (are : AreNames ns) where
  abbrev IsFor : ℕ → Option NamedNode → Type 0
  IsFor k o = IfSome o (λ m. find (is_node k) ns ≡ Some m)

  given : (k : ℕ) (m : NamedNode) → find (is_node k) ns ≡ Some m → own.is_name m.name ≡ true
  given k m e = found IsGiven ns (is_node k) m (all_given ns are) e

  both_apart : (i j : ℕ) → i < 1000 → j < 1000 → (s t : Option NamedNode) → IsFor i s → IsFor j t → named i s ≡ named j t → i ≡ j
  both_apart i j a b (Some m) (Some n) x y e = given_apart ns are i j m n x y e
  both_apart i j a b (Some m) None x y e = absurd (not_own m.name j b (given i m x) e)
  both_apart i j a b None (Some n) x y e = absurd (not_own n.name i a (given j n y) (sym e))
  both_apart i j a b None None x y e = own_apart i j a b e

  pub apart : (i j : ℕ) → i < 1000 → j < 1000 → called ns i ≡ called ns j → i ≡ j
  apart zero zero a b e = refl
  apart zero (suc j) a b e = both_apart zero (suc j) a b None (find (is_node (suc j)) ns) tt (own_found (find (is_node (suc j)) ns)) e
  apart (suc i) zero a b e = both_apart (suc i) zero a b (find (is_node (suc i)) ns) None (own_found (find (is_node (suc i)) ns)) tt e
  apart (suc i) (suc j) a b e = both_apart (suc i) (suc j) a b (find (is_node (suc i)) ns) (find (is_node (suc j)) ns) (own_found (find (is_node (suc i)) ns)) (own_found (find (is_node (suc j)) ns)) e

-- a name that was given is one of a script
given_is : (name : List ℕ) → own.is_name name ≡ true → is_name name ≡ true
given_is name is = (and_parts _ _ (and_parts _ _ is).0).0

pub or_first : (a b : Bool) → a ≡ true → (a || b) ≡ true
or_first true b e = refl
or_first false b e = absurd (cc e)

pub or_second : (a b : Bool) → b ≡ true → (a || b) ≡ true
or_second true b e = refl
or_second false b e = e

digit_byte : (b : ℕ) → is_digit b ≡ true → is_name_byte b ≡ true
digit_byte b is =
    let letter : Bool = (nat_le 97 b && nat_le b 122) || (nat_le 65 b && nat_le b 90) in
    or_first ((letter || is_digit b) || nat_eq b 95) (nat_eq b 45) (or_first (letter || is_digit b) (nat_eq b 95) (or_second letter (is_digit b) is))

digit_bytes : (ds : List ℕ) → list_all is_digit ds ≡ true → list_all is_name_byte ds ≡ true
digit_bytes [] all = refl
digit_bytes (d ∷ ds) all =
    let parts = and_parts (is_digit d) (list_all is_digit ds) all in
    and_from (is_name_byte d) (list_all is_name_byte ds) (digit_byte d parts.0) (digit_bytes ds parts.1)

own_is : (k : ℕ) → k < 1000 → is_name (own_name k) ≡ true
own_is zero small = refl
own_is (suc k) small =
    let ds = decimal (suc k) in
    let short : length ds ≤ 4 = length-decimal-le 4 (suc k) (omega arith) (omega (arith, small)) (omega (arith, small)) in
    let bytes : list_all is_name_byte ds ≡ true = digit_bytes ds (digits_are (suc k) (omega (arith, small))) in
    and_from (nat_le 1 (suc (length ds)) && nat_le (suc (length ds)) 32) (list_all is_name_byte (110 ∷ ds))
    (and_from (nat_le 1 (suc (length ds))) (nat_le (suc (length ds)) 32) (le-leb 1 (suc (length ds)) (omega arith)) (le-leb (suc (length ds)) 32 (omega (arith, short)))) bytes

named_is : (ns : List NamedNode) → AreNames ns → (k : ℕ) → k < 1000 → (o : Option NamedNode) → IfSome o (λ m. find (is_node k) ns ≡ Some m) → is_name (named k o) ≡ true
named_is ns are k small (Some m) e = given_is m.name (found IsGiven ns (is_node k) m (all_given ns are) e)
named_is ns are k small None e = own_is k small

pub is_called : (ns : List NamedNode) → AreNames ns → (k : ℕ) → k < 1000 → is_name (called ns k) ≡ true
is_called ns are zero small = refl
is_called ns are (suc k) small = named_is ns are (suc k) small (find (is_node (suc k)) ns) (own_found (find (is_node (suc k)) ns))

pub given_called : (ns : List NamedNode) → AreNames ns → (k : ℕ) (name : List ℕ) → given_name ns k ≡ Some name → is_name name ≡ true
given_called ns are k name = by (find (is_node k) ns) refl where
  by : (s : Option NamedNode) → find (is_node k) ns ≡ s → option_map (λ (n : NamedNode). n.name) s ≡ Some name → is_name name ≡ true
  by (Some m) e is = subst (λ (x : List ℕ). is_name x ≡ true) (same_Some m.name name is) (given_is m.name (found IsGiven ns (is_node k) m (all_given ns are) e))
  by None e is = absurd (cc is)
