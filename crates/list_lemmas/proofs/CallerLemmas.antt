-- Lists by index, what all or any of their elements have, what a test finds, and some of a list.
pub use Rattle.list_lemmas.proofs.TakenInOrder.{taken_in_order}
use Rattle.std.proofs.Common.{◌≡◌, ◌↔◌, IsTrue, nat_lt, rules, ◌≢◌, ℕ, zero, suc, ◌+◌, ◌*◌, ◌<◌, ◌≤◌, Bool, true, false, ◌&&◌, cond, List, [], ◌∷◌, ◌++◌, length, map, sum_by, All, Any, Contains, Option, Some, None, IfSome, is_some, slice_get, slice_set, refl, sym, ◌∙◌, ap, subst, arith, inl, inr}
use Rattle.list_lemmas.specs.Some.{AreSomeOf}
use Rattle.std.specs.List.{find, flat_map, list_all}
use Rattle.std.specs.List.Sorted.{IsPermutation}
use Rattle.std.specs.Option.{option_and_then}
use Rattle.std.proofs.lemmas.Grind.{common_steps}
use Rattle.std.proofs.lemmas.List.{append_assoc, length-set, get_or-set_same, get_or-set_other}
use Rattle.std.proofs.lemmas.List.Elements.{All-nil, All-cons, All-head, All-tail, All-contains_itself}
use Rattle.std.proofs.lemmas.List.Sorted.{All-permutation, IsPermutation-refl, IsPermutation-cons, IsPermutation-trans, IsPermutation-sym, IsPermutation-map, IsPermutation-middle, IsPermutation-append, IsPermutation-append_left, sum_by-IsPermutation}
use Rattle.std.proofs.lemmas.List.Sums.{sum_by-append}
use Rattle.std.proofs.lemmas.Option.{slice_get_cases, slice_get_within, slice_get-get_or, same_Some}

-- what holds of an option's value, if there is one, holds of the value that it has
pub of_some : {X : Type 0} (P : X → Type 0) (o : Option X) (x : X) → o ≡ Some x → IfSome o P → P x
of_some P None x is h = absurd (cc)
of_some P (Some y) x is h = subst P (same_Some y x is) h

-- both of two that hold together hold
pub and_parts : (a b : Bool) → (a && b) ≡ true → (a ≡ true) × (b ≡ true)
and_parts true b e = (refl, e)
and_parts false b e = cc

-- where a number is below another exactly where something holds, the test of it decides that
pub decides_below : (a b : ℕ) (P : Type 0) → (a < b) ↔ P → IsTrue (nat_lt a b) ↔ P
decides_below a b P same = (λ t. same.0 (search (rules, t)), λ p. (let below : a < b = same.1 p in search (rules, below)))

-- a list has an element at each index within it
pub slice_get_some : {X : Type 0} (xs : List X) (i : ℕ) → i < length xs → (x : X) × (slice_get xs i ≡ Some x)
slice_get_some xs i within =
    elim ((slice_get_cases xs i).1) [ inl w ↦ (w.0, w.2) | inr w ↦ absurd (omega (arith, w.0)) ]

-- what is at an index after a write there
pub slice_get-set_same : {X : Type 0} (xs : List X) (i : ℕ) (y s : X) → i < length xs → slice_get (slice_set xs i y) i ≡ Some s → y ≡ s
slice_get-set_same xs i y s within read =
    same_Some y s (sym (ap (λ x. Some x) (get_or-set_same xs i y y within)) ∙ sym (slice_get-get_or (slice_set xs i y) i y (omega (arith, length-set xs i y))) ∙ read)

-- what is at an index after a write at another one
pub slice_get-set_other : {X : Type 0} (xs : List X) (i k : ℕ) (y s : X) → k ≢ i → slice_get (slice_set xs i y) k ≡ Some s → slice_get xs k ≡ Some s
slice_get-set_other xs i k y s other read =
    let within = slice_get_within (slice_set xs i y) k s read in
    slice_get-get_or xs k y (omega (arith, length-set xs i y)) ∙ ap (λ x. Some x) (sym (get_or-set_other xs i k y y other)) ∙ sym (slice_get-get_or (slice_set xs i y) k y within) ∙ read

-- a place within the first of two lists
pub slice_get-append_left : {A : Type 0} (xs ys : List A) (i : ℕ) → i < length xs → slice_get (xs ++ ys) i ≡ slice_get xs i
slice_get-append_left [] ys i h = absurd (omega (arith, h))
slice_get-append_left (x ∷ xs) ys zero h = refl
slice_get-append_left (x ∷ xs) ys (suc i) h = slice_get-append_left xs ys i (omega (arith, h))

-- a place behind the first of two lists
pub slice_get-append_add : {A : Type 0} (xs ys : List A) (n i : ℕ) → length xs ≡ n → slice_get (xs ++ ys) (n + i) ≡ slice_get ys i
slice_get-append_add [] ys n i e =
    let f : n + i ≡ i = omega (arith, e) in ap (slice_get ys) f
slice_get-append_add (x ∷ xs) ys n i e =
    let f : n + i ≡ suc (length xs + i) = omega (arith, e) in
    ap (slice_get (x ∷ xs ++ ys)) f ∙ slice_get-append_add xs ys (length xs) i refl

-- in lists of n each, the place q * n + r is the place r of the list q
pub slice_get-flat_map : {A B : Type 0} (f : A → List B) (xs : List A) (n q r : ℕ) → ((x : A) → length (f x) ≡ n) → r < n → slice_get (flat_map f xs) (q * n + r) ≡ option_and_then (λ x. slice_get (f x) r) (slice_get xs q)
slice_get-flat_map f [] n q r each h = refl
slice_get-flat_map f (x ∷ xs) n zero r each h =
    let e : zero * n + r ≡ r = omega arith in
    let inside : r < length (f x) = omega (arith, each x) in
    ap (slice_get (f x ++ flat_map f xs)) e ∙ slice_get-append_left (f x) (flat_map f xs) r inside
slice_get-flat_map f (x ∷ xs) n (suc q) r each h =
    let e : suc q * n + r ≡ n + (q * n + r) = omega arith in
    ap (slice_get (f x ++ flat_map f xs)) e ∙ slice_get-append_add (f x) (flat_map f xs) n (q * n + r) (each x) ∙ slice_get-flat_map f xs n q r each h

-- the first element
pub Any-here : {X : Type 0} (P : X → Type 0) (x : X) (xs : List X) → P x → Any P (x ∷ xs)
Any-here P x xs p = (0, x, grind (arith, common_steps), refl, p)

-- one of the others
pub Any-later : {X : Type 0} (P : X → Type 0) (x : X) (xs : List X) → Any P xs → Any P (x ∷ xs)
Any-later P x xs (k, y, below, is, p) = (suc k, y, grind (arith, common_steps, below), is, p)

-- no element has what each one lacks
pub Any-not_All : {X : Type 0} (P Q : X → Type 0) (xs : List X) → ((x : X) → P x → Q x → ⊥) → Any P xs → All Q xs → ⊥
Any-not_All P Q xs clash (k, x, below, is, p) all = clash x p (subst Q is (all k x below))

-- what each image of a list has, each element's image has
pub All-unmap : {X Y : Type 0} (P : Y → Type 0) (f : X → Y) (xs : List X) → All P (map f xs) → All (λ x. P (f x)) xs
All-unmap P f [] all = All-nil (λ x. P (f x))
All-unmap P f (x ∷ xs) all =
    All-cons (λ x. P (f x)) x xs (All-head P (f x) (map f xs) all) (All-unmap P f xs (All-tail P (f x) (map f xs) all))

-- where not all elements pass a test, some element fails it
pub any_fails : {X : Type 0} (test : X → Bool) (xs : List X) → list_all test xs ≡ false → Any (λ x. test x ≡ false) xs
any_fails test [] e = cc
any_fails {X} test (x ∷ xs) e = at (test x) refl e (any_fails test xs) where
  at : (b : Bool) → test x ≡ b → (b && list_all test xs) ≡ false → (list_all test xs ≡ false → Any (λ y. test y ≡ false) xs) → Any (λ y. test y ≡ false) (x ∷ xs)
  at false t e rest = (0, x, omega arith, refl, t)
  at true t e rest = let found = rest e in (suc found.0, found.1, omega (arith, found.2), found.3, found.4)

-- what a test finds in a list it finds in a longer one
pub find_front : {X : Type 0} (p : X → Bool) (xs ys : List X) (r : Option X) → r ≡ find p xs → true ≡ is_some r → r ≡ find p (xs ++ ys)
find_front p [] ys None e some = cc
find_front p [] ys (Some x) e some = cc
find_front p (x ∷ xs) ys r e some =
    elim (p x) as (λ b. r ≡ cond b (Some x) (find p xs) → r ≡ cond b (Some x) (find p (xs ++ ys))) [ true ↦ λ e. e | false ↦ λ e. find_front p xs ys r e some ] e

-- where a test finds nothing in a list, it finds in a longer one what it finds in the rest
pub find_rest : {X : Type 0} (p : X → Bool) (xs ys : List X) (r : Option X) → r ≡ find p xs → false ≡ is_some r → find p ys ≡ find p (xs ++ ys)
find_rest p [] ys r e none = refl
find_rest p (x ∷ xs) ys r e none =
    elim (p x) as (λ b. r ≡ cond b (Some x) (find p xs) → find p ys ≡ cond b (Some x) (find p (xs ++ ys))) [ true ↦ λ e. cc | false ↦ λ e. find_rest p xs ys r e none ] e

-- what a test finds passes it
pub find_passes : {X : Type 0} (p : X → Bool) (xs : List X) → IfSome (find p xs) (λ x. p x ≡ true)
find_passes p [] = tt
find_passes p (x ∷ xs) = at (p x) refl (find_passes p xs) where
  at : (b : Bool) → p x ≡ b → IfSome (find p xs) (λ y. p y ≡ true) → IfSome (cond b (Some x) (find p xs)) (λ y. p y ≡ true)
  at true e rest = e
  at false e rest = rest

-- all of a list, in another order
pub some_in_order : {X : Type 0} (xs ys : List X) → IsPermutation xs ys → AreSomeOf xs ys
some_in_order xs ys order = record { others = []; order = IsPermutation-trans (xs ++ []) xs ys (subst (λ l. IsPermutation l xs) (sym (append_nil xs)) (IsPermutation-refl xs)) order } where
  append_nil : {X : Type 0} (xs : List X) → xs ++ [] ≡ xs
  append_nil [] = refl
  append_nil (x ∷ xs) = ap (λ l. x ∷ l) (append_nil xs)

-- a list is some of itself
pub some_itself : {X : Type 0} (xs : List X) → AreSomeOf xs xs
some_itself xs = some_in_order xs xs (IsPermutation-refl xs)

-- and of itself with others behind it
pub some_front : {X : Type 0} (xs others : List X) → AreSomeOf xs (xs ++ others)
some_front xs others = record { others = others; order = IsPermutation-refl (xs ++ others) }

-- none are some of any list
pub some_none : {X : Type 0} (xs : List X) → AreSomeOf [] xs
some_none xs = record { others = xs; order = IsPermutation-refl xs }

-- one more of both
pub some_taken : {X : Type 0} (x : X) (some all : List X) → AreSomeOf some all → AreSomeOf (x ∷ some) (x ∷ all)
some_taken x some all among = record { others = among.others; order = IsPermutation-cons x (some ++ among.others) all among.order }

-- one more that isn't among the some
pub some_left_out : {X : Type 0} (x : X) (some all : List X) → AreSomeOf some all → AreSomeOf some (x ∷ all)
some_left_out x some all among = record {
  others = x ∷ among.others;
  order = IsPermutation-trans (some ++ x ∷ among.others) (x ∷ (some ++ among.others)) (x ∷ all)
      (IsPermutation-middle some x among.others) (IsPermutation-cons x (some ++ among.others) all among.order);
}

-- some of some of a list
pub some_trans : {X : Type 0} (xs ys zs : List X) → AreSomeOf xs ys → AreSomeOf ys zs → AreSomeOf xs zs
some_trans xs ys zs a b = record {
  others = a.others ++ b.others;
  order = IsPermutation-trans (xs ++ (a.others ++ b.others)) (ys ++ b.others) zs
      (subst (λ l. IsPermutation l (ys ++ b.others)) (append_assoc xs a.others b.others) (IsPermutation-append_left b.others (xs ++ a.others) ys a.order)) b.order;
}

-- some of each of two lists, of both together
pub some_both : {X : Type 0} (xs all ys more : List X) → AreSomeOf xs all → AreSomeOf ys more → AreSomeOf (xs ++ ys) (all ++ more)
some_both [] all ys more a b = some_trans ys more (all ++ more) b (behind all more) where
  behind : {X : Type 0} (all more : List X) → AreSomeOf more (all ++ more)
  behind [] more = some_itself more
  behind (x ∷ all) more = some_left_out x more (all ++ more) (behind all more)
some_both (x ∷ xs) all ys more a b =
    some_trans (x ∷ (xs ++ ys)) ((x ∷ (xs ++ a.others)) ++ more) (all ++ more)
    (some_taken x (xs ++ ys) ((xs ++ a.others) ++ more) (some_both xs (xs ++ a.others) ys more (some_front xs a.others) b))
    (some_in_order ((x ∷ (xs ++ a.others)) ++ more) (all ++ more) (IsPermutation-append (x ∷ (xs ++ a.others)) all more more a.order (IsPermutation-refl more)))

-- some of a list, each changed alike
pub some_map : {X Y : Type 0} (f : X → Y) (some all : List X) → AreSomeOf some all → AreSomeOf (map f some) (map f all)
some_map f some all among = record {
  others = map f among.others;
  order = subst (λ l. IsPermutation l (map f all)) (map_both some among.others) (IsPermutation-map f (some ++ among.others) all among.order);
} where
  map_both : (xs ys : List _) → map f (xs ++ ys) ≡ map f xs ++ map f ys
  map_both [] ys = refl
  map_both (x ∷ xs) ys = ap (λ l. f x ∷ l) (map_both xs ys)

-- what each has, each of some has
pub All-some : {X : Type 0} (P : X → Type 0) (some all : List X) → AreSomeOf some all → All P all → All P some
All-some P some all among holds = front some (All-permutation P all (some ++ among.others) (IsPermutation-sym (some ++ among.others) all among.order) holds) where
  front : (xs : List _) → All P (xs ++ among.others) → All P xs
  front [] both = All-nil P
  front (x ∷ xs) both = All-cons P x xs (All-head P x (xs ++ among.others) both) (front xs (All-tail P x (xs ++ among.others) both))

-- each of some is one of all
pub some_contained : {X : Type 0} (some all : List X) → AreSomeOf some all → All (Contains all) some
some_contained some all among = All-some (Contains all) some all among (All-contains_itself all)

-- some of the numbers add up to no more than all
pub sum_some : {X : Type 0} (f : X → ℕ) (some all : List X) → AreSomeOf some all → sum_by f some ≤ sum_by f all
sum_some f some all among = omega (arith, sum_by-append f some among.others, sum_by-IsPermutation f (some ++ among.others) all among.order)
