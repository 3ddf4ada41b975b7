-- What is true of one of a list, and of those of its nodes that ask in a domain.
use Rattle.std.proofs.Common.{◌≡◌, ℕ, zero, suc, ◌+◌, ◌<◌, ◌≤◌, ◌||◌, List, [], ◌∷◌, ◌++◌, Bool, true, false, length, map, take, slice_get, Option, Some, None, arith, refl, sym, ◌∙◌, ap, get_or}
use Rattle.std.specs.Prelude.{if◌then◌else◌}
use Rattle.std.specs.List.{cons_option, enumerate_from, filter, filter_map, list_any}
use Rattle.std.specs.Option.{option_map_or}
use Rattle.std.proofs.Math.Bool.{or-true}
use Rattle.std.proofs.lemmas.List.Elements.{filter_map-append}
use Rattle.std.proofs.lemmas.List.Folds.{list_any-append}
use Rattle.std.proofs.lemmas.List.FromFn.{length-enumerate_from}
use Rattle.std.proofs.lemmas.List.{length-map, take_more}
use Rattle.std.proofs.lemmas.Option.{same_Some}
use Rattle.sysmem_tree.specs.Node.{NodeFacts}
use Rattle.live_script.specs.Refusing.{asking_in, asks_in}
use Rattle.live_script.proofs.Entries.{mapped_more}

-- one more entry isn't of the kind
pub none_more : {A B : Type 0} (p : B → Bool) (f : A → B) (xs : List A) (k : ℕ) (x : A) → slice_get xs k ≡ Some x → p (f x) ≡ false → list_any p (map f (take k xs)) ≡ false
    → list_any p (map f (take (k + 1) xs)) ≡ false
none_more p f xs k x is isnt none =
    ap (list_any p) (mapped_more f xs k x is)
    ∙ (list_any-append p (map f (take k xs)) (f x ∷ [])
    ∙ (ap (λ b. b || (p (f x) || false)) none ∙ ap (λ b. b || false) isnt))

-- an entry is of the kind
pub found : {A B : Type 0} (p : B → Bool) (f : A → B) (xs : List A) (k : ℕ) (x : A) → slice_get xs k ≡ Some x → p (f x) ≡ true → list_any p (map f xs) ≡ true
found p f [] k x at is = absurd (cc at)
found p f (y ∷ xs) zero x at is = ap (λ b. b || list_any p (map f xs)) (ap (λ z. p (f z)) (same_Some y x at) ∙ is)
found p f (y ∷ xs) (suc k) x at is = ap (λ b. p (f y) || b) (found p f xs k x at is) ∙ or-true (p (f y))

-- one more isn't
none_so : {A : Type 0} (p : A → Bool) (xs : List A) (k : ℕ) → option_map_or p (slice_get xs k) false ≡ false → list_any p (take k xs) ≡ false → list_any p (take (suc k) xs) ≡ false
none_so p [] zero isnt none = refl
none_so p [] (suc k) isnt none = refl
none_so p (x ∷ xs) zero isnt none = ap (λ b. b || false) isnt
none_so p (x ∷ xs) (suc k) isnt none = by (p x) (none_so p xs k isnt) none where
  by : (b : Bool) → (list_any p (take k xs) ≡ false → list_any p (take (suc k) xs) ≡ false) → (b || list_any p (take k xs)) ≡ false → (b || list_any p (take (suc k) xs)) ≡ false
  by true rest e = absurd (cc e)
  by false rest e = rest e

next_of : (k : ℕ) → suc k ≡ k + 1
next_of k = omega arith

pub none_yet : {A : Type 0} (p : A → Bool) (xs : List A) (k : ℕ) → option_map_or p (slice_get xs k) false ≡ false → list_any p (take k xs) ≡ false → list_any p (take (k + 1) xs) ≡ false
none_yet p xs k isnt none = ap (λ m. list_any p (take m xs)) (sym (next_of k)) ∙ none_so p xs k isnt none

-- one is
pub one_is : {A : Type 0} (p : A → Bool) (xs : List A) (k : ℕ) → option_map_or p (slice_get xs k) false ≡ true → list_any p xs ≡ true
one_is p [] k is = absurd (cc is)
one_is p (x ∷ xs) zero is = ap (λ b. b || list_any p xs) is
one_is p (x ∷ xs) (suc k) is = ap (λ b. p x || b) (one_is p xs k is) ∙ or-true (p x)

-- those that pass with their numbers, from one on, and the numbers alone
abbrev pub kept_from : (NodeFacts → Bool) → ℕ → List NodeFacts → List (ℕ × NodeFacts)
kept_from p i nodes = filter (λ (q : ℕ × NodeFacts). p q.1) (enumerate_from i nodes)

abbrev pub firsts : List (ℕ × NodeFacts) → List ℕ
firsts qs = map (λ (q : ℕ × NodeFacts). q.0) qs

abbrev pub numbers_from : (NodeFacts → Bool) → ℕ → List NodeFacts → List ℕ
numbers_from p i nodes = firsts (kept_from p i nodes)

one_more : (p : NodeFacts → Bool) (i : ℕ) (nodes : List NodeFacts) (k j : ℕ) → i + k ≡ j
    → numbers_from p i (take (suc k) nodes) ≡ numbers_from p i (take k nodes) ++ (if option_map_or p (slice_get nodes k) false then j ∷ [] else [])
one_more p i [] zero j is = refl
one_more p i [] (suc k) j is = refl
one_more p i (n ∷ nodes) zero j is = by (p n) where
  same : i ≡ j
  same = omega (arith, is)

  by : (b : Bool) → firsts (if b then (i, n) ∷ [] else []) ≡ (if b then j ∷ [] else [])
  by true = ap (λ m. m ∷ []) same
  by false = refl
one_more p i (n ∷ nodes) (suc k) j is = by (p n) (one_more p (i + 1) nodes k j (omega (arith, is))) where
  by : (b : Bool) → numbers_from p (i + 1) (take (suc k) nodes) ≡ numbers_from p (i + 1) (take k nodes) ++ (if option_map_or p (slice_get nodes k) false then j ∷ [] else [])
      → firsts (if b then (i, n) ∷ kept_from p (i + 1) (take (suc k) nodes) else kept_from p (i + 1) (take (suc k) nodes))
      ≡ firsts (if b then (i, n) ∷ kept_from p (i + 1) (take k nodes) else kept_from p (i + 1) (take k nodes)) ++ (if option_map_or p (slice_get nodes k) false then j ∷ [] else [])
  by true rest = ap (λ ms. i ∷ ms) rest
  by false rest = rest

-- those that ask in a domain, and the next node's if it does
pub asking_more : (nodes : List NodeFacts) (r k : ℕ) → asking_in (take (k + 1) nodes) r ≡ asking_in (take k nodes) r ++ (if option_map_or (asks_in r) (slice_get nodes k) false then k ∷ [] else [])
asking_more nodes r k = ap (λ m. asking_in (take m nodes) r) (sym (next_of k)) ∙ one_more (asks_in r) 0 nodes k k (omega arith)

kept_by : {A : Type 0} (b : Bool) (x : A) (ys : List A) (n : ℕ) → length ys ≤ n → length (if b then x ∷ ys else ys) ≤ suc n
kept_by true x ys n few = omega (arith, few)
kept_by false x ys n few = omega (arith, few)

few : {A : Type 0} (p : A → Bool) (xs : List A) → length (filter p xs) ≤ length xs
few p [] = omega arith
few p (x ∷ xs) = kept_by (p x) x (filter p xs) (length xs) (few p xs)

-- they are no more than the nodes
pub asking_few : (nodes : List NodeFacts) (r : ℕ) → length (asking_in nodes r) ≤ length nodes
asking_few nodes r =
    omega (arith, length-map (kept_from (asks_in r) 0 nodes) (λ (q : ℕ × NodeFacts). q.0), few (λ (q : ℕ × NodeFacts). asks_in r q.1) (enumerate_from 0 nodes), length-enumerate_from 0 nodes)

-- what is known of some, and then of the next
pub known_more : {A B : Type 0} (h : A → Option B) (xs : List A) (k : ℕ) (d : A) → k < length xs → filter_map h (take (k + 1) xs) ≡ filter_map h (take k xs) ++ filter_map h (get_or xs k d ∷ [])
known_more h xs k d less = ap (filter_map h) (take_more xs k d less) ∙ filter_map-append h (take k xs) (get_or xs k d ∷ [])

known_by : {B : Type 0} (o : Option B) (ys : List B) (n : ℕ) → length ys ≤ n → length (cons_option o ys) ≤ suc n
known_by (Some y) ys n few = omega (arith, few)
known_by None ys n few = omega (arith, few)

pub known_few : {A B : Type 0} (h : A → Option B) (xs : List A) → length (filter_map h xs) ≤ length xs
known_few h [] = omega arith
known_few h (x ∷ xs) = known_by (h x) (filter_map h xs) (length xs) (known_few h xs)
