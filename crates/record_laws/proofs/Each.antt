-- Reading what states a list: each item is added to those before it.
use Rattle.std.proofs.Common.{◌≡◌, ℕ, ◌+◌, ◌<◌, ◌≤◌, ◌==◌, Bool, true, false, not, List, [], ◌∷◌, ◌++◌, length, get_or, Result, Ok, Err, refl, sym, ap, ◌∙◌, subst, arith, rules, tests, length-append, append_assoc, append-nil}
use Rattle.std.specs.Prelude.{All, AllPairs, map, nat_le, nat_lt, if◌then◌else◌}
use Rattle.std.specs.List.{list_any}
use Rattle.std.proofs.Math.ListN.{get_or-append}
use Rattle.std.proofs.Math.Seq.{get_or-append_seam}
use Rattle.std.proofs.lemmas.List.Folds.{list_any_none}
use Rattle.serde_json.specs.Data.{Data}
use Rattle.serde_json.specs.View.{items_of}
use Rattle.record_reading.specs.declared.fault.Fault.{Fault}
use Rattle.record_reading.specs.Reading.Fields.{◌>>=◌, passing, read_each}

-- what passes is read
pub passes : {A : Type 0} (fault : Fault) (test : A → Bool) (a : A) → test a ≡ true → passing fault test a ≡ Ok a
passes fault test a holds = ap (λ b. if b then Ok a else Err fault) holds

-- what is read, and then what comes after it
pub next : {A B : Type 0} (r : Result A Fault) (a : A) (f : A → Result B Fault) (b : Result B Fault) → r ≡ Ok a → f a ≡ b → (r >>= f) ≡ b
next r a f b is after = ap (λ r. r >>= f) is ∙ after

pub each_stated : {A : Type 0} (state : A → Data) (read : List A → Data → Result (List A) Fault) (all : List A)
    → ((front back : List A) (x : A) → front ++ x ∷ back ≡ all → read front (state x) ≡ Ok (front ++ x ∷ []))
    → (front rest : List A) → front ++ rest ≡ all → read_each read front (items_of (map state rest)) ≡ Ok all
each_stated state read all reads front [] is = ap Ok (sym (append-nil front) ∙ is)
each_stated state read all reads front (x ∷ rest) is =
    next (read front (state x)) (front ++ x ∷ []) (λ after. read_each read after (items_of (map state rest))) (Ok all) (reads front rest x is)
    (each_stated state read all reads (front ++ x ∷ []) rest (append_assoc front (x ∷ []) rest ∙ is))

-- an item is one of the whole
pub item_has : {A : Type 0} (P : A → Type 0) (all front back : List A) (x : A) → front ++ x ∷ back ≡ all → All P all → P x
item_has P all front back x is has =
    let whole : All P (front ++ x ∷ back) = subst (All P) (sym is) has in
    subst P (get_or-append_seam front x back x) (whole (length front) x (rw (length-append front (x ∷ back)) (omega arith)))

-- the front of a list of at most 64 has room
pub has_room : {A : Type 0} (all front back : List A) (x : A) → front ++ x ∷ back ≡ all → length all ≤ 64 → nat_lt (length front) 64 ≡ true
has_room all front back x is few =
    let sum : length front + length (x ∷ back) ≡ length all = sym (length-append front (x ∷ back)) ∙ ap length is in
    let less : length front < 64 = omega (arith, sum, few) in
    search (rules, tests)

-- none before an item is the same, where no two of the whole are
pub none_before : {A : Type 0} (R : A → A → Type 0) (same : A → A → Bool) → ((a b : A) → R a b → same a b ≡ false)
    → (all front back : List A) (x : A) → front ++ x ∷ back ≡ all → AllPairs R all → list_any (λ a. same a x) front ≡ false
none_before R same apart all front back x is distinct =
    let whole : AllPairs R (front ++ x ∷ back) = subst (AllPairs R) (sym is) distinct in
    list_any_none (λ a. same a x) front (λ k d within.
    let long : length front < length (front ++ x ∷ back) = rw (length-append front (x ∷ back)) (omega arith) in
    let pair = whole k (length front) d within long in
    apart _ _ (subst (λ y. R (get_or front k d) y) (get_or-append_seam front x back d) (subst (λ y. R y (get_or (front ++ x ∷ back) (length front) d)) (get_or-append front (x ∷ back) d k within) pair)))

-- a list that isn't empty
pub not_empty : {A : Type 0} (xs : List A) → 1 ≤ length xs → not (length xs == 0) ≡ true
not_empty [] some = absurd (omega arith)
not_empty (x ∷ xs) some = search (rules, tests)

pub up_to : (n m : ℕ) → n ≤ m → nat_le n m ≡ true
up_to n m h = search (rules, tests)

pub refused_not : (b : Bool) → b ≡ false → not b ≡ true
refused_not true h = absurd (cc)
refused_not false h = refl
