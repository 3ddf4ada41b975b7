-- What the steps of a reader give where all of them give something.
use Rattle.std.proofs.Common.{◌≡◌, ℕ, ◌<◌, ◌≤◌, ◌==◌, Bool, true, false, not, ◌&&◌, List, [], ◌∷◌, length, Option, Some, None, Result, Ok, Err, refl, subst, arith, rules, tests}
use Rattle.std.specs.Prelude.{nat_lt}
use Rattle.serde_json.specs.Data.{Data, Items, no_items, item}
use Rattle.sysmem_counts.specs.declared.field.Field.{Field}
use Rattle.record_reading.specs.declared.fault.Fault.{Fault}
use Rattle.record_reading.specs.Reading.Fields.{◌>>=◌, passing, optional, read_or, read_each}

-- where two steps give an answer, each does
pub bind-ok : {A B : Type 0} (first : Result A Fault) (next : A → Result B Fault) (b : B) → (first >>= next) ≡ Ok b → (a : A) × (first ≡ Ok a) × (next a ≡ Ok b)
bind-ok (Ok a) next b gives = (a, refl, gives)
bind-ok (Err fault) next b gives = absurd (cc)

pub bind-then : {A B Goal : Type 0} (first : Result A Fault) (next : A → Result B Fault) (b : B) → (first >>= next) ≡ Ok b → ((a : A) → first ≡ Ok a → next a ≡ Ok b → Goal) → Goal
bind-then first next b gives then = let (a, is, after) = bind-ok first next b gives in then a is after

-- what was given is one thing
pub ok-same : {A : Type 0} (a b : A) → (let r : Result A Fault = Ok a in r ≡ Ok b) → a ≡ b
ok-same a b e = cc

passing-by : {A : Type 0} (fault : Fault) (test : A → Bool) (a b : A) (t : Bool) → test a ≡ t → passing fault test a ≡ Ok b → (test a ≡ true) × (a ≡ b)
passing-by fault test a b true holds gives = (holds, ok-same a b (rw holds at gives))
passing-by fault test a b false holds gives = absurd (let h = rw holds at gives in cc)

-- what passes is what was tested
pub record Passed {A : Type 0} (test : A → Bool) (a b : A) : Type 0 where
  pub holds : test b ≡ true
  pub same : a ≡ b

pub passing-ok : {A : Type 0} (fault : Fault) (test : A → Bool) (a b : A) → passing fault test a ≡ Ok b → Passed test a b
passing-ok fault test a b gives =
    let (holds, same) = passing-by fault test a b _ refl gives in
    record { holds = subst (λ x. test x ≡ true) same holds; same = same }

pub not-true : (b : Bool) → not b ≡ true → b ≡ false
not-true true h = absurd (cc)
not-true false h = refl

-- what each item keeps, all items keep
pub each-keeps : {S : Type 0} (read : S → Data → Result S Fault) (Kept : S → Type 0)
    → ((before after : S) (d : Data) → Kept before → read before d ≡ Ok after → Kept after)
    → (ds : Items) (first last : S) → Kept first → read_each read first ds ≡ Ok last → Kept last
each-keeps read Kept keeps no_items first last kept gives = subst Kept (ok-same first last gives) kept
each-keeps read Kept keeps (item d ds) first last kept gives =
    let (next, one, rest) = bind-ok (read first d) _ last gives in
    each-keeps read Kept keeps ds next last (keeps first next d kept one) rest

-- what may be left out is absent or read
read_or-keeps : {A : Type 0} (Kept : A → Type 0) (absent : A) (read : Data → Result A Fault) (o : Option Data) (a : A)
    → Kept absent → ((v : Data) → read v ≡ Ok a → Kept a) → read_or (Ok absent) read o ≡ Ok a → Kept a
read_or-keeps Kept absent read None a none some gives = subst Kept (ok-same absent a gives) none
read_or-keeps Kept absent read (Some v) a none some gives = some v gives

pub optional-keeps : {A : Type 0} (Kept : A → Type 0) (field : Field) (absent : A) (read : Data → Result A Fault) (d : Data) (a : A)
    → Kept absent → ((v : Data) → read v ≡ Ok a → Kept a) → optional field absent read d ≡ Ok a → Kept a
optional-keeps Kept field absent read d a none some gives = read_or-keeps Kept absent read _ a none some gives

pub and-true : (a b : Bool) → (a && b) ≡ true → (a ≡ true) × (b ≡ true)
and-true true b h = (refl, h)
and-true false b h = absurd (cc)

pub some : {X : Type 0} (xs : List X) → not (length xs == 0) ≡ true → 1 ≤ length xs
some [] h = absurd (cc)
some (x ∷ xs) h = omega arith

pub below : (n : ℕ) → nat_lt n 64 ≡ true → n < 64
below n h = search (rules, tests)
