-- Lists that have no item twice.
use Rattle.std.proofs.Common.{◌≡◌, ℕ, ◌+◌, ◌<◌, ◌≤◌, Bool, true, false, ◌||◌, List, [], ◌∷◌, ◌++◌, zero, suc, length, get_or, take, refl, sym, ap, ◌∙◌, subst, arith, Decides}
use Rattle.std.specs.Prelude.{All, AllPairs}
use Rattle.std.specs.List.{list_any}
use Rattle.std.proofs.lemmas.List.{take_more, take_all, get_or-take, length-take-le}
use Rattle.std.proofs.lemmas.List.Elements.{All-push}
use Rattle.std.proofs.lemmas.List.Quantifiers.{all_pairs_push}

or-false : (a b : Bool) → (a || b) ≡ false → (a ≡ false) × (b ≡ false)
or-false true b h = absurd (cc)
or-false false b h = (refl, h)

-- an element of a list of which none passes
pub none_passes : {X : Type 0} (p : X → Bool) (xs : List X) (k : ℕ) (d : X) → list_any p xs ≡ false → k < length xs → p (get_or xs k d) ≡ false
none_passes p [] k d none within = absurd (omega arith)
none_passes p (x ∷ xs) zero d none within = (or-false (p x) (list_any p xs) none).0
none_passes p (x ∷ xs) (suc k) d none within = none_passes p xs k d (or-false (p x) (list_any p xs) none).1 (omega arith)

pub none-yet : {X : Type 0} (same : X → X → Bool) (xs : List X) → AllPairs (λ a b. same a b ≡ false) (take 0 xs)
none-yet same xs i j d before within = absurd (omega arith)

-- one more, which is the same as none before
pub one-more : {X : Type 0} (same : X → X → Bool) (xs : List X) (i : ℕ) (x : X) → i < length xs → x ≡ get_or xs i x
    → list_any (λ item. same item x) (take i xs) ≡ false → AllPairs (λ a b. same a b ≡ false) (take i xs) → AllPairs (λ a b. same a b ≡ false) (take (i + 1) xs)
one-more same xs i x within is none before =
    let more : take (i + 1) xs ≡ take i xs ++ x ∷ [] = take_more xs i x within ∙ ap (λ y. take i xs ++ y ∷ []) (sym is) in
    subst (AllPairs (λ a b. same a b ≡ false)) (sym more) (all_pairs_push (λ a b. same a b ≡ false) (take i xs) x before (λ k d lt. none_passes (λ item. same item x) (take i xs) k d none lt))

-- an element that passes
abbrev Passes : {X : Type 0} → (X → Bool) → List X → X → Type 0
Passes p xs d = (k : ℕ) × (k < length xs) × (p (get_or xs k d) ≡ true)

some-by : {X : Type 0} (p : X → Bool) (x : X) (xs : List X) (d : X) (t : Bool) → p x ≡ t → (list_any p xs ≡ true → Passes p xs d) → (t || list_any p xs) ≡ true → Passes p (x ∷ xs) d
some-by p x xs d true is rest some = (0, omega arith, is)
some-by p x xs d false is rest some = let (k, within, holds) = rest some in (suc k, omega (arith, within), holds)

-- an element of a list of which one passes
some_passes : {X : Type 0} (p : X → Bool) (xs : List X) (d : X) → list_any p xs ≡ true → Passes p xs d
some_passes p [] d some = absurd (cc)
some_passes p (x ∷ xs) d some = some-by p x xs d (p x) refl (λ h. some_passes p xs d h) some

-- one that is the same as one before
pub one-again : {X : Type 0} (same : X → X → Bool) (xs : List X) (i : ℕ) (x : X) → i < length xs → x ≡ get_or xs i x
    → list_any (λ item. same item x) (take i xs) ≡ true → AllPairs (λ a b. same a b ≡ false) xs → ⊥
one-again same xs i x within is some distinct =
    let (k, low, holds) = some_passes (λ item. same item x) (take i xs) x some in
    let below : k < i = omega (arith, low, length-take-le i xs (omega arith)) in
    let apart : same (get_or xs k x) (get_or xs i x) ≡ false = distinct k i x below within in
    let first : get_or (take i xs) k x ≡ get_or xs k x = get_or-take i xs k x below in
    let again : same (get_or xs k x) (get_or xs i x) ≡ true = subst (λ y. same (get_or xs k x) y ≡ true) is (subst (λ y. same y x ≡ true) first holds) in
    absurd (cc)

pub none-left : {X : Type 0} (same : X → X → Bool) (xs : List X) (i : ℕ) → length xs ≤ i → AllPairs (λ a b. same a b ≡ false) (take i xs) → AllPairs (λ a b. same a b ≡ false) xs
none-left same xs i over distinct = subst (AllPairs (λ a b. same a b ≡ false)) (take_all i xs over) distinct

-- what holds of those so far and of one more
pub all-more : {X : Type 0} (P : X → Type 0) (xs : List X) (i : ℕ) (x : X) → i < length xs → x ≡ get_or xs i x → All P (take i xs) → P x → All P (take (i + 1) xs)
all-more P xs i x within is before holds =
    let more : take (i + 1) xs ≡ take i xs ++ x ∷ [] = take_more xs i x within ∙ ap (λ y. take i xs ++ y ∷ []) (sym is) in
    subst (All P) (sym more) (All-push P (take i xs) x before holds)

pub all-left : {X : Type 0} (P : X → Type 0) (xs : List X) (i : ℕ) → length xs ≤ i → All P (take i xs) → All P xs
all-left P xs i over all = subst (All P) (take_all i xs over) all

-- pairs of which a test tells nothing are pairs of which what it tells doesn't hold
pub pairs-told : {X : Type 0} (same : X → X → Bool) (Same : X → X → Type 0) → ((a b : X) → Decides (same a b) (Same a b)) → (xs : List X)
    → AllPairs (λ a b. same a b ≡ false) xs → AllPairs (λ a b. Same a b → ⊥) xs
pairs-told {X} same Same decides xs distinct i j d before within is =
    let yes' : same (get_or xs i d) (get_or xs j d) ≡ true = (decides (get_or xs i d) (get_or xs j d)).1 is in
    let no' : same (get_or xs i d) (get_or xs j d) ≡ false = distinct i j d before within in
    absurd (cc)

not-told : {P : Type 0} (t : Bool) → Decides t P → (P → ⊥) → t ≡ false
not-told true decides not' = absurd (not' (decides.0 refl))
not-told false decides not' = refl

pub pairs-tell : {X : Type 0} (same : X → X → Bool) (Same : X → X → Type 0) → ((a b : X) → Decides (same a b) (Same a b)) → (xs : List X)
    → AllPairs (λ a b. Same a b → ⊥) xs → AllPairs (λ a b. same a b ≡ false) xs
pairs-tell same Same decides xs apart i j d before within = not-told _ (decides (get_or xs i d) (get_or xs j d)) (apart i j d before within)
