-- Selections: what choices settle, how many there are, and their order.
use Rattle.std.proofs.Common.{◌≡◌, ◌⊎◌, ℕ, zero, suc, ◌+◌, ◌*◌, List, [], ◌∷◌, ◌++◌, length, Option, Some, None, slice_get, refl, sym, ◌∙◌, ap, subst, arith, inl, inr}
use Rattle.std.specs.Prelude.{IsSome, map, option_map, option_and_then}
use Rattle.std.specs.Option.{option_or}
use Rattle.std.proofs.lemmas.Bool.{cases_eq, cases_lt}
use Rattle.std.proofs.lemmas.List.{length-map, map-append}
use Rattle.std.proofs.lemmas.Option.{same_Some, none-some, option_and_then_some}
use Rattle.std.proofs.Math.Nat.{add-mul, mul-add}
use Rattle.std.specs.List.{AllByRecursion}
use Rattle.sysmem_tree.specs.Sublist.{IsSublist, ended, taken, left_out}
use Rattle.sysmem_tree.specs.Forest.{Forest, Empty, Plain, Group, each, kids_else_rest, choices, settled, relabel, count, count_each, total, first_group}
use Rattle.sysmem_tree.specs.Laws.{CountAddsUp}
use Rattle.sysmem_tree.specs.Selection.{after, IsPrefix, IsSelection, IsEarlierSelection}
use Rattle.sysmem_tree.specs.Shape.{Member}

-- lists with some elements left out
module _ {A : Type 0} where
  pub sub_refl : (xs : List A) → IsSublist xs xs
  sub_refl [] = ended
  sub_refl (x ∷ xs) = taken x xs xs (sub_refl xs)

  pub sub_trans : (xs ys zs : List A) → IsSublist xs ys → IsSublist ys zs → IsSublist xs zs
  sub_trans xs ys _ p (left_out z _ zs q) = left_out z xs zs (sub_trans xs ys zs p q)
  sub_trans _ _ _ p ended = p
  sub_trans _ _ _ (left_out _ xs ys p) (taken z _ zs q) = left_out z xs zs (sub_trans xs ys zs p q)
  sub_trans _ _ _ (taken x xs ys p) (taken z _ zs q) = taken x xs zs (sub_trans xs ys zs p q)

  pub sub_behind : (ys us vs : List A) → IsSublist us vs → IsSublist us (ys ++ vs)
  sub_behind [] us vs q = q
  sub_behind (y ∷ ys) us vs q = left_out y us (ys ++ vs) (sub_behind ys us vs q)

  pub sub_append : (xs ys us vs : List A) → IsSublist xs ys → IsSublist us vs → IsSublist (xs ++ us) (ys ++ vs)
  sub_append _ _ us vs ended q = q
  sub_append _ _ us vs (left_out y xs ys p) q = left_out y (xs ++ us) (ys ++ vs) (sub_append xs ys us vs p q)
  sub_append _ _ us vs (taken x xs ys p) q = taken x (xs ++ us) (ys ++ vs) (sub_append xs ys us vs p q)

abbrev pub IfAny : {X : Type 0} → Type 0 → (List X → Type 0) → Option (List X) → Type 0
IfAny N P None = N
IfAny N P (Some es) = P es

pub all_mapped : {X Y : Type 0} (P : X → Type 0) (Q : Y → Type 0) (f : X → Y) (xs : List X) → ((x : X) → P x → Q (f x)) → AllByRecursion P xs → AllByRecursion Q (map f xs)
all_mapped P Q f [] h all = tt
all_mapped P Q f (x ∷ xs) h all = (h x all.0, all_mapped P Q f xs h all.1)

all_of_map : {X Y : Type 0} (Q : Y → Type 0) (f : X → Y) (xs : List X) → ((x : X) → Q (f x)) → AllByRecursion Q (map f xs)
all_of_map Q f [] h = tt
all_of_map Q f (x ∷ xs) h = (h x, all_of_map Q f xs h)

pub all_at : {X : Type 0} (P : X → Type 0) (xs : List X) (i : ℕ) (x : X) → slice_get xs i ≡ Some x → AllByRecursion P xs → P x
all_at P [] i x here all = absurd (cc)
all_at P (y ∷ xs) zero x here all = subst P (same_Some y x here) all.0
all_at P (y ∷ xs) (suc i) x here all = all_at P xs i x here all.1

module _ {A : Type 0} where
  -- each choice only adds to what is settled
  abbrev Adds : Forest A → Forest A → Type 0
  Adds d e = IsSublist (settled d) (settled e)

  keeps_in : (n : A) (kids rest : Forest A) (ks rs : Option (List (Forest A))) → IfAny (Unit {0}) (AllByRecursion (Adds kids)) ks → IfAny (Unit {0}) (AllByRecursion (Adds rest)) rs
      → IfAny (Unit {0}) (AllByRecursion (Adds (Plain n kids rest))) (kids_else_rest (λ k. Plain n k rest) (λ r. Plain n kids r) ks rs)
  keeps_in n kids rest (Some ks) rs hk hr = all_mapped (Adds kids) (Adds (Plain n kids rest)) (λ k. Plain n k rest) ks (λ k p. taken n (settled kids ++ settled rest) (settled k ++ settled rest) (sub_append (settled kids) (settled k) (settled rest) (settled rest) p (sub_refl (settled rest)))) hk
  keeps_in n kids rest None (Some rs) hk hr = all_mapped (Adds rest) (Adds (Plain n kids rest)) (λ r. Plain n kids r) rs (λ r p. taken n (settled kids ++ settled rest) (settled kids ++ settled r) (sub_append (settled kids) (settled kids) (settled rest) (settled r) (sub_refl (settled kids)) p)) hr
  keeps_in n kids rest None None hk hr = tt

  keeps : (d : Forest A) → IfAny (Unit {0}) (AllByRecursion (Adds d)) (choices d)
  keeps Empty = tt
  keeps (Plain n kids rest) = keeps_in n kids rest (choices kids) (choices rest) (keeps kids) (keeps rest)
  keeps (Group n kids rest) = all_of_map (Adds (Group n kids rest)) (λ kid. Plain n kid rest) (each kids) (λ kid. taken n (settled rest) (settled kid ++ settled rest) (sub_behind (settled kid) (settled rest) (settled rest) (sub_refl (settled rest))))

  one_keeps : (d e : Forest A) (c : ℕ) (o : Option (List (Forest A))) → IfAny (Unit {0}) (AllByRecursion (Adds d)) o → option_and_then (λ es. slice_get es c) o ≡ Some e → Adds d e
  one_keeps d e c None all is = absurd (cc)
  one_keeps d e c (Some es) all is = all_at (Adds d) es c e is all

  pub keeps_after : (d e : Forest A) (cs : List ℕ) → after d cs ≡ Some e → Adds d e
  keeps_after d e [] is = subst (Adds d) (same_Some d e is) (sub_refl (settled d))
  keeps_after d e (c ∷ cs) is = option_and_then_some (λ x. after x cs) (option_and_then (λ es. slice_get es c) (choices d)) e is
      (λ x one on. sub_trans (settled d) (settled x) (settled e) (one_keeps d x c (choices d) (keeps d) one) (keeps_after x e cs on))

  -- counts add up
  counts_times : (es : List (Forest A)) (f : Forest A → Forest A) (m : ℕ) → ((e : Forest A) → count (f e) ≡ count e * m) → total (map f es) ≡ total es * m
  counts_times [] f m h = omega arith
  counts_times (e ∷ es) f m h = ap (λ x. x + total (map f es)) (h e) ∙ (ap (λ x. count e * m + x) (counts_times es f m h) ∙ sym (add-mul (count e) (total es) m))

  times_counts : (es : List (Forest A)) (f : Forest A → Forest A) (m : ℕ) → ((e : Forest A) → count (f e) ≡ m * count e) → total (map f es) ≡ m * total es
  times_counts [] f m h = omega arith
  times_counts (e ∷ es) f m h = ap (λ x. x + total (map f es)) (h e) ∙ (ap (λ x. m * count e + x) (times_counts es f m h) ∙ sym (mul-add m (count e) (total es)))

  counts_each : (d : Forest A) → count_each d ≡ total (each d)
  counts_each Empty = refl
  counts_each (Plain n kids rest) = omega (arith, counts_each rest)
  counts_each (Group n kids rest) = omega (arith, counts_each rest)

  abbrev Counted : Forest A → Option (List (Forest A)) → Type 0
  Counted d o = IfAny (count d ≡ 1) (λ es. count d ≡ total es) o

  counts_in : (n : A) (kids rest : Forest A) (ks rs : Option (List (Forest A))) → Counted kids ks → Counted rest rs → Counted (Plain n kids rest) (kids_else_rest (λ k. Plain n k rest) (λ r. Plain n kids r) ks rs)
  counts_in n kids rest (Some ks) rs hk hr = ap (λ x. x * count rest) hk ∙ sym (counts_times ks (λ k. Plain n k rest) (count rest) (λ e. refl))
  counts_in n kids rest None (Some rs) hk hr = ap (λ x. count kids * x) hr ∙ sym (times_counts rs (λ r. Plain n kids r) (count kids) (λ e. refl))
  counts_in n kids rest None None hk hr = ap (λ x. x * count rest) hk ∙ (ap (λ x. 1 * x) hr)

  pub counts : (d : Forest A) → Counted d (choices d)
  counts Empty = refl
  counts (Plain n kids rest) = counts_in n kids rest (choices kids) (choices rest) (counts kids) (counts rest)
  counts (Group n kids rest) = ap (λ x. x * count rest) (counts_each kids) ∙ sym (counts_times (each kids) (λ kid. Plain n kid rest) (count rest) (λ e. refl))

  -- the first group
  first_in : (here behind : Forest A → Forest A) (ks rs : Option (List (Forest A))) (g h : Option (A × ℕ)) → option_map length ks ≡ option_map (λ (p : A × ℕ). p.1) g
      → option_map length rs ≡ option_map (λ (p : A × ℕ). p.1) h → option_map length (kids_else_rest here behind ks rs) ≡ option_map (λ (p : A × ℕ). p.1) (option_or g h)
  first_in here behind (Some ks) rs (Some g) h a b = ap (λ k. Some k) (length-map ks here) ∙ a
  first_in here behind (Some ks) rs None h a b = absurd (cc)
  first_in here behind None rs (Some g) h a b = absurd (cc)
  first_in here behind None (Some rs) None h a b = ap (λ k. Some k) (length-map rs behind) ∙ b
  first_in here behind None None None h a b = b

  pub first_many : (d : Forest A) → option_map length (choices d) ≡ option_map (λ (p : A × ℕ). p.1) (first_group d)
  first_many Empty = refl
  first_many (Plain n kids rest) = first_in (λ k. Plain n k rest) (λ r. Plain n kids r) (choices kids) (choices rest) (first_group kids) (first_group rest) (first_many kids) (first_many rest)
  first_many (Group n kids rest) = ap (λ k. Some k) (length-map (each kids) (λ kid. Plain n kid rest))

  -- two selections
  none_left : (d e f : Forest A) (b : ℕ) (bs : List ℕ) → IsSelection d [] e → IsSelection d (b ∷ bs) f → ⊥
  none_left d e f b bs p q =
      let none : choices d ≡ None = ap choices (same_Some d e p.leads) ∙ p.whole in
      none-some f (sym (ap (λ o. option_and_then (λ x. after x bs) (option_and_then (λ es. slice_get es b) o)) none) ∙ q.leads)

  pub three_cases : (as' bs : List ℕ) (d e f : Forest A) → IsSelection d as' e → IsSelection d bs f → IsEarlierSelection as' bs ⊎ ((as' ≡ bs) ⊎ IsEarlierSelection bs as')
  three_cases [] [] d e f p q = inr (inl refl)
  three_cases [] (b ∷ bs) d e f p q = absurd (none_left d e f b bs p q)
  three_cases (a ∷ as') [] d e f p q = absurd (none_left d f e a as' q p)
  three_cases (a ∷ as') (b ∷ bs) d e f p q = elim (cases_eq a b) [
    | inl same ↦ elim (on (λ x p' q'. three_cases as' bs x e f p' q') same) [
      | inl earlier ↦ inl (inr (same, earlier))
      | inr rest ↦ elim rest [
        | inl equal ↦ inr (inl (ap (λ x. x ∷ as') same ∙ ap (λ xs. b ∷ xs) equal))
        | inr later ↦ inr (inr (inr (sym same, later)))
      ]
    ]
    | inr other ↦ elim (cases_lt a b) [ inl less ↦ inl (inl less) | inr more ↦ inr (inr (inl (omega (arith, more, other)))) ]
  ] where
    on : ((x : Forest A) → IsSelection x as' e → IsSelection x bs f → IsEarlierSelection as' bs ⊎ ((as' ≡ bs) ⊎ IsEarlierSelection bs as')) → a ≡ b → IsEarlierSelection as' bs ⊎ ((as' ≡ bs) ⊎ IsEarlierSelection bs as')
    on ih same = option_and_then_some (λ x. after x as') (option_and_then (λ es. slice_get es a) (choices d)) e p.leads
        (λ x one leads. option_and_then_some (λ y. after y bs) (option_and_then (λ es. slice_get es b) (choices d)) f q.leads
        (λ y two leads'.
        let is : y ≡ x = same_Some y x (sym two ∙ (ap (λ c. option_and_then (λ es. slice_get es c) (choices d)) (sym same) ∙ one)) in
        ih x (record { leads = leads; whole = p.whole }) (record { leads = subst (λ z. after z bs ≡ Some f) is leads'; whole = q.whole })))

  -- a prefix of a prefix
  pub after_more : (as' bs : List ℕ) (d : Forest A) → after d (as' ++ bs) ≡ option_and_then (λ e. after e bs) (after d as')
  after_more [] bs d = refl
  after_more (a ∷ as') bs d = by (option_and_then (λ es. slice_get es a) (choices d)) (after_more as' bs) where
    by : (o : Option (Forest A)) → ((e : Forest A) → after e (as' ++ bs) ≡ option_and_then (λ x. after x bs) (after e as'))
        → option_and_then (λ e. after e (as' ++ bs)) o ≡ option_and_then (λ e. after e bs) (option_and_then (λ e. after e as') o)
    by None ih = refl
    by (Some e) ih = ih e

  pub prefix_of : (d : Forest A) (as' bs : List ℕ) → IsPrefix d (as' ++ bs) → IsPrefix d as'
  prefix_of d as' bs h = by (after d as') (subst IsSome (after_more as' bs d) h) where
    by : (o : Option (Forest A)) → IsSome (option_and_then (λ e. after e bs) o) → IsSome o
    by None h = h
    by (Some e) h = refl

-- the order
pub never_before_itself : (as' : List ℕ) → IsEarlierSelection as' as' → ⊥
never_before_itself [] h = h
never_before_itself (a ∷ as') (inl less) = omega (arith, less)
never_before_itself (a ∷ as') (inr h) = never_before_itself as' h.1

pub before_that : (as' bs cs : List ℕ) → IsEarlierSelection as' bs → IsEarlierSelection bs cs → IsEarlierSelection as' cs
before_that [] bs cs p q = absurd p
before_that (a ∷ as') [] cs p q = absurd p
before_that (a ∷ as') (b ∷ bs) [] p q = absurd q
before_that (a ∷ as') (b ∷ bs) (c ∷ cs) (inl p) (inl q) = inl (omega (arith, p, q))
before_that (a ∷ as') (b ∷ bs) (c ∷ cs) (inl p) (inr q) = inl (omega (arith, p, q.0))
before_that (a ∷ as') (b ∷ bs) (c ∷ cs) (inr p) (inl q) = inl (omega (arith, p.0, q))
before_that (a ∷ as') (b ∷ bs) (c ∷ cs) (inr p) (inr q) = inr (p.0 ∙ q.0, before_that as' bs cs p.1 q.1)

-- under other labels
module _ {A B : Type 0} (f : A → B) where
  pub settled_relabel : (d : Forest A) → settled (relabel f d) ≡ map f (settled d)
  settled_relabel Empty = refl
  settled_relabel (Plain n kids rest) = rw (settled_relabel kids, settled_relabel rest) (ap (λ xs. f n ∷ xs) (sym (map-append f (settled kids) (settled rest))))
  settled_relabel (Group n kids rest) = ap (λ xs. f n ∷ xs) (settled_relabel rest)

  commute : (g : Forest A → Forest A) (h : Forest B → Forest B) → ((x : Forest A) → h (relabel f x) ≡ relabel f (g x)) → (xs : List (Forest A))
      → map h (map (relabel f) xs) ≡ map (relabel f) (map g xs)
  commute g h same [] = refl
  commute g h same (x ∷ xs) = rw (same x, commute g h same xs) refl

  each_relabel : (d : Forest A) → each (relabel f d) ≡ map (relabel f) (each d)
  each_relabel Empty = refl
  each_relabel (Plain n kids rest) = rw (each_relabel rest) refl
  each_relabel (Group n kids rest) = rw (each_relabel rest) refl

  opened : (n : A) (kids rest : Forest A) (ks rs : Option (List (Forest A)))
      → kids_else_rest (λ k. Plain (f n) k (relabel f rest)) (λ r. Plain (f n) (relabel f kids) r) (option_map (map (relabel f)) ks) (option_map (map (relabel f)) rs)
      ≡ option_map (map (relabel f)) (kids_else_rest (λ k. Plain n k rest) (λ r. Plain n kids r) ks rs)
  opened n kids rest (Some ks) rs = ap Some (commute (λ k. Plain n k rest) (λ k. Plain (f n) k (relabel f rest)) (λ x. refl) ks)
  opened n kids rest None (Some rs) = ap Some (commute (λ r. Plain n kids r) (λ r. Plain (f n) (relabel f kids) r) (λ x. refl) rs)
  opened n kids rest None None = refl

  pub choices_relabel : (d : Forest A) → choices (relabel f d) ≡ option_map (map (relabel f)) (choices d)
  choices_relabel Empty = refl
  choices_relabel (Plain n kids rest) = rw (choices_relabel kids, choices_relabel rest) (opened n kids rest (choices kids) (choices rest))
  choices_relabel (Group n kids rest) = rw (each_relabel kids) (ap Some (commute (λ kid. Plain n kid rest) (λ kid. Plain (f n) kid (relabel f rest)) (λ x. refl) (each kids)))

  at_relabel : (c : ℕ) (es : List (Forest A)) → slice_get (map (relabel f) es) c ≡ option_map (relabel f) (slice_get es c)
  at_relabel c [] = refl
  at_relabel zero (e ∷ es) = refl
  at_relabel (suc c) (e ∷ es) = at_relabel c es

  chosen_relabel : (c : ℕ) (o : Option (List (Forest A))) → option_and_then (λ es. slice_get es c) (option_map (map (relabel f)) o) ≡ option_map (relabel f) (option_and_then (λ es. slice_get es c) o)
  chosen_relabel c None = refl
  chosen_relabel c (Some es) = at_relabel c es

  pub after_relabel : (cs : List ℕ) (d : Forest A) → after (relabel f d) cs ≡ option_map (relabel f) (after d cs)
  after_relabel [] d = refl
  after_relabel (c ∷ cs) d =
      ap (λ o. option_and_then (λ e. after e cs) (option_and_then (λ es. slice_get es c) o)) (choices_relabel d)
      ∙ (ap (λ o. option_and_then (λ e. after e cs) o) (chosen_relabel c (choices d)) ∙ by (option_and_then (λ es. slice_get es c) (choices d)) (after_relabel cs)) where
        by : (o : Option (Forest A)) → ((e : Forest A) → after (relabel f e) cs ≡ option_map (relabel f) (after e cs))
            → option_and_then (λ e. after e cs) (option_map (relabel f) o) ≡ option_map (relabel f) (option_and_then (λ e. after e cs) o)
        by None ih = refl
        by (Some e) ih = ih e

-- the laws, at numbers
pub settled_grows : (d e : Forest ℕ) (cs : List ℕ) → after d cs ≡ Some e → IsSublist (settled d) (settled e)
settled_grows = keeps_after

pub counted : (d : Forest ℕ) → CountAddsUp d
counted d = record { whole = λ none. subst (Counted d) none (counts d); split = λ es is. subst (Counted d) is (counts d) }

pub one_is_earlier : (d e f : Forest ℕ) (as' bs : List ℕ) → IsSelection d as' e → IsSelection d bs f → IsEarlierSelection as' bs ⊎ ((as' ≡ bs) ⊎ IsEarlierSelection bs as')
one_is_earlier d e f as' bs p q = three_cases as' bs d e f p q

pub an_order : ((as' : List ℕ) → IsEarlierSelection as' as' → ⊥) × ((as' bs cs : List ℕ) → IsEarlierSelection as' bs → IsEarlierSelection bs cs → IsEarlierSelection as' cs)
an_order = (never_before_itself, before_that)

pub prefix_of_prefix : (d : Forest ℕ) (as' bs : List ℕ) → IsPrefix d (as' ++ bs) → IsPrefix d as'
prefix_of_prefix = prefix_of

pub relabels : (f : ℕ → Member) (d : Forest ℕ) (cs : List ℕ) → (settled (relabel f d) ≡ map f (settled d)) × (after (relabel f d) cs ≡ option_map (relabel f) (after d cs))
relabels f d cs = (settled_relabel f d, after_relabel f cs d)
