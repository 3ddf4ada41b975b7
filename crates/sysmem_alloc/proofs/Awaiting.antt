-- Each domain that is ready and undecided waits, by the counts of a sound state.
use Rattle.std.proofs.Common.{◌≡◌, ◌≢◌, ◌≤◌, ℕ, zero, suc, ◌+◌, ◌==◌, Bool, true, false, List, [], ◌∷◌, ◌++◌, length, Option, Some, None, slice_get, refl, sym, ◌∙◌, ap, subst, arith, rules, tests, length-append}
use Rattle.std.specs.Prelude.{IsSomeAnd, filter, is_some, map, if◌then◌else◌}
use Rattle.std.specs.List.{AllByRecursion, Contains}
use Rattle.std.proofs.lemmas.List.Elements.{Contains-append_right}
use Rattle.std.proofs.lemmas.Option.{same_Some}
use Rattle.sysmem_tree.specs.declared.domain.Decision.TheVariants.{Chosen, NoneChosen}
use Rattle.sysmem_tree.specs.Domain.{HasDomain, decision_of, is_ready, is_undecided, roots_from}
use Rattle.sysmem_tree.specs.Node.{NodeFacts}
use Rattle.sysmem_alloc.specs.Decision.{DomainVerdict, choices_of, decision_for}
use Rattle.sysmem_alloc.specs.History.{replay}
use Rattle.sysmem_alloc.specs.Laws.{LegalAgrees, LegalIsSound, ReadyWaits}
use Rattle.sysmem_alloc.specs.Sound.{AreDistinct, IsOfReady, IsSoundState, MayWait, roots_of, standing_of}
use Rattle.sysmem_alloc.specs.State.{State}
use Rattle.sysmem_alloc.proofs.Lists.{all_append, all_weaken, apart_append}

-- whether a number is in a list
abbrev here : ℕ → List ℕ → Bool
here x [] = false
here x (y ∷ ys) = if y == x then true else here x ys

-- a list without the first such number
abbrev out : ℕ → List ℕ → List ℕ
out x [] = []
out x (y ∷ ys) = if y == x then ys else y ∷ out x ys

equal : (x y : ℕ) → (y == x) ≡ true → y ≡ x
equal x y e = search (rules, tests, e)

itself : (x y : ℕ) → y ≡ x → (y == x) ≡ true
itself x y e = search (rules, tests, e)

here_more : (x y : ℕ) (ys : List ℕ) → here x ys ≡ true → here x (y ∷ ys) ≡ true
here_more x y ys h = by (y == x) where
  by : (b : Bool) → (if b then true else here x ys) ≡ true
  by true = refl
  by false = h

here_first : (x : ℕ) (ys : List ℕ) → here x (x ∷ ys) ≡ true
here_first x ys = ap (λ b. if b then true else here x ys) (itself x x refl)

length_out : (x : ℕ) (ys : List ℕ) → here x ys ≡ true → suc (length (out x ys)) ≡ length ys
length_out x [] h = absurd (cc)
length_out x (y ∷ ys) h = by (y == x) h (length_out x ys) where
  by : (b : Bool) → (if b then true else here x ys) ≡ true → (here x ys ≡ true → suc (length (out x ys)) ≡ length ys) → suc (length (if b then ys else y ∷ out x ys)) ≡ suc (length ys)
  by true h rest = refl
  by false h rest = ap suc (rest h)

-- any other number stays
still_here : (x z : ℕ) (ys : List ℕ) → x ≢ z → here z ys ≡ true → here z (out x ys) ≡ true
still_here x z [] other h = h
still_here x z (y ∷ ys) other h = by (y == x) (y == z) refl refl h (still_here x z ys other) where
  by : (b c : Bool) → (y == x) ≡ b → (y == z) ≡ c → (if c then true else here z ys) ≡ true → (here z ys ≡ true → here z (out x ys) ≡ true) → here z (if b then ys else y ∷ out x ys) ≡ true
  by true true own that h rest = absurd (other (sym (equal x y own) ∙ equal z y that))
  by true false own that h rest = h
  by false true own that h rest = ap (λ b. if b then true else here z (out x ys)) that
  by false false own that h rest = ap (λ b. if b then true else here z (out x ys)) that ∙ rest h

rest_here : (x : ℕ) (xs ys : List ℕ) → AllByRecursion (λ z. x ≢ z) xs → AllByRecursion (λ z. here z ys ≡ true) xs → AllByRecursion (λ z. here z (out x ys) ≡ true) xs
rest_here x [] ys others all = tt
rest_here x (z ∷ xs) ys others all = (still_here x z ys others.0 all.0, rest_here x xs ys others.1 all.1)

-- numbers of a list, each once, are at most as many as it has
few_of : (xs ys : List ℕ) → AreDistinct xs → AllByRecursion (λ z. here z ys ≡ true) xs → length xs ≤ length ys
few_of [] ys apart all = omega arith
few_of (x ∷ xs) ys apart all = omega (arith, length_out x ys all.0, few_of xs (out x ys) apart.1 (rest_here x xs ys apart.0 all.1))

others : (x : ℕ) (ys : List ℕ) → here x ys ≡ false → AllByRecursion (λ y. x ≢ y) ys
others x [] h = tt
others x (y ∷ ys) h = by (y == x) refl h (others x ys) where
  by : (b : Bool) → (y == x) ≡ b → (if b then true else here x ys) ≡ false → (here x ys ≡ false → AllByRecursion (λ y. x ≢ y) ys) → (x ≢ y) × AllByRecursion (λ y. x ≢ y) ys
  by true own h rest = absurd (cc)
  by false own h rest = (λ same. let e : (y == x) ≡ true = itself x y (sym same) in absurd (cc), rest h)

-- where they are as many, each of the list is among them
all_found : (xs ys : List ℕ) (z : ℕ) → AreDistinct xs → AllByRecursion (λ x. here x ys ≡ true) xs → length xs ≡ length ys → here z ys ≡ true → here z xs ≡ true
all_found xs ys z apart all same h = by (here z xs) refl where
  by : (b : Bool) → here z xs ≡ b → b ≡ true
  by true e = refl
  by false e = let few : suc (length xs) ≤ length ys = few_of (z ∷ xs) ys (others z xs e, apart) (h, all) in absurd (omega (arith, few, same))

here_either : (z : ℕ) (xs ys : List ℕ) → here z (xs ++ ys) ≡ true → here z ys ≡ false → here z xs ≡ true
here_either z [] ys h none = absurd (cc)
here_either z (x ∷ xs) ys h none = by (x == z) h (λ e. here_either z xs ys e none) where
  by : (b : Bool) → (if b then true else here z (xs ++ ys)) ≡ true → (here z (xs ++ ys) ≡ true → here z xs ≡ true) → (if b then true else here z xs) ≡ true
  by true h rest = refl
  by false h rest = rest h

here_passes : (p : ℕ → Bool) (z : ℕ) (xs : List ℕ) → p z ≡ true → here z xs ≡ true → here z (filter p xs) ≡ true
here_passes p z [] is h = h
here_passes p z (x ∷ xs) is h = by (x == z) refl h (here_passes p z xs is) where
  first : (b : Bool) → x ≡ z → b ≡ true → here z (if b then x ∷ filter p xs else filter p xs) ≡ true
  first true own e = ap (λ b. if b then true else here z (filter p xs)) (itself z x own)
  first false own e = absurd (cc)

  later : (b : Bool) → here z (filter p xs) ≡ true → here z (if b then x ∷ filter p xs else filter p xs) ≡ true
  later true e = here_more z x (filter p xs) e
  later false e = e

  by : (b : Bool) → (x == z) ≡ b → (if b then true else here z xs) ≡ true → (here z xs ≡ true → here z (filter p xs) ≡ true) → here z (if p x then x ∷ filter p xs else filter p xs) ≡ true
  by true own h rest = first (p x) (equal z x own) (ap p (equal z x own) ∙ is)
  by false own h rest = later (p x) (rest h)

contains_it : (z : ℕ) (xs : List ℕ) → here z xs ≡ true → Contains xs z
contains_it z [] h = absurd (cc)
contains_it z (x ∷ xs) h = by (x == z) refl h (contains_it z xs) where
  by : (b : Bool) → (x == z) ≡ b → (if b then true else here z xs) ≡ true → (here z xs ≡ true → Contains xs z) → Contains (x ∷ xs) z
  by true own h rest = (0, omega arith, equal z x own)
  by false own h rest = Contains-append_right (x ∷ []) xs z (rest h)

-- each domain is among the roots
listed : (i m : ℕ) (nodes : List NodeFacts) (n : NodeFacts) → slice_get nodes m ≡ Some n → n.domain ≡ i + m → here (i + m) (roots_from i nodes) ≡ true
listed i m [] n is own = absurd (cc)
listed i zero (x ∷ nodes) n is own =
    let z : i + 0 ≡ i = omega arith in
    let root : x.domain ≡ i = ap (λ (y : NodeFacts). y.domain) (same_Some x n is) ∙ (own ∙ z) in
    subst (λ k. here k (roots_from i (x ∷ nodes)) ≡ true) (sym z)
    (ap (λ b. here i (if b then i ∷ roots_from (i + 1) nodes else roots_from (i + 1) nodes)) (itself i x.domain root) ∙ here_first i (roots_from (i + 1) nodes))
listed i (suc m) (x ∷ nodes) n is own =
    let z : i + suc m ≡ (i + 1) + m = omega arith in
    by (x.domain == i) (subst (λ k. here k (roots_from (i + 1) nodes) ≡ true) (sym z) (listed (i + 1) m nodes n is (own ∙ z))) where
      by : (b : Bool) → here (i + suc m) (roots_from (i + 1) nodes) ≡ true → here (i + suc m) (if b then i ∷ roots_from (i + 1) nodes else roots_from (i + 1) nodes) ≡ true
      by true h = here_more (i + suc m) i (roots_from (i + 1) nodes) h
      by false h = h

root_here : (nodes : List NodeFacts) (r : ℕ) → HasDomain nodes r → here r (roots_from 0 nodes) ≡ true
root_here nodes r has = by (slice_get nodes r) refl has where
  by : (o : Option NodeFacts) → slice_get nodes r ≡ o → IsSomeAnd o (λ n. n.domain ≡ r) → here r (roots_from 0 nodes) ≡ true
  by None is h = absurd h
  by (Some n) is h = let z : 0 + r ≡ r = omega arith in subst (λ k. here k (roots_from 0 nodes) ≡ true) z (listed 0 r nodes n is (h ∙ sym z))

abbrev decided_domains : List DomainVerdict → List ℕ
decided_domains ds = map (λ (d : DomainVerdict). d.domain) ds

-- a decision was entered for those that were decided
is_decided : (r : ℕ) (ds : List DomainVerdict) → here r (decided_domains ds) ≡ is_some (decision_for ds r)
is_decided r [] = refl
is_decided r (d ∷ ds) = by (d.domain == r) (is_decided r ds) where
  by : (b : Bool) → here r (decided_domains ds) ≡ is_some (decision_for ds r) → (if b then true else here r (decided_domains ds)) ≡ is_some (if b then Some d else decision_for ds r)
  by true rest = refl
  by false rest = rest

none_entered : (o : Option DomainVerdict) → is_undecided (standing_of o) ≡ true → is_some o ≡ false
none_entered None e = refl
none_entered (Some d) e = by (is_some (choices_of d.verdict)) e where
  by : (b : Bool) → is_undecided (if b then Chosen else NoneChosen) ≡ true → true ≡ false
  by true e = absurd (cc)
  by false e = absurd (cc)

many_mapped : (ds : List DomainVerdict) → length (decided_domains ds) ≡ length ds
many_mapped [] = refl
many_mapped (d ∷ ds) = ap suc (many_mapped ds)

of_decided : (P : ℕ → Type 0) (Q : DomainVerdict → Type 0) (ds : List DomainVerdict) → ((d : DomainVerdict) → Q d → P d.domain) → AllByRecursion Q ds → AllByRecursion P (decided_domains ds)
of_decided P Q [] each all = tt
of_decided P Q (d ∷ ds) each all = (each d all.0, of_decided P Q ds each all.1)

-- in a state whose tree has of each domain what was entered for it
waits_in : (s : State) → IsSoundState s → ((r : ℕ) → decision_of s.tree.domains r ≡ standing_of (decision_for s.decisions r)) → AreDistinct (decided_domains s.decisions)
    → (r : ℕ) → HasDomain s.tree.nodes r → is_ready s.tree r ≡ true → is_undecided (decision_of s.tree.domains r) ≡ true → Contains s.waiting r
waits_in s sound standing apart r has ready undecided =
    contains_it r s.waiting (here_either r s.waiting ds (all_found (s.waiting ++ ds) ready_roots r once each many (among r has ready)) (open_yet r undecided)) where
      ds : List ℕ
      ds = decided_domains s.decisions

      ready_roots : List ℕ
      ready_roots = filter (is_ready s.tree) (roots_of s.tree)

      among : (k : ℕ) → HasDomain s.tree.nodes k → is_ready s.tree k ≡ true → here k ready_roots ≡ true
      among k has ready = here_passes (is_ready s.tree) k (roots_of s.tree) ready (subst (λ ks. here k ks ≡ true) (sym sound.tree.domains) (root_here s.tree.nodes k has))

      open_yet : (k : ℕ) → is_undecided (decision_of s.tree.domains k) ≡ true → here k ds ≡ false
      open_yet k e = is_decided k s.decisions ∙ none_entered (decision_for s.decisions k) (ap is_undecided (sym (standing k)) ∙ e)

      once : AreDistinct (s.waiting ++ ds)
      once = apart_append s.waiting ds sound.once apart (all_weaken (MayWait s.tree) (λ x. AllByRecursion (λ y. x ≢ y) ds) s.waiting (λ x w. others x ds (open_yet x w.undecided)) sound.waiting)

      each : AllByRecursion (λ x. here x ready_roots ≡ true) (s.waiting ++ ds)
      each = all_append (λ x. here x ready_roots ≡ true) s.waiting ds (all_weaken (MayWait s.tree) (λ x. here x ready_roots ≡ true) s.waiting (λ x w. among x w.there w.ready) sound.waiting)
          (of_decided (λ x. here x ready_roots ≡ true) (IsOfReady s.tree) s.decisions (λ d o. among d.domain o.there o.ready) sound.decided)

      many : length (s.waiting ++ ds) ≡ length ready_roots
      many = length-append s.waiting ds ∙ (ap (λ k. length s.waiting + k) (many_mapped s.decisions) ∙ sound.count)

pub ready_waits : LegalIsSound → LegalAgrees → ReadyWaits
ready_waits sound agrees platform es r legal =
    let a = agrees platform es legal in
    waits_in (replay es) (sound platform es legal) a.standing a.once r
