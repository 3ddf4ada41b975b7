-- All selections of a forest, in order, are as many as its count.
use Rattle.std.proofs.Common.{◌≡◌, ◌⊎◌, ℕ, zero, suc, ◌+◌, ◌<◌, ◌≤◌, List, [], ◌∷◌, ◌++◌, length, Option, Some, None, slice_get, refl, sym, ◌∙◌, ap, subst, arith, inl, inr, length-append}
use Rattle.std.specs.Prelude.{map, option_and_then}
use Rattle.std.proofs.lemmas.Option.{slice_get_within, same_Some, none-some, option_and_then_some}
use Rattle.std.specs.List.{AllByRecursion}
use Rattle.sysmem_tree.specs.Forest.{Forest, Empty, Plain, Group, each, kids_else_rest, choices, count, total}
use Rattle.sysmem_tree.specs.Laws.{ListsSelections}
use Rattle.sysmem_tree.specs.Selection.{after, IsSelection, IsEarlierSelection}
use Rattle.sysmem_tree.proofs.selections.Selections.{IfAny, all_mapped, counts}

get_append : {X : Type 0} (xs ys : List X) (k : ℕ) (z : X) → slice_get (xs ++ ys) k ≡ Some z → (slice_get xs k ≡ Some z) ⊎ ((j : ℕ) × (k ≡ length xs + j) × (slice_get ys j ≡ Some z))
get_append [] ys k z e = inr (k, omega arith, e)
get_append (x ∷ xs) ys zero z e = inl e
get_append (x ∷ xs) ys (suc k) z e = elim (get_append xs ys k z e) [ inl before ↦ inl before | inr (j, at, there) ↦ inr (j, omega (arith, at), there) ]

get_front : {X : Type 0} (xs ys : List X) (k : ℕ) (z : X) → slice_get xs k ≡ Some z → slice_get (xs ++ ys) k ≡ Some z
get_front [] ys k z e = absurd (cc)
get_front (x ∷ xs) ys zero z e = e
get_front (x ∷ xs) ys (suc k) z e = get_front xs ys k z e

get_behind : {X : Type 0} (xs ys : List X) (j : ℕ) (z : X) → slice_get ys j ≡ Some z → (k : ℕ) × (slice_get (xs ++ ys) k ≡ Some z)
get_behind [] ys j z e = (j, e)
get_behind (x ∷ xs) ys j z e = let (k, at) = get_behind xs ys j z e in (suc k, at)

get_map : {X Y : Type 0} (f : X → Y) (xs : List X) (k : ℕ) (y : Y) → slice_get (map f xs) k ≡ Some y → (x : X) × (slice_get xs k ≡ Some x) × (f x ≡ y)
get_map f [] k y e = absurd (cc)
get_map f (x ∷ xs) zero y e = (x, refl, same_Some (f x) y e)
get_map f (x ∷ xs) (suc k) y e = get_map f xs k y e

put_map : {X Y : Type 0} (f : X → Y) (xs : List X) (k : ℕ) (x : X) → slice_get xs k ≡ Some x → slice_get (map f xs) k ≡ Some (f x)
put_map f [] k x e = absurd (cc)
put_map f (y ∷ xs) zero x e = ap (λ z. Some (f z)) (same_Some y x e)
put_map f (y ∷ xs) (suc k) x e = put_map f xs k x e

map_long : {X Y : Type 0} (f : X → Y) (xs : List X) → length (map f xs) ≡ length xs
map_long f [] = refl
map_long f (x ∷ xs) = ap suc (map_long f xs)

-- a choice leaves fewer groups
abbrev groups : Forest ℕ → ℕ
groups Empty = 0
groups (Plain n kids rest) = groups kids + groups rest
groups (Group n kids rest) = suc (groups kids + groups rest)

abbrev Fewer : Forest ℕ → Forest ℕ → Type 0
Fewer d e = suc (groups e) ≤ groups d

fewer_in : (n : ℕ) (kids rest : Forest ℕ) (ks rs : Option (List (Forest ℕ))) → IfAny (Unit {0}) (AllByRecursion (Fewer kids)) ks → IfAny (Unit {0}) (AllByRecursion (Fewer rest)) rs
    → IfAny (Unit {0}) (AllByRecursion (Fewer (Plain n kids rest))) (kids_else_rest (λ k. Plain n k rest) (λ r. Plain n kids r) ks rs)
fewer_in n kids rest (Some ks) rs hk hr = all_mapped (Fewer kids) (Fewer (Plain n kids rest)) (λ k. Plain n k rest) ks (λ k p. omega (arith, p)) hk
fewer_in n kids rest None (Some rs) hk hr = all_mapped (Fewer rest) (Fewer (Plain n kids rest)) (λ r. Plain n kids r) rs (λ r p. omega (arith, p)) hr
fewer_in n kids rest None None hk hr = tt

all_weaker : (P Q : Forest ℕ → Type 0) (es : List (Forest ℕ)) → ((e : Forest ℕ) → P e → Q e) → AllByRecursion P es → AllByRecursion Q es
all_weaker P Q [] h all = tt
all_weaker P Q (e ∷ es) h all = (h e all.0, all_weaker P Q es h all.1)

each_small : (d : Forest ℕ) → AllByRecursion (λ (e : Forest ℕ). groups e ≤ groups d) (each d)
each_small Empty = tt
each_small (Plain n kids rest) = (omega arith, all_weaker (λ (e : Forest ℕ). groups e ≤ groups rest) (λ (e : Forest ℕ). groups e ≤ groups kids + groups rest) (each rest) (λ e p. omega (arith, p)) (each_small rest))
each_small (Group n kids rest) = (omega arith, all_weaker (λ (e : Forest ℕ). groups e ≤ groups rest) (λ (e : Forest ℕ). groups e ≤ suc (groups kids + groups rest)) (each rest) (λ e p. omega (arith, p)) (each_small rest))

fewer : (d : Forest ℕ) → IfAny (Unit {0}) (AllByRecursion (Fewer d)) (choices d)
fewer Empty = tt
fewer (Plain n kids rest) = fewer_in n kids rest (choices kids) (choices rest) (fewer kids) (fewer rest)
fewer (Group n kids rest) =
    all_mapped (λ (e : Forest ℕ). groups e ≤ groups kids) (Fewer (Group n kids rest)) (λ kid. Plain n kid rest) (each kids) (λ kid p. omega (arith, p)) (each_small kids)

-- the selections of alternatives, the first of which has number c
record AreBranches (c : ℕ) (es : List (Forest ℕ)) : Type 0 where
  all : List (List ℕ)
  many : length all ≡ total es
  sound : (k : ℕ) (cs : List ℕ) → slice_get all k ≡ Some cs → (i : ℕ) × (ds : List ℕ) × (e : Forest ℕ) × (f : Forest ℕ) × (cs ≡ (c + i) ∷ ds) × (slice_get es i ≡ Some e) × IsSelection e ds f
  found : (i : ℕ) (ds : List ℕ) (e f : Forest ℕ) → slice_get es i ≡ Some e → IsSelection e ds f → (k : ℕ) × (slice_get all k ≡ Some ((c + i) ∷ ds))
  order : (j k : ℕ) (as' bs : List ℕ) → slice_get all j ≡ Some as' → slice_get all k ≡ Some bs → j < k → IsEarlierSelection as' bs

branches : (c : ℕ) (es : List (Forest ℕ)) → AllByRecursion ListsSelections es → AreBranches c es
branches c [] h = record {
  all = [];
  many = refl;
  sound = λ k cs e. absurd (cc);
  found = λ i ds e f at s. absurd (cc);
  order = λ j k as' bs a b less. absurd (cc);
}
branches c (e ∷ es) h = joined h.0 (branches (c + 1) es h.1) where
  joined : ListsSelections e → AreBranches (c + 1) es → AreBranches c (e ∷ es)
  joined l b = record {
    all = mine ++ b.all;
    many = omega (arith, length-append mine b.all, map_long (λ ds. c ∷ ds) l.all, l.many, b.many);
    sound = λ k cs at. elim (get_append mine b.all k cs at) [
      | inl front ↦
          let (ds, there, is) = get_map (λ ds. c ∷ ds) l.all k cs front in
          let (f, s) = l.sound k ds there in
          let z : c ≡ c + 0 = omega arith in (0, ds, e, f, sym is ∙ ap (λ x. x ∷ ds) z, refl, s)
      | inr (j, _, there) ↦
          let (i, ds, x, f, is, at', s) = b.sound j cs there in
          let z : (c + 1) + i ≡ c + suc i = omega arith in (suc i, ds, x, f, is ∙ ap (λ y. y ∷ ds) z, at', s)
    ];
    found = found;
    order = order;
  } where
    mine : List (List ℕ)
    mine = map (λ ds. c ∷ ds) l.all

    found : (i : ℕ) (ds : List ℕ) (x f : Forest ℕ) → slice_get (e ∷ es) i ≡ Some x → IsSelection x ds f → (k : ℕ) × (slice_get (mine ++ b.all) k ≡ Some ((c + i) ∷ ds))
    found zero ds x f at s =
        let (k, there) = l.found ds f (subst (λ y. IsSelection y ds f) (sym (same_Some e x at)) s) in
        let z : c ≡ c + 0 = omega arith in
        (k, get_front mine b.all k ((c + 0) ∷ ds) (put_map (λ xs. c ∷ xs) l.all k ds there ∙ ap (λ y. Some (y ∷ ds)) z))
    found (suc i) ds x f at s =
        let (j, there) = b.found i ds x f at s in
        let z : (c + 1) + i ≡ c + suc i = omega arith in
        get_behind mine b.all j ((c + suc i) ∷ ds) (there ∙ ap (λ y. Some (y ∷ ds)) z)

    order : (j k : ℕ) (as' bs : List ℕ) → slice_get (mine ++ b.all) j ≡ Some as' → slice_get (mine ++ b.all) k ≡ Some bs → j < k → IsEarlierSelection as' bs
    order j k as' bs at_j at_k less = elim (get_append mine b.all j as' at_j) [
      | inl front ↦
          let (ds, there, is) = get_map (λ xs. c ∷ xs) l.all j as' front in
          elim (get_append mine b.all k bs at_k) [
            | inl front' ↦
                let (ds', there', is') = get_map (λ xs. c ∷ xs) l.all k bs front' in
                subst (λ xs. IsEarlierSelection xs bs) is (subst (IsEarlierSelection (c ∷ ds)) is' (inr (refl, l.order j k ds ds' there there' less)))
            | inr (k', _, there') ↦
                let (i, ds', x, f, is', _, _) = b.sound k' bs there' in
                subst (λ xs. IsEarlierSelection xs bs) is (subst (IsEarlierSelection (c ∷ ds)) (sym is') (inl (omega arith)))
          ]
      | inr (j', at, there) ↦ elim (get_append mine b.all k bs at_k) [
        | inl front' ↦ absurd (omega (arith, slice_get_within mine k bs front', at, less))
        | inr (k', at', there') ↦ b.order j' k' as' bs there there' (omega (arith, at, at', less))
      ]
    ]

listed_by : (d : Forest ℕ) (o : Option (List (Forest ℕ))) → choices d ≡ o → IfAny (Unit {0}) (AllByRecursion ListsSelections) o → ListsSelections d
listed_by d None e h = record {
  all = [] ∷ [];
  many = sym (subst (IfAny (count d ≡ 1) (λ es. count d ≡ total es)) e (counts d));
  sound = sound;
  found = found;
  order = order;
} where
  sound : (k : ℕ) (cs : List ℕ) → slice_get ([] ∷ []) k ≡ Some cs → (f : Forest ℕ) × IsSelection d cs f
  sound zero cs at = (d, subst (λ xs. IsSelection d xs d) (same_Some [] cs at) (record { leads = refl; whole = e }))
  sound (suc k) cs at = absurd (cc)

  found : (cs : List ℕ) (f : Forest ℕ) → IsSelection d cs f → (k : ℕ) × (slice_get ([] ∷ []) k ≡ Some cs)
  found [] f s = (0, refl)
  found (c ∷ cs) f s = absurd (none-some f (sym (ap (λ o. option_and_then (λ x. after x cs) (option_and_then (λ es. slice_get es c) o)) e) ∙ s.leads))

  order : (j k : ℕ) (as' bs : List ℕ) → slice_get ([] ∷ []) j ≡ Some as' → slice_get ([] ∷ []) k ≡ Some bs → j < k → IsEarlierSelection as' bs
  order j zero as' bs a b less = absurd (omega (arith, less))
  order j (suc k) as' bs a b less = absurd (cc)
listed_by d (Some es) e h = by (branches 0 es h) where
  by : AreBranches 0 es → ListsSelections d
  by b = record {
    all = b.all;
    many = b.many ∙ sym (subst (IfAny (count d ≡ 1) (λ es. count d ≡ total es)) e (counts d));
    sound = λ k cs at.
        let (i, ds, x, f, is, there, s) = b.sound k cs at in
        let z : 0 + i ≡ i = omega arith in
        let step : option_and_then (λ es. slice_get es (0 + i)) (choices d) ≡ Some x = ap (λ o. option_and_then (λ es. slice_get es (0 + i)) o) e ∙ (ap (slice_get es) z ∙ there) in
        let leads : after d ((0 + i) ∷ ds) ≡ Some f = ap (λ o. option_and_then (λ y. after y ds) o) step ∙ s.leads in
        (f, subst (λ xs. IsSelection d xs f) (sym is) (record { leads = leads; whole = s.whole }));
    found = found b;
    order = b.order;
  } where
    found : AreBranches 0 es → (cs : List ℕ) (f : Forest ℕ) → IsSelection d cs f → (k : ℕ) × (slice_get b.all k ≡ Some cs)
    found _ [] f s = absurd (none-some es (sym (ap choices (same_Some d f s.leads) ∙ s.whole) ∙ e))
    found _ (c ∷ cs) f s = option_and_then_some (λ x. after x cs) (option_and_then (λ es. slice_get es c) (choices d)) f s.leads
        (λ x one on.
        let there : slice_get es c ≡ Some x = ap (λ o. option_and_then (λ es. slice_get es c) o) (sym e) ∙ one in
        let (k, at) = b.found c cs x f there (record { leads = on; whole = s.whole }) in
        let z : 0 + c ≡ c = omega arith in (k, at ∙ ap (λ y. Some (y ∷ cs)) z))

all_listed : (bound : ℕ) (d : Forest ℕ) → ((e : Forest ℕ) → groups e < bound → ListsSelections e) → groups d ≤ bound → (o : Option (List (Forest ℕ))) → IfAny (Unit {0}) (AllByRecursion (Fewer d)) o → IfAny (Unit {0}) (AllByRecursion ListsSelections) o
all_listed bound d ih small None h = tt
all_listed bound d ih small (Some es) h = all_weaker (Fewer d) ListsSelections es (λ e p. ih e (omega (arith, p, small))) h

listed_within : (bound : ℕ) (d : Forest ℕ) → groups d < bound → ListsSelections d
listed_within zero d small = absurd (omega (arith, small))
listed_within (suc bound) d small = listed_by d (choices d) refl (all_listed bound d (λ e p. listed_within bound e p) (omega (arith, small)) (choices d) (fewer d))

pub listed : (d : Forest ℕ) → ListsSelections d
listed d = listed_within (suc (groups d)) d (omega arith)
