-- What a choice for the first group makes of a forest and of its groups.
use Rattle.std.proofs.Common.{◌≡◌, ◌≤◌, ℕ, zero, suc, ◌++◌, true, false, List, [], ◌∷◌, Option, Some, None, slice_get, refl, sym, ◌∙◌, ap, subst, arith}
use Rattle.std.specs.Prelude.{map, option_and_then, IsSomeAnd}
use Rattle.std.specs.Option.{option_or}
use Rattle.std.proofs.lemmas.List.{append_assoc}
use Rattle.std.proofs.lemmas.Option.{same_Some}
use Rattle.sysmem_tree.specs.declared.layout.LayoutPlace.{LayoutPlace}
use Rattle.sysmem_tree.specs.Forest.{Forest, Empty, Plain, Group, each, kids_else_rest, choices, settled}
use Rattle.sysmem_tree.specs.Layout.{Spot, start, first_place, AreLaid}
use Rattle.sysmem_tree.specs.Prefix.{Alternatives, next_alternatives, AreOpen}
use Rattle.sysmem_tree.proofs.layouts.Layouts.{or_assoc, starts_before}

get_map : {X Y : Type 0} (f : X → Y) (xs : List X) (k : ℕ) (y : Y) → slice_get (map f xs) k ≡ Some y → (x : X) × (slice_get xs k ≡ Some x) × (f x ≡ y)
get_map f [] k y e = absurd (cc)
get_map f (x ∷ xs) zero y e = (x, refl, same_Some (f x) y e)
get_map f (x ∷ xs) (suc k) y e = get_map f xs k y e

-- the forest by the choice c for the first group
abbrev pub chosen : {A : Type 0} → Forest A → ℕ → Option (Forest A)
chosen d c = option_and_then (λ es. slice_get es c) (choices d)

-- where a tree stands that is alone
abbrev pub place_of : Forest Spot → ℕ
place_of d = start d 0

module _ (ps : List LayoutPlace) where
  -- what is laid out is open
  pub all_open : (w : Forest Spot) (to : ℕ) (next : Option ℕ) → AreLaid false ps w to next → to ≤ 128 → AreOpen ps w next
  all_open Empty to next l small = tt
  all_open (Plain s kids rest) to next l small =
      let b = starts_before false ps rest to next l.2 in
      (all_open kids (start rest to) (option_or (first_place rest) next) l.1 (omega (arith, b, small)), all_open rest to next l.2 small)
  all_open (Group s kids rest) to next l small =
      let b = starts_before false ps rest to next l.2 in
      ((start rest to, omega (arith, b, small), l.0, l.1), all_open rest to next l.2 small)

  -- the entry of an alternative says which group is next once it is chosen
  abbrev GoesOn : Forest Spot → Forest Spot → Option ℕ → Type 0
  GoesOn kid e next = IsSomeAnd (slice_get ps (place_of kid)) (λ (p : LayoutPlace). p.next ≡ option_or (first_place e) next)

  goes_on : (i : ℕ) (p : LayoutPlace) (n : Option ℕ) → slice_get ps i ≡ Some p → p.next ≡ n → IsSomeAnd (slice_get ps i) (λ (p : LayoutPlace). p.next ≡ n)
  goes_on i p n here is = subst (λ o. IsSomeAnd o (λ (p : LayoutPlace). p.next ≡ n)) (sym here) is

  alternative : (kids : Forest Spot) (to : ℕ) (next : Option ℕ) → AreLaid true ps kids to next → to ≤ 128 → (c : ℕ) (kid : Forest Spot) → slice_get (each kids) c ≡ Some kid
      → AreOpen ps kid next × GoesOn kid kid next
  alternative Empty to next l small c kid at = absurd (cc)
  alternative (Plain s kk ks) to next l small zero kid at =
      let b = starts_before true ps ks to next l.2 in
      let open' : AreOpen ps (Plain s kk Empty) next = (all_open kk (start ks to) next l.1 (omega (arith, b, small)), tt) in
      let on : GoesOn (Plain s kk Empty) (Plain s kk Empty) next = goes_on s.place _ _ l.0.here (sym (or_assoc (first_place kk) None next)) in
      subst (λ x. AreOpen ps x next × GoesOn x x next) (same_Some (Plain s kk Empty) kid at) (open', on)
  alternative (Group s kk ks) to next l small zero kid at =
      let b = starts_before true ps ks to next l.2 in
      let open' : AreOpen ps (Group s kk Empty) next = ((start ks to, omega (arith, b, small), record { here = l.0.here; kids_here = l.0.kids_here }, l.1), tt) in
      let on : GoesOn (Group s kk Empty) (Group s kk Empty) next = goes_on s.place _ _ l.0.here refl in
      subst (λ x. AreOpen ps x next × GoesOn x x next) (same_Some (Group s kk Empty) kid at) (open', on)
  alternative (Plain s kk ks) to next l small (suc c) kid at = alternative ks to next l.2 small c kid at
  alternative (Group s kk ks) to next l small (suc c) kid at = alternative ks to next l.2 small c kid at

  -- the choice c for the first group of d, which leads to e
  pub record Steps (d : Forest Spot) (next : Option ℕ) (c : ℕ) (e : Forest Spot) : Type 0 where
    pub first : Alternatives Spot
    pub is_first : next_alternatives d ≡ Some first
    pub kid : Forest Spot
    pub is_kid : slice_get (each first.kids) c ≡ Some kid
    pub open_after : AreOpen ps e next
    pub goes_on_after : GoesOn kid e next
    pub front : List Spot
    pub back : List Spot
    pub settled_before : settled d ≡ front ++ back
    pub settled_after : settled e ≡ front ++ (settled kid ++ back)

  abbrev pub NoneLeft : Forest Spot → Type 0
  NoneLeft d = (next_alternatives d ≡ None) × (first_place d ≡ None)

  none_both : (s : Spot) (kids rest : Forest Spot) → NoneLeft kids → NoneLeft rest → NoneLeft (Plain s kids rest)
  none_both s kids rest k r = (ap (λ o. option_or o (next_alternatives rest)) k.0 ∙ r.0, ap (λ o. option_or o (first_place rest)) k.1 ∙ r.1)

  -- where there is no choice, no group is left
  none_in : (s : Spot) (kids rest : Forest Spot) (ks rs : Option (List (Forest Spot))) → (ks ≡ None → NoneLeft kids) → (rs ≡ None → NoneLeft rest)
      → kids_else_rest (λ k. Plain s k rest) (λ r. Plain s kids r) ks rs ≡ None → NoneLeft (Plain s kids rest)
  none_in s kids rest (Some ks) rs f g h = absurd (cc)
  none_in s kids rest None (Some rs) f g h = absurd (cc)
  none_in s kids rest None None f g h = none_both s kids rest (f refl) (g refl)

  pub none_left : (d : Forest Spot) → choices d ≡ None → NoneLeft d
  none_left Empty e = (refl, refl)
  none_left (Plain s kids rest) e = none_in s kids rest (choices kids) (choices rest) (none_left kids) (none_left rest) e
  none_left (Group s kids rest) e = absurd (cc)

  -- among a node's children
  steps_below : (s : Spot) (kids rest : Forest Spot) (next : Option ℕ) (c : ℕ) (k : Forest Spot) → AreOpen ps rest next
      → Steps kids (option_or (first_place rest) next) c k → Steps (Plain s kids rest) next c (Plain s k rest)
  steps_below s kids rest next c k open' st = record {
    first = st.first;
    is_first = ap (λ o. option_or o (next_alternatives rest)) st.is_first;
    kid = st.kid;
    is_kid = st.is_kid;
    open_after = (st.open_after, open');
    goes_on_after = subst (λ n. IsSomeAnd (slice_get ps (place_of st.kid)) (λ (p : LayoutPlace). p.next ≡ n)) (sym (or_assoc (first_place k) (first_place rest) next)) st.goes_on_after;
    front = s ∷ st.front;
    back = st.back ++ settled rest;
    settled_before = ap (λ x. s ∷ (x ++ settled rest)) st.settled_before ∙ ap (λ x. s ∷ x) (append_assoc st.front st.back (settled rest));
    settled_after = ap (λ x. s ∷ (x ++ settled rest)) st.settled_after
        ∙ (ap (λ x. s ∷ x) (append_assoc st.front (settled st.kid ++ st.back) (settled rest))
        ∙ ap (λ x. s ∷ (st.front ++ x)) (append_assoc (settled st.kid) st.back (settled rest)));
  }

  -- behind a node without groups below it
  steps_behind : (s : Spot) (kids rest : Forest Spot) (next : Option ℕ) (c : ℕ) (r : Forest Spot) → NoneLeft kids → AreOpen ps kids (option_or (first_place rest) next)
      → AreOpen ps kids (option_or (first_place r) next) → Steps rest next c r → Steps (Plain s kids rest) next c (Plain s kids r)
  steps_behind s kids rest next c r none open' open_now st = record {
    first = st.first;
    is_first = ap (λ o. option_or o (next_alternatives rest)) none.0 ∙ st.is_first;
    kid = st.kid;
    is_kid = st.is_kid;
    open_after = (open_now, st.open_after);
    goes_on_after = subst (λ n. IsSomeAnd (slice_get ps (place_of st.kid)) (λ (p : LayoutPlace). p.next ≡ n)) (sym (ap (λ o. option_or (option_or o (first_place r)) next) none.1)) st.goes_on_after;
    front = s ∷ (settled kids ++ st.front);
    back = st.back;
    settled_before = ap (λ x. s ∷ (settled kids ++ x)) st.settled_before ∙ ap (λ x. s ∷ x) (sym (append_assoc (settled kids) st.front st.back));
    settled_after = ap (λ x. s ∷ (settled kids ++ x)) st.settled_after ∙ ap (λ x. s ∷ x) (sym (append_assoc (settled kids) st.front (settled st.kid ++ st.back)));
  }

  -- where no group is left, what is open doesn't depend on what comes behind
  open_anyway : (d : Forest Spot) (n m : Option ℕ) → choices d ≡ None → AreOpen ps d n → AreOpen ps d m
  open_anyway Empty n m e o = tt
  open_anyway (Plain s kids rest) n m e o = by (choices kids) (choices rest) (open_anyway kids (option_or (first_place rest) n) (option_or (first_place rest) m)) (open_anyway rest n m) e where
    by : (ks rs : Option (List (Forest Spot))) → (ks ≡ None → AreOpen ps kids (option_or (first_place rest) n) → AreOpen ps kids (option_or (first_place rest) m))
        → (rs ≡ None → AreOpen ps rest n → AreOpen ps rest m) → kids_else_rest (λ k. Plain s k rest) (λ r. Plain s kids r) ks rs ≡ None → AreOpen ps (Plain s kids rest) m
    by (Some ks) rs f g h = absurd (cc)
    by None (Some rs) f g h = absurd (cc)
    by None None f g h = (f refl o.0, g refl o.1)
  open_anyway (Group s kids rest) n m e o = absurd (cc)

  steps_group : (s : Spot) (kids rest : Forest Spot) (next : Option ℕ) (c : ℕ) (e : Forest Spot) → AreOpen ps (Group s kids rest) next
      → slice_get (map (λ kid. Plain s kid rest) (each kids)) c ≡ Some e → Steps (Group s kids rest) next c e
  steps_group s kids rest next c e o at =
      let (kid, there, is) = get_map (λ kid. Plain s kid rest) (each kids) c e at in
      let (to, small, here, laid) = o.0 in
      let (open', on) = alternative kids to (option_or (first_place rest) next) laid small c kid there in
      subst (Steps (Group s kids rest) next c) is (record {
        first = record { group = s; kids = kids };
        is_first = refl;
        kid = kid;
        is_kid = there;
        open_after = (open', o.1);
        goes_on_after = subst (λ n. IsSomeAnd (slice_get ps (place_of kid)) (λ (p : LayoutPlace). p.next ≡ n)) (sym (or_assoc (first_place kid) (first_place rest) next)) on;
        front = s ∷ [];
        back = settled rest;
        settled_before = refl;
        settled_after = refl;
      })

  steps_in : (s : Spot) (kids rest : Forest Spot) (next : Option ℕ) (c : ℕ) (e : Forest Spot) (ks rs : Option (List (Forest Spot))) → choices kids ≡ ks → choices rest ≡ rs
      → AreOpen ps (Plain s kids rest) next
      → ((k : Forest Spot) → chosen kids c ≡ Some k → Steps kids (option_or (first_place rest) next) c k) → ((r : Forest Spot) → chosen rest c ≡ Some r → Steps rest next c r)
      → option_and_then (λ es. slice_get es c) (kids_else_rest (λ k. Plain s k rest) (λ r. Plain s kids r) ks rs) ≡ Some e → Steps (Plain s kids rest) next c e
  steps_in s kids rest next c e (Some ks) rs e1 e2 o f g at =
      let (k, there, is) = get_map (λ k. Plain s k rest) ks c e at in
      subst (Steps (Plain s kids rest) next c) is (steps_below s kids rest next c k o.1 (f k (ap (λ o. option_and_then (λ es. slice_get es c) o) e1 ∙ there)))
  steps_in s kids rest next c e None (Some rs) e1 e2 o f g at =
      let (r, there, is) = get_map (λ r. Plain s kids r) rs c e at in
      subst (Steps (Plain s kids rest) next c) is (steps_behind s kids rest next c r (none_left kids e1) o.0 (open_anyway kids _ (option_or (first_place r) next) e1 o.0)
      (g r (ap (λ o. option_and_then (λ es. slice_get es c) o) e2 ∙ there)))
  steps_in s kids rest next c e None None e1 e2 o f g at = absurd (cc)

  -- what each choice does
  pub steps : (d : Forest Spot) (next : Option ℕ) (c : ℕ) (e : Forest Spot) → AreOpen ps d next → chosen d c ≡ Some e → Steps d next c e
  steps Empty next c e o at = absurd (cc)
  steps (Plain s kids rest) next c e o at = steps_in s kids rest next c e (choices kids) (choices rest) refl refl o
      (λ k h. steps kids (option_or (first_place rest) next) c k o.0 h) (λ r h. steps rest next c r o.1 h) at
  steps (Group s kids rest) next c e o at = steps_group s kids rest next c e o at
