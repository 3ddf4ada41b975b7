-- What is left of a certificate, from one item to the next.
use Rattle.std.proofs.Common.{◌≡◌, ◌<◌, ◌≤◌, ℕ, zero, suc, ◌+◌, List, [], ◌∷◌, ◌++◌, Option, Some, None, length, drop, take, get_or, slice_get, refl, sym, ◌∙◌, ap, subst, arith, inl, inr}
use Rattle.std.specs.Prelude.{IsErrAnd, IsSomeAnd, MatchOption, MatchResult, Result, Ok, Err, option_map}
use Rattle.std.proofs.lemmas.List.{drop_more}
use Rattle.std.proofs.lemmas.Option.{same_Some}
use Rattle.negotiation_inputs.specs.Platform.{PlatformFacts}
use Rattle.sysmem_tree.specs.Forest.{Forest, choices}
use Rattle.sysmem_tree.specs.Shape.{Member}
use Rattle.verdict_claims.specs.declared.conflict.Conflict.{Conflict}
use Rattle.verdict_claims.specs.declared.no.No.{No}
use Rattle.verdict_claims.specs.declared.no.No.TheVariants.{WrongShape, Missing}
use Rattle.verdict_claims.specs.declared.refutation.Item.{Item}
use Rattle.verdict_claims.specs.declared.refutation.Item.TheVariants.{Split, Leaf}
use Rattle.verdict_claims.specs.Base.{Terms}
use Rattle.verdict_claims.specs.Certificate.{Refutes, RefutesEarlier}
use Rattle.verdict_claims.specs.Conflict.{IsConflictFor}
use Rattle.verdict_claims.specs.Fault.{ConflictFaults, EarlierFaults, Fails, Faults, First, RefutationFaults, no_list}
use Rattle.sysmem_proof.proofs.Ways.{at_place}
use Rattle.sysmem_proof.specs.Walk.{IsLeft, AreLeft, RefuteBefore, FaultsBefore}

pub left_all : (P : Type 0) (f : Faults) → IsLeft P P f f
left_all P f = record { holds = λ p. p; fails = λ why g. g }

pub left_on : {P Q R : Type 0} {f g h : Faults} → IsLeft P Q f g → IsLeft Q R g h → IsLeft P R f h
left_on a b = record { holds = λ r. a.holds (b.holds r); fails = λ why x. a.fails why (b.fails why x) }

-- what is told of an error that is passed on
pub of_err : {T E : Type 0} {S : E → Type 0} (r : Result T E) (P : T → Type 0) (Q : E → Type 0) (e : E) → IsErrAnd r S → ((y : E) → S y → y ≡ e) → Q e → MatchResult r P Q
of_err (Ok x) P Q e h same q = absurd h
of_err (Err y) P Q e h same q = subst Q (sym (same y h)) q

-- parts of lists
pub front_item : {X : Type 0} (xs : List X) (k : ℕ) (x : X) → k < length xs → x ≡ get_or xs k x → drop k xs ≡ x ∷ drop (k + 1) xs
front_item xs k x less is = drop_more xs k x less ∙ ap (λ y. y ∷ drop (k + 1) xs) (sym is)

pub front_at : {X : Type 0} (xs : List X) (k n : ℕ) (x y : X) → n ≡ k → n < length xs → x ≡ get_or xs n x → y ≡ x → drop k xs ≡ y ∷ drop (k + 1) xs
front_at xs k n x y one less is two = subst (λ j. drop j xs ≡ y ∷ drop (j + 1) xs) one (front_item xs n x less is ∙ ap (λ z. z ∷ drop (n + 1) xs) (sym two))

pub drop_over : {X : Type 0} (xs : List X) (k : ℕ) → length xs ≤ k → drop k xs ≡ []
drop_over [] zero over = refl
drop_over [] (suc k) over = refl
drop_over (x ∷ xs) zero over = absurd (omega (arith, over))
drop_over (x ∷ xs) (suc k) over = drop_over xs k (omega (arith, over))

pub drop_there : {X : Type 0} (xs : List X) (k : ℕ) (x : X) → slice_get xs k ≡ Some x → drop k xs ≡ x ∷ drop (k + 1) xs
drop_there [] k x here = absurd (cc)
drop_there (y ∷ xs) zero x here = ap (λ z. z ∷ xs) (same_Some y x here)
drop_there (y ∷ xs) (suc k) x here = let more : suc (k + 1) ≡ suc k + 1 = omega arith in drop_there xs k x here ∙ ap (λ n. x ∷ drop n (y ∷ xs)) more

pub some_front : {X : Type 0} (xs : List X) (k : ℕ) → k < length xs → (x : X) × (drop k xs ≡ x ∷ drop (k + 1) xs)
some_front xs k less = let (x, here) = at_place xs k less in (x, drop_there xs k x here)

pub within_take : {X : Type 0} (xs : List X) (c k : ℕ) → k < c → slice_get (take c xs) k ≡ slice_get xs k
within_take [] zero k less = refl
within_take [] (suc c) k less = refl
within_take (x ∷ xs) zero k less = absurd (omega (arith, less))
within_take (x ∷ xs) (suc c) zero less = refl
within_take (x ∷ xs) (suc c) (suc k) less = within_take xs c k (omega (arith, less))

pub none_behind : {X : Type 0} (xs : List X) (c : ℕ) → drop c (take c xs) ≡ []
none_behind [] zero = refl
none_behind [] (suc c) = refl
none_behind (x ∷ xs) zero = refl
none_behind (x ∷ xs) (suc c) = none_behind xs c

module _ (platform : PlatformFacts) (terms : Option Terms) where
  abbrev L : Forest Member → Conflict → Type 0
  L = IsConflictFor platform terms

  -- of a conflict the others are left
  pub leaf_left : (c : Conflict) (items : List Item) (d : Forest Member) (ds : List (Forest Member)) → L d c → AreLeft platform terms (Leaf c ∷ items) (d ∷ ds) items ds
  leaf_left c items d ds is = record { holds = λ r. (is, r); fails = λ why f. inr (is, f) }

  -- of a split, the choices
  pub split_left : (n : ℕ) (items : List Item) (d : Forest Member) (ds es : List (Forest Member)) → choices d ≡ Some es → length es ≡ n
      → AreLeft platform terms (Split n ∷ items) (d ∷ ds) items (es ++ ds)
  split_left n items d ds es open' long = record {
    holds = λ r. subst (λ o. IsSomeAnd o (λ es. (length es ≡ n) × Refutes L items (es ++ ds))) (sym open') (long, r);
    fails = λ why f. subst (λ o. MatchOption o (why ≡ WrongShape) (λ es. First (length es ≡ n) (Fails (length es ≡ n) WrongShape) (RefutationFaults platform terms items (es ++ ds)) why))
        (sym open') (inr (long, f));
  }

  -- a split of another number of children
  pub split_fails : (n : ℕ) (items : List Item) (d : Forest Member) (ds : List (Forest Member)) (why : No)
      → MatchOption (choices d) (why ≡ WrongShape) (λ es. Fails (length es ≡ n) WrongShape why) → RefutationFaults platform terms (Split n ∷ items) (d ∷ ds) why
  split_fails n items d ds why h = by (choices d) h where
    by : (o : Option (List (Forest Member))) → MatchOption o (why ≡ WrongShape) (λ es. Fails (length es ≡ n) WrongShape why)
        → MatchOption o (why ≡ WrongShape) (λ es. First (length es ≡ n) (Fails (length es ≡ n) WrongShape) (RefutationFaults platform terms items (es ++ ds)) why)
    by None h = h
    by (Some es) h = inl h

  -- where items from one on are to refute a forest and others
  module _ (items : List Item) (k : ℕ) (item : Item) (less : k < length items) (is : item ≡ get_or items k item) where
    front : drop k items ≡ item ∷ drop (k + 1) items
    front = front_item items k item less is

    pub leaf_read : (c : Conflict) (d : Forest Member) (ds : List (Forest Member)) → item ≡ Leaf c → L d c → AreLeft platform terms (drop k items) (d ∷ ds) (drop (k + 1) items) ds
    leaf_read c d ds leaf conflict = subst (λ xs. AreLeft platform terms xs (d ∷ ds) (drop (k + 1) items) ds) (sym (front ∙ ap (λ x. x ∷ drop (k + 1) items) leaf)) (leaf_left c (drop (k + 1) items) d ds conflict)

    pub leaf_fails : (c : Conflict) (d : Forest Member) (ds : List (Forest Member)) (why : No) → item ≡ Leaf c → ConflictFaults platform terms d c why → RefutationFaults platform terms (drop k items) (d ∷ ds) why
    leaf_fails c d ds why leaf f = subst (λ xs. RefutationFaults platform terms xs (d ∷ ds) why) (sym (front ∙ ap (λ x. x ∷ drop (k + 1) items) leaf)) (inl f)

    pub split_read : (n : ℕ) (d : Forest Member) (ds es : List (Forest Member)) → item ≡ Split n → choices d ≡ Some es → length es ≡ n
        → AreLeft platform terms (drop k items) (d ∷ ds) (drop (k + 1) items) (es ++ ds)
    split_read n d ds es split open' long = subst (λ xs. AreLeft platform terms xs (d ∷ ds) (drop (k + 1) items) (es ++ ds)) (sym (front ∙ ap (λ x. x ∷ drop (k + 1) items) split))
        (split_left n (drop (k + 1) items) d ds es open' long)

    pub split_refused : (n : ℕ) (d : Forest Member) (ds : List (Forest Member)) (why : No) → item ≡ Split n
        → MatchOption (choices d) (why ≡ WrongShape) (λ es. Fails (length es ≡ n) WrongShape why) → RefutationFaults platform terms (drop k items) (d ∷ ds) why
    split_refused n d ds why split f = subst (λ xs. RefutationFaults platform terms xs (d ∷ ds) why) (sym (front ∙ ap (λ x. x ∷ drop (k + 1) items) split)) (split_fails n (drop (k + 1) items) d ds why f)

  -- no item is left for a forest
  pub none_read : (items : List Item) (k : ℕ) (d : Forest Member) (ds : List (Forest Member)) → length items ≤ k → RefutationFaults platform terms (drop k items) (d ∷ ds) Missing
  none_read items k d ds over = subst (λ xs. RefutationFaults platform terms xs (d ∷ ds) Missing) (sym (drop_over items k over)) refl

  -- all items are read, or some are left
  pub all_read : (items : List Item) (k : ℕ) (d : Forest Member) → length items ≤ k → AreLeft platform terms items (d ∷ []) (drop k items) [] → Refutes L items (d ∷ [])
  all_read items k d over left = left.holds (subst (λ xs. Refutes L xs []) (sym (drop_over items k over)) tt)

  pub some_left : (items : List Item) (k : ℕ) (d : Forest Member) → k < length items → AreLeft platform terms items (d ∷ []) (drop k items) [] → RefutationFaults platform terms items (d ∷ []) WrongShape
  some_left items k d less left = left.fails WrongShape (by (drop k items) refl) where
    some : {X : Type 0} (xs : List X) (k : ℕ) → k < length xs → drop k xs ≡ [] → ⊥
    some [] k less is = omega (arith, less)
    some (x ∷ xs) zero less is = absurd (cc)
    some (x ∷ xs) (suc k) less is = some xs k (omega (arith, less)) is

    by : (xs : List Item) → drop k items ≡ xs → RefutationFaults platform terms xs [] WrongShape
    by [] is = absurd (some items k less is)
    by (Split n ∷ xs) is = refl
    by (Leaf c ∷ xs) is = refl

  -- what is read of a choice and of those behind it
  abbrev pub ReadTo : List Item → ℕ → ℕ → ℕ → Forest Member → Type 0
  ReadTo items start at k d = (es ds : List (Forest Member)) → choices d ≡ Some es → AreLeft platform terms (drop start items) (d ∷ ds) (drop at items) (drop k es ++ ds)

  pub child_read : (items : List Item) (start at end k : ℕ) (d e : Forest Member) → ReadTo items start at k d → ((es : List (Forest Member)) → choices d ≡ Some es → slice_get es k ≡ Some e)
      → ((ds : List (Forest Member)) → AreLeft platform terms (drop at items) (e ∷ ds) (drop end items) ds) → ReadTo items start end (k + 1) d
  child_read items start at end k d e read here told es ds open' =
      left_on (subst (λ xs. AreLeft platform terms (drop start items) (d ∷ ds) (drop at items) (xs ++ ds)) (drop_there es k e (here es open')) (read es ds open')) (told (drop (k + 1) es ++ ds))

  pub child_fails : (items : List Item) (start at k : ℕ) (d e : Forest Member) (why : No) → ReadTo items start at k d → ((es : List (Forest Member)) → choices d ≡ Some es → slice_get es k ≡ Some e)
      → ((ds : List (Forest Member)) → RefutationFaults platform terms (drop at items) (e ∷ ds) why) → (es ds : List (Forest Member)) → choices d ≡ Some es
      → RefutationFaults platform terms (drop start items) (d ∷ ds) why
  child_fails items start at k d e why read here told es ds open' =
      (subst (λ xs. AreLeft platform terms (drop start items) (d ∷ ds) (drop at items) (xs ++ ds)) (drop_there es k e (here es open')) (read es ds open')).fails why (told (drop (k + 1) es ++ ds))

  pub children_read : (items : List Item) (start at k : ℕ) (d : Forest Member) (es ds : List (Forest Member)) → ReadTo items start at k d → choices d ≡ Some es → length es ≤ k
      → AreLeft platform terms (drop start items) (d ∷ ds) (drop at items) ds
  children_read items start at k d es ds read open' over =
      subst (λ xs. AreLeft platform terms (drop start items) (d ∷ ds) (drop at items) (xs ++ ds)) (drop_over es k over) (read es ds open')

  pub every_child : (items : List Item) (start at k n : ℕ) (d : Forest Member) → ReadTo items start at k d → option_map length (choices d) ≡ Some n → n ≤ k → (ds : List (Forest Member))
      → AreLeft platform terms (drop start items) (d ∷ ds) (drop at items) ds
  every_child items start at k n d read many over ds = by (choices d) refl many where
    by : (o : Option (List (Forest Member))) → choices d ≡ o → option_map length o ≡ Some n → AreLeft platform terms (drop start items) (d ∷ ds) (drop at items) ds
    by None open' is = absurd (cc)
    by (Some es) open' is = let long : length es ≡ n = same_Some (length es) n is in children_read items start at k d es ds read open' (omega (arith, long, over))

  -- refutations of choices, from one on
  abbrev pub BeforeTo : ℕ → List (Forest Member) → List (List Item) → Type 0
  BeforeTo k es rs = IsLeft (RefuteBefore platform terms es rs) (RefuteBefore platform terms (drop k es) (drop k rs)) (FaultsBefore platform terms es rs)
      (FaultsBefore platform terms (drop k es) (drop k rs))

  module _ (k : ℕ) (es : List (Forest Member)) (rs : List (List Item)) (left : BeforeTo k es rs) where
    with_front : (xs : List (Forest Member)) (ys : List (List Item)) → drop k es ≡ xs → drop k rs ≡ ys
        → IsLeft (RefuteBefore platform terms es rs) (RefuteBefore platform terms xs ys) (FaultsBefore platform terms es rs) (FaultsBefore platform terms xs ys)
    with_front xs ys one two =
        subst (λ vs. IsLeft (RefuteBefore platform terms es rs) (RefuteBefore platform terms xs vs) (FaultsBefore platform terms es rs) (FaultsBefore platform terms xs vs)) two
        (subst (λ us. IsLeft (RefuteBefore platform terms es rs) (RefuteBefore platform terms us (drop k rs)) (FaultsBefore platform terms es rs) (FaultsBefore platform terms us (drop k rs))) one left)

    module _ (e : Forest Member) (here : slice_get es k ≡ Some e) where
      pub one_before : (items : List Item) → drop k rs ≡ items ∷ drop (k + 1) rs → Refutes L items (e ∷ []) → BeforeTo (k + 1) es rs
      one_before items is refuted =
          left_on (with_front (e ∷ drop (k + 1) es) (items ∷ drop (k + 1) rs) (drop_there es k e here) is) (record { holds = λ r. (refuted, r); fails = λ why f. inr (refuted, f) })

      pub one_fails : (items : List Item) (why : No) → drop k rs ≡ items ∷ drop (k + 1) rs → RefutationFaults platform terms items (e ∷ []) why → FaultsBefore platform terms es rs why
      one_fails items why is f = (with_front (e ∷ drop (k + 1) es) (items ∷ drop (k + 1) rs) (drop_there es k e here) is).fails why (inl f)

      pub one_missing : length rs ≤ k → FaultsBefore platform terms es rs Missing
      one_missing over = (with_front (e ∷ drop (k + 1) es) [] (drop_there es k e here) (drop_over rs k over)).fails Missing refl

    module _ (all : drop k es ≡ []) where
      pub all_before : length rs ≤ k → RefuteBefore platform terms es rs
      all_before over = (with_front [] [] all (drop_over rs k over)).holds tt

      pub too_many : (items : List Item) → drop k rs ≡ items ∷ drop (k + 1) rs → FaultsBefore platform terms es rs WrongShape
      too_many items is = (with_front [] (items ∷ drop (k + 1) rs) all is).fails WrongShape refl

  -- what is earlier, from one group on
  abbrev pub EarlierTo : Forest Member → List ℕ → List (List (List Item)) → ℕ → Forest Member → Type 0
  EarlierTo d sel rss k e =
      IsLeft (RefutesEarlier L d sel rss) (RefutesEarlier L e (drop k sel) (drop k rss)) (EarlierFaults platform terms d sel rss) (EarlierFaults platform terms e (drop k sel) (drop k rss))

  module _ (d e : Forest Member) (sel : List ℕ) (rss : List (List (List Item))) (k : ℕ) (left : EarlierTo d sel rss k e) where
    abbrev From : List ℕ → List (List (List Item)) → Type 0
    From cs qs = IsLeft (RefutesEarlier L d sel rss) (RefutesEarlier L e cs qs) (EarlierFaults platform terms d sel rss) (EarlierFaults platform terms e cs qs)

    from_front : (cs : List ℕ) (qs : List (List (List Item))) → drop k sel ≡ cs → drop k rss ≡ qs → From cs qs
    from_front cs qs one two = subst (λ vs. From cs vs) two (subst (λ us. From us (drop k rss)) one left)

    module _ (c : ℕ) (at : drop k sel ≡ c ∷ drop (k + 1) sel) where
      pub no_group : length rss ≤ k → EarlierFaults platform terms d sel rss (no_list c)
      no_group over = (from_front (c ∷ drop (k + 1) sel) [] at (drop_over rss k over)).fails (no_list c) refl

      module _ (rs : List (List Item)) (is : drop k rss ≡ rs ∷ drop (k + 1) rss) (es : List (Forest Member)) (open' : choices e ≡ Some es) where
        abbrev Here : Type 0
        Here = RefuteBefore platform terms (take c es) rs

        pub group_fails : (why : No) → FaultsBefore platform terms (take c es) rs why → EarlierFaults platform terms d sel rss why
        group_fails why f = (from_front (c ∷ drop (k + 1) sel) (rs ∷ drop (k + 1) rss) at is).fails why
            (subst (λ o. MatchOption o ⊥ (λ es. First (RefuteBefore platform terms (take c es) rs) (FaultsBefore platform terms (take c es) rs)
            (λ why. MatchOption (slice_get es c) ⊥ (λ x. EarlierFaults platform terms x (drop (k + 1) sel) (drop (k + 1) rss) why)) why)) (sym open') (inl f))

        pub group_read : (x : Forest Member) → slice_get es c ≡ Some x → Here → EarlierTo d sel rss (k + 1) x
        group_read x here refuted = left_on (from_front (c ∷ drop (k + 1) sel) (rs ∷ drop (k + 1) rss) at is) (record {
          holds = λ r. subst (λ o. IsSomeAnd o (λ es. RefuteBefore platform terms (take c es) rs × IsSomeAnd (slice_get es c) (λ x. RefutesEarlier L x (drop (k + 1) sel) (drop (k + 1) rss)))) (sym open')
              (refuted, subst (λ o. IsSomeAnd o (λ x. RefutesEarlier L x (drop (k + 1) sel) (drop (k + 1) rss))) (sym here) r);
          fails = λ why f. subst (λ o. MatchOption o ⊥ (λ es. First (RefuteBefore platform terms (take c es) rs) (FaultsBefore platform terms (take c es) rs)
              (λ why. MatchOption (slice_get es c) ⊥ (λ x. EarlierFaults platform terms x (drop (k + 1) sel) (drop (k + 1) rss) why)) why)) (sym open')
              (inr (refuted, subst (λ o. MatchOption o ⊥ (λ x. EarlierFaults platform terms x (drop (k + 1) sel) (drop (k + 1) rss) why)) (sym here) f));
        })

    module _ (all : drop k sel ≡ []) where
      pub all_groups : length rss ≤ k → RefutesEarlier L d sel rss
      all_groups over = (from_front [] [] all (drop_over rss k over)).holds tt

      pub more_groups : (rs : List (List Item)) → drop k rss ≡ rs ∷ drop (k + 1) rss → EarlierFaults platform terms d sel rss WrongShape
      more_groups rs is = (from_front [] (rs ∷ drop (k + 1) rss) all is).fails WrongShape refl
