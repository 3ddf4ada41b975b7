-- What a search from a prefix on finds, by what it asked there.
use Rattle.std.proofs.Common.{◌≡◌, ◌<◌, ℕ, ◌+◌, Bool, true, false, List, [], ◌∷◌, ◌++◌, Option, Some, None, length, min, slice_get, refl, sym, ◌∙◌, ap, subst, arith, length-append, zero, suc, is_some}
use Rattle.std.specs.Prelude.{◌↔◌, ◌≤◌, IsTrue, IfSome, IsSome, IsSomeAnd, MatchOption, option_map, option_and_then}
use Rattle.std.proofs.lemmas.Option.{same_Some, none-some, option_and_then_some}
use Rattle.std.proofs.lemmas.List.{append-nil}
use Rattle.sysmem_merge.specs.declared.settings.Settings.{Settings}
use Rattle.verdict_claims.specs.Laws.{CutsLoseNothing}
use Rattle.verdict_claims.proofs.CallerLemmas.{whole_unmet, chosen_here}
use Rattle.search_questions.specs.Live.{SomeMeet, choose, IsLive, IsLiveUpTo}
use Rattle.search_questions.specs.Question.{MeetsOf, MeetsSoFar, IsBestOf}
use Rattle.verdict_claims.specs.Matter.{Matter, forest, terms}
use Rattle.search_questions.specs.Standing.{Standing}
use Rattle.search_questions.specs.Searching.{NothingFound, FirstFound, IsFoundOf}
use Rattle.search_questions.proofs.Raising.{raised_once}
use Rattle.search_questions.proofs.Sofar.{Sofar, none_yet, one_more, all_gone, one_found}
use Rattle.sysmem_tree.specs.Forest.{Forest, choices, settled}
use Rattle.sysmem_tree.specs.Selection.{after, IsPrefix}
use Rattle.sysmem_tree.specs.Shape.{Member}
use Rattle.list_lemmas.proofs.CallerLemmas.{of_some}

pub none_many : {A : Type 0} (o : Option (List A)) → option_map length o ≡ None → o ≡ None
none_many None e = refl
none_many (Some xs) e = absurd (cc)

module _ (m : Matter) where
  -- where no group is left, no choices are all that is live
  only_none : (d : Forest Member) → choices d ≡ None → (q : List ℕ) → IsLive (MeetsSoFar m) d q → q ≡ []
  only_none d none [] live = refl
  only_none d none (c ∷ q) live = absurd (by (choose d c) (ap (option_and_then (λ xs. slice_get xs c)) none) live.1) where
    by : (o : Option (Forest Member)) → o ≡ None → IsSomeAnd o (λ e. IsLive (MeetsSoFar m) e q) → ⊥
    by None is h = h
    by (Some e) is h = none-some e (sym is)

  here : (d : Forest Member) (old : List ℕ) (from to : ℕ) (best : Option Settings) → choices d ≡ None → to ≡ min (from + 1) 18446744073709551615
      → MatchOption best ((t : Settings) → ¬ (MeetsOf m (settled d) t)) (IsBestOf m (settled d)) → IsFoundOf m d old old from to best
  here d old from to None none is h = record {
    same = refl;
    unmet = whole_unmet (MeetsOf m) d none h;
    visited = raised_once (IsLive (MeetsSoFar m) d) from to tt (only_none d none) is;
  }
  here d old from to (Some s) none is h = record {
    selection = [];
    goes_on = sym (append-nil old);
    chosen = chosen_here (MeetsOf m) (IsBestOf m) d s none h;
    visited = raised_once (IsLiveUpTo (MeetsSoFar m) d []) from to (record { live = tt; not_later = tt }) (λ q up. only_none d none q up.live) is;
  }

  -- at a whole selection
  pub found_here : (o : Option (Forest Member)) (old : List ℕ) (from to : ℕ) (best : Option Settings) → IfSome o (λ d. option_map length (choices d) ≡ None) → to ≡ min (from + 1) 18446744073709551615
      → IfSome o (λ d. MatchOption best ((t : Settings) → ¬ (MeetsOf m (settled d) t)) (IsBestOf m (settled d))) → IfSome o (λ d. IsFoundOf m d old old from to best)
  found_here None old from to best none is h = tt
  found_here (Some d) old from to best none is h = here d old from to best (none_many (choices d) none) is h

  -- where what is settled can't be met
  pub found_cut : (o : Option (Forest Member)) (old : List ℕ) (from to : ℕ) (met : Bool) → CutsLoseNothing → met ≡ false → to ≡ min (from + 1) 18446744073709551615
      → IfSome o (λ d. IsTrue met ↔ SomeMeet (MeetsSoFar m) d) → IfSome o (λ d. NothingFound (MeetsOf m) (MeetsSoFar m) d old old from to)
  found_cut None old from to met cuts no' is h = tt
  found_cut (Some d) old from to met cuts no' is h = record {
    same = refl;
    unmet = cuts m.platform (terms m) d (λ t meets. unmet (t, meets));
    visited = raised_once (IsLive (MeetsSoFar m) d) from to tt only is;
  } where
    unmet : SomeMeet (MeetsSoFar m) d → ⊥
    unmet met' = by met no' (h.1 met') where
      by : (b : Bool) → b ≡ false → IsTrue b → ⊥
      by true e t = absurd (cc)
      by false e t = absurd (cc)

    only : (q : List ℕ) → IsLive (MeetsSoFar m) d q → q ≡ []
    only [] live = refl
    only (c ∷ q) live = absurd (unmet live.0)

  -- the first choices for the first group were gone through
  abbrev pub GoneThrough : Forest Member → ℕ → ℕ → ℕ → Type 0
  GoneThrough d c from to = (es : List (Forest Member)) × (choices d ≡ Some es) × Sofar (MeetsOf m) (MeetsSoFar m) d es c from to

  -- nothing was gone through yet
  pub begun : (o : Option (Forest Member)) (n from to : ℕ) → IfSome o (λ d. option_map length (choices d) ≡ Some n) → to ≡ min (from + 1) 18446744073709551615
      → IfSome o (λ d. GoneThrough d 0 from to)
  begun None n from to many is = tt
  begun (Some d) n from to many is = by (choices d) refl many where
    by : (o : Option (List (Forest Member))) → choices d ≡ o → option_map length o ≡ Some n → GoneThrough d 0 from to
    by None is' e = absurd (cc)
    by (Some es) is' e = (es, is', none_yet (MeetsOf m) (IsBestOf m) (MeetsSoFar m) d es is' from to is)

if_some : {X : Type 0} (P : X → Type 0) (o : Option X) → ((x : X) → o ≡ Some x → P x) → IfSome o P
if_some P None h = tt
if_some P (Some x) h = h x refl

-- what was found, by whether anything was
pub some_best : (best : Option Settings) → is_some best ≡ true → (s : Settings) × (best ≡ Some s)
some_best None is = absurd (cc is)
some_best (Some s) is = (s, refl)

pub none_best : (best : Option Settings) → is_some best ≡ false → best ≡ None
none_best None is = refl
none_best (Some s) is = absurd (cc is)

-- a choice behind choices
pub after_push : (cs : List ℕ) (f d e : Forest Member) (es : List (Forest Member)) (c : ℕ) → after f cs ≡ Some d → choices d ≡ Some es → slice_get es c ≡ Some e → after f (cs ++ c ∷ []) ≡ Some e
after_push [] f d e es c leads open' here = ap (λ x. option_and_then (λ y. Some y) (choose x c)) (same_Some f d leads)
    ∙ (ap (λ o. option_and_then (λ y. Some y) (option_and_then (λ xs. slice_get xs c) o)) open' ∙ ap (option_and_then (λ y. Some y)) here)
after_push (x ∷ cs) f d e es c leads open' here = option_and_then_some (λ y. after y cs) (choose f x) d leads
    (λ y one on. ap (option_and_then (λ z. after z (cs ++ c ∷ []))) one ∙ after_push cs y d e es c on open' here)

at_place : {X : Type 0} (xs : List X) (c : ℕ) → c < length xs → (x : X) × (slice_get xs c ≡ Some x)
at_place [] c less = absurd (omega (arith, less))
at_place (x ∷ xs) zero less = (x, refl)
at_place (x ∷ xs) (suc c) less = at_place xs c (omega (arith, less))

-- where a search stands after one choice more than before
pub entered_at : (s t q : Standing) (c : ℕ) → s ≡ record { matter = t.matter; choices = t.choices ++ c ∷ [] } → t ≡ q → (s.matter ≡ q.matter) × (s.choices ≡ q.choices ++ c ∷ [])
entered_at s t q c entered same = (
  ap (λ (x : Standing). x.matter) entered ∙ ap (λ (x : Standing). x.matter) same,
  ap (λ (x : Standing). x.choices) entered ∙ ap (λ (x : Standing). x.choices ++ c ∷ []) same,
)

-- one choice more than a list
pub long_push : (old pushed : List ℕ) (c : ℕ) → pushed ≡ old ++ c ∷ [] → length pushed ≡ length old + 1
long_push old pushed c is = ap length is ∙ length-append old (c ∷ [])

-- the choices before the last
pub front_same : (xs ys : List ℕ) (x y : ℕ) → xs ++ x ∷ [] ≡ ys ++ y ∷ [] → xs ≡ ys
front_same [] [] x y e = refl
front_same [] (b ∷ ys) x y e = let long = ap length e in absurd (omega (arith, long, length-append ys (y ∷ [])))
front_same (a ∷ xs) [] x y e = let long = ap length e in absurd (omega (arith, long, length-append xs (x ∷ [])))
front_same (a ∷ xs) (b ∷ ys) x y e = rw (heads a b (xs ++ x ∷ []) (ys ++ y ∷ []) e, front_same xs ys x y (tails a b (xs ++ x ∷ []) (ys ++ y ∷ []) e)) refl where
  heads : (a b : ℕ) (us vs : List ℕ) → a ∷ us ≡ b ∷ vs → a ≡ b
  heads a b us vs e = cc

  tails : (a b : ℕ) (us vs : List ℕ) → a ∷ us ≡ b ∷ vs → us ≡ vs
  tails a b us vs e = cc

module _ (m : Matter) (old pushed : List ℕ) (c n from : ℕ) (prefix : IsPrefix (forest m) old) (less : c < n) (is : pushed ≡ old ++ c ∷ [])
    (many : IfSome (after (forest m) old) (λ d. option_map length (choices d) ≡ Some n)) where
  -- the forest after the choices, its alternatives, and the one that is chosen
  pub record Child : Type 0 where
    pub forest_here : Forest Member
    pub leads : after (forest m) old ≡ Some forest_here
    pub alternatives : List (Forest Member)
    pub open' : choices forest_here ≡ Some alternatives
    pub child : Forest Member
    pub here : slice_get alternatives c ≡ Some child
    pub goes_on : after (forest m) pushed ≡ Some child

  pub child : Child
  child = by (after (forest m) old) refl prefix many where
    at : (d : Forest Member) → after (forest m) old ≡ Some d → (o : Option (List (Forest Member))) → choices d ≡ o → option_map length o ≡ Some n → Child
    at d leads None open' e = absurd (cc)
    at d leads (Some es) open' e =
        let long : length es ≡ n = same_Some (length es) n e in
        let (x, here) = at_place es c (omega (arith, long, less)) in
        record {
          forest_here = d;
          leads = leads;
          alternatives = es;
          open' = open';
          child = x;
          here = here;
          goes_on = ap (after (forest m)) is ∙ after_push old (forest m) d x es c leads open' here;
        }

    by : (o : Option (Forest Member)) → after (forest m) old ≡ o → IsSome o → IfSome o (λ d. option_map length (choices d) ≡ Some n) → Child
    by None is h k = absurd (cc)
    by (Some d) is h k = at d is (choices d) refl k

  pub pushed_prefix : IsPrefix (forest m) pushed
  pushed_prefix = ap is_some child.goes_on

  module _ (met : Bool) (yes' : met ≡ true) (asked : IfSome (after (forest m) old) (λ d. IsTrue met ↔ SomeMeet (MeetsSoFar m) d)) where
    is_met : SomeMeet (MeetsSoFar m) child.forest_here
    is_met = (of_some (λ d. IsTrue met ↔ SomeMeet (MeetsSoFar m) d) (after (forest m) old) child.forest_here child.leads asked).0 yes'

    module _ (between to : ℕ) (new : List ℕ) (gone : IfSome (after (forest m) old) (λ d. GoneThrough m d c from between)) where
      sofar : Sofar (MeetsOf m) (MeetsSoFar m) child.forest_here child.alternatives c from between
      sofar =
          let (es, open', so) = of_some (λ d. GoneThrough m d c from between) (after (forest m) old) child.forest_here child.leads gone in
          subst (λ xs. Sofar (MeetsOf m) (MeetsSoFar m) child.forest_here xs c from between) (same_Some es child.alternatives (sym open' ∙ child.open')) so

      -- the child's first selection is that of the whole
      pub found_below : (s : Settings) → IfSome (after (forest m) pushed) (λ e. IsFoundOf m e pushed new between to (Some s)) → IfSome (after (forest m) old) (λ d. IsFoundOf m d old new from to (Some s))
      found_below s found = if_some (λ d. IsFoundOf m d old new from to (Some s)) (after (forest m) old) (λ d leads.
          subst (λ x. IsFoundOf m x old new from to (Some s)) (same_Some child.forest_here d (sym child.leads ∙ leads))
          (one_found (MeetsOf m) (IsBestOf m) (MeetsSoFar m) child.forest_here child.alternatives child.open' child.child c from between to old new s is_met child.here sofar
          (subst (λ p. FirstFound (MeetsOf m) (IsBestOf m) (MeetsSoFar m) child.child p new between to s) is
          (of_some (λ e. IsFoundOf m e pushed new between to (Some s)) (after (forest m) pushed) child.child child.goes_on found))))

      nothing : IfSome (after (forest m) pushed) (λ e. IsFoundOf m e pushed new between to None) → NothingFound (MeetsOf m) (MeetsSoFar m) child.child pushed new between to
      nothing found = of_some (λ e. IsFoundOf m e pushed new between to None) (after (forest m) pushed) child.child child.goes_on found

      -- a child that can't be met is gone through, and the choices are as before
      pub unmet_below : IfSome (after (forest m) pushed) (λ e. IsFoundOf m e pushed new between to None) → IfSome (after (forest m) old) (λ d. GoneThrough m d (c + 1) from to)
      unmet_below found = if_some (λ d. GoneThrough m d (c + 1) from to) (after (forest m) old) (λ d leads.
          subst (λ x. GoneThrough m x (c + 1) from to) (same_Some child.forest_here d (sym child.leads ∙ leads)) (
            child.alternatives,
            child.open',
            one_more (MeetsOf m) (IsBestOf m) (MeetsSoFar m) child.forest_here child.alternatives child.open' child.child c from between to is_met child.here sofar
                (nothing found).unmet (nothing found).visited,
          ))

      pub same_below : IfSome (after (forest m) pushed) (λ e. IsFoundOf m e pushed new between to None) → new ≡ pushed
      same_below found = (nothing found).same

-- where all children were gone through, nothing can be met
pub all_below : (m : Matter) (o : Option (Forest Member)) (old new : List ℕ) (c n from to : ℕ) → n ≤ c → c ≤ n → IfSome o (λ d. option_map length (choices d) ≡ Some n) → new ≡ old
    → IfSome o (λ d. GoneThrough m d c from to) → IfSome o (λ d. IsFoundOf m d old new from to None)
all_below m None old new c n from to over up many same gone = tt
all_below m (Some d) old new c n from to over up many same gone =
    let long : Some (length gone.0) ≡ Some n = ap (option_map length) (sym gone.1) ∙ many in
    let l : length gone.0 ≡ n = same_Some (length gone.0) n long in
    all_gone (MeetsOf m) (IsBestOf m) (MeetsSoFar m) d gone.0 gone.1 c from to old new (omega (arith, l, over, up)) same gone.2

-- without the last choice the choices are as before
pub popped : (o : Option ℕ) (longer new old : List ℕ) (c : ℕ) → MatchOption o ((longer ≡ []) × (new ≡ [])) (λ x. longer ≡ new ++ x ∷ []) → longer ≡ old ++ c ∷ [] → new ≡ old
popped None longer new old c h is = let long = ap length (sym h.0 ∙ is) in absurd (omega (arith, long, length-append old (c ∷ [])))
popped (Some x) longer new old c h is = front_same new old x c (sym h ∙ is)
