-- How far the choices for the first group have been gone through.
use Rattle.std.proofs.Common.{◌≡◌, ◌≢◌, ◌<◌, ◌⊎◌, ℕ, ◌+◌, List, [], ◌∷◌, ◌++◌, Option, Some, None, length, min, slice_get, refl, sym, ◌∙◌, ap, subst, arith, inl, inr}
use Rattle.std.specs.Prelude.{IsSomeAnd, option_and_then}
use Rattle.std.proofs.lemmas.Bool.{cases_eq}
use Rattle.std.proofs.lemmas.Option.{same_Some, slice_get_within}
use Rattle.sysmem_merge.specs.declared.settings.Settings.{Settings}
use Rattle.verdict_claims.specs.Verdict.{Meeting, IsForestUnmet}
use Rattle.verdict_claims.proofs.CallerLemmas.{AreUnmet, no_choice_unmet, next_choice_unmet, split_unmet, chosen_below}
use Rattle.search_questions.specs.Live.{SomeMeet, choose, IsLive, IsNotLater, IsLiveUpTo}
use Rattle.search_questions.specs.Searching.{NothingFound, FirstFound}
use Rattle.search_questions.specs.Visits.{IsRaised}
use Rattle.search_questions.proofs.Raising.{raised_as, raised_once, raised_more}
use Rattle.sysmem_tree.specs.Forest.{Forest, choices}
use Rattle.sysmem_tree.specs.Shape.{Member}

-- no choices, or the first is below a number
abbrev pub BeginsBelow : ℕ → List ℕ → Type 0
BeginsBelow c [] = Unit {0}
BeginsBelow c (x ∷ xs) = x < c

-- live, and empty or with a first choice below a number
pub record IsBefore (Loosely : Meeting) (d : Forest Member) (c : ℕ) (q : List ℕ) : Type 0 where
  pub live : IsLive Loosely d q
  pub below : BeginsBelow c q

-- the first choices can't be met, and their live prefixes were visited
pub record Sofar (Met Loosely : Meeting) (d : Forest Member) (es : List (Forest Member)) (c from to : ℕ) : Type 0 where
  pub unmet : AreUnmet Met es c
  pub visited : IsRaised (IsBefore Loosely d c) from to

-- goes in and out of an option that is known
pub some_and : {X : Type 0} (P : X → Type 0) (o : Option X) (x : X) → o ≡ Some x → IsSomeAnd o P → P x
some_and P None x is h = absurd h
some_and P (Some y) x is h = subst P (same_Some y x is) h

pub and_some : {X : Type 0} (P : X → Type 0) (o : Option X) (x : X) → o ≡ Some x → P x → IsSomeAnd o P
and_some P None x is h = absurd (cc)
and_some P (Some y) x is h = subst P (sym (same_Some y x is)) h

-- what is at a place of a list is within it
within : (es : List (Forest Member)) (c : ℕ) (P : Forest Member → Type 0) → IsSomeAnd (slice_get es c) P → c < length es
within es c P h = by (slice_get es c) refl h where
  by : (o : Option (Forest Member)) → slice_get es c ≡ o → IsSomeAnd o P → c < length es
  by None is h = absurd h
  by (Some x) is h = slice_get_within es c x is

module _ (Met Best Loosely : Meeting) (d : Forest Member) (es : List (Forest Member)) (open' : choices d ≡ Some es) where
  chosen : (c : ℕ) → choose d c ≡ slice_get es c
  chosen c = ap (option_and_then (λ xs. slice_get xs c)) open'

  -- nothing yet but the visit of no choices
  pub none_yet : (from to : ℕ) → to ≡ min (from + 1) 18446744073709551615 → Sofar Met Loosely d es 0 from to
  none_yet from to is = record {
    unmet = no_choice_unmet Met es;
    visited = raised_once (IsBefore Loosely d 0) from to (record { live = tt; below = tt }) only is;
  } where
    only : (q : List ℕ) → IsBefore Loosely d 0 q → q ≡ []
    only [] b = refl
    only (x ∷ q) b = absurd (below x b.below) where
      below : (x : ℕ) → x < 0 → ⊥
      below x less = omega (arith, less)

  off : (c : ℕ) (q : List ℕ) → IsBefore Loosely d c (c ∷ q) → ⊥
  off c q b = below c b.below where
    below : (c : ℕ) → c < c → ⊥
    below c less = omega (arith, less)

  -- one choice more that can't be met
  pub one_more : (e : Forest Member) (c from between to : ℕ) → SomeMeet Loosely d → slice_get es c ≡ Some e → Sofar Met Loosely d es c from between
      → IsForestUnmet Met e → IsRaised (IsLive Loosely e) between to → Sofar Met Loosely d es (c + 1) from to
  one_more e c from between to met is so unmet visited = record {
    unmet = next_choice_unmet Met es c e so.unmet is unmet;
    visited = raised_more (IsBefore Loosely d c) (IsLive Loosely e) (IsBefore Loosely d (c + 1)) c from between to first second (off c) split so.visited visited;
  } where
    first : (q : List ℕ) → IsBefore Loosely d c q → IsBefore Loosely d (c + 1) q
    first [] b = record { live = tt; below = tt }
    first (x ∷ q) b = record { live = b.live; below = up x c b.below } where
      up : (x c : ℕ) → x < c → x < c + 1
      up x c less = omega (arith, less)

    second : (q : List ℕ) → IsLive Loosely e q → IsBefore Loosely d (c + 1) (c ∷ q)
    second q live = record { live = (met, and_some (λ x. IsLive Loosely x q) (choose d c) e (chosen c ∙ is) live); below = up c } where
      up : (c : ℕ) → c < c + 1
      up c = omega arith

    split : (q : List ℕ) → IsBefore Loosely d (c + 1) q → IsBefore Loosely d c q ⊎ ((rest : List ℕ) × (q ≡ c ∷ rest) × IsLive Loosely e rest)
    split [] b = inl (record { live = tt; below = tt })
    split (x ∷ q) b = elim (cases_eq x c) [
      | inl same ↦ inr (q, ap (λ y. y ∷ q) same, some_and (λ y. IsLive Loosely y q) (choose d x) e (ap (choose d) same ∙ (chosen c ∙ is)) b.live.1)
      | inr other ↦ inl (record { live = b.live; below = down x c other b.below })
    ] where
      down : (x c : ℕ) → x ≢ c → x < c + 1 → x < c
      down x c other less = omega (arith, other, less)

  -- all of them
  pub all_gone : (c from to : ℕ) (old new : List ℕ) → length es ≡ c → new ≡ old → Sofar Met Loosely d es c from to → NothingFound Met Loosely d old new from to
  all_gone c from to old new long same so = record {
    same = same;
    unmet = split_unmet Met d es open' (subst (AreUnmet Met es) (sym long) so.unmet);
    visited = raised_as (IsBefore Loosely d c) (IsLive Loosely d) from to (λ q b. b.live) below so.visited;
  } where
    below : (q : List ℕ) → IsLive Loosely d q → IsBefore Loosely d c q
    below [] live = record { live = tt; below = tt }
    below (x ∷ q) live = record {
      live = live;
      below = subst (λ n. x < n) long (within es x (λ e. IsLive Loosely e q) (subst (λ o. IsSomeAnd o (λ e. IsLive Loosely e q)) (chosen x) live.1));
    }

  -- the first that can be met
  pub one_found : (e : Forest Member) (c from between to : ℕ) (old new : List ℕ) (s : Settings) → SomeMeet Loosely d → slice_get es c ≡ Some e → Sofar Met Loosely d es c from between
      → FirstFound Met Best Loosely e (old ++ c ∷ []) new between to s → FirstFound Met Best Loosely d old new from to s
  one_found e c from between to old new s met is so found = record {
    selection = c ∷ found.selection;
    goes_on = found.goes_on ∙ regroup old c found.selection;
    chosen = chosen_below Met Best d e es c found.selection s open' is so.unmet found.chosen;
    visited = raised_more (IsBefore Loosely d c) (IsLiveUpTo Loosely e found.selection) (IsLiveUpTo Loosely d (c ∷ found.selection)) c from between to first second (off c) split so.visited found.visited;
  } where
    regroup : (old : List ℕ) (c : ℕ) (xs : List ℕ) → (old ++ c ∷ []) ++ xs ≡ old ++ c ∷ xs
    regroup [] c xs = refl
    regroup (x ∷ old) c xs = ap (λ ys. x ∷ ys) (regroup old c xs)

    first : (q : List ℕ) → IsBefore Loosely d c q → IsLiveUpTo Loosely d (c ∷ found.selection) q
    first [] b = record { live = tt; not_later = tt }
    first (x ∷ q) b = record { live = b.live; not_later = inl b.below }

    second : (q : List ℕ) → IsLiveUpTo Loosely e found.selection q → IsLiveUpTo Loosely d (c ∷ found.selection) (c ∷ q)
    second q up = record { live = (met, and_some (λ x. IsLive Loosely x q) (choose d c) e (chosen c ∙ is) up.live); not_later = inr (refl, up.not_later) }

    split : (q : List ℕ) → IsLiveUpTo Loosely d (c ∷ found.selection) q → IsBefore Loosely d c q ⊎ ((rest : List ℕ) × (q ≡ c ∷ rest) × IsLiveUpTo Loosely e found.selection rest)
    split [] up = inl (record { live = tt; below = tt })
    split (x ∷ q) up = by up.live up.not_later where
      by : IsLive Loosely d (x ∷ q) → IsNotLater (x ∷ q) (c ∷ found.selection) → IsBefore Loosely d c (x ∷ q) ⊎ ((rest : List ℕ) × (x ∷ q ≡ c ∷ rest) × IsLiveUpTo Loosely e found.selection rest)
      by live (inl less) = inl (record { live = live; below = less })
      by live (inr on) = inr (q, ap (λ y. y ∷ q) on.0, record { live = some_and (λ y. IsLive Loosely y q) (choose d x) e (ap (choose d) on.0 ∙ (chosen c ∙ is)) live.1; not_later = on.1 })
