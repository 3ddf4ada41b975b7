-- What callers need of verdicts: what a search by recursion over the
-- choices for the first group shows.
use Rattle.std.proofs.Common.{◌≡◌, inl, inr, arith, ℕ, ◌+◌, ◌<◌, List, [], ◌∷◌, ◌++◌, length, Some, None, slice_get, refl, sym, ◌∙◌, ap, subst}
use Rattle.std.proofs.lemmas.Bool.{cases_order}
use Rattle.std.proofs.lemmas.Option.{same_Some}
use Rattle.std.proofs.lemmas.Option.{slice_get_within}
use Rattle.sysmem_tree.specs.Forest.{Forest, choices, settled}
use Rattle.sysmem_tree.specs.Selection.{after, IsSelection, IsEarlierSelection}
use Rattle.sysmem_merge.specs.declared.settings.Settings.{Settings}
use Rattle.sysmem_tree.specs.Shape.{Member}
use Rattle.verdict_claims.specs.Verdict.{Meeting, IsForestUnmet, IsUnmetBefore, IsChosen}
use Rattle.verdict_claims.proofs.Walks.{after_choice, whole_alone, begins, joins, goes_on}
pub use Rattle.verdict_claims.proofs.Equal.{same_settings}
pub use Rattle.verdict_claims.proofs.FinderLemmas.{splits_refute, earlier_grows}
pub use Rattle.verdict_claims.proofs.Labels.{AllIn, both_all, in_after, in_settled, in_tree}

module _ (Met : Meeting) where
  -- the first c choices for the first group can't be met, however one goes on
  abbrev pub AreUnmet : List (Forest Member) → ℕ → Type 0
  AreUnmet es c = (i : ℕ) (e : Forest Member) → i < c → slice_get es i ≡ Some e → IsForestUnmet Met e

  -- that is true of no choices, and stays so with one more
  pub no_choice_unmet : (es : List (Forest Member)) → AreUnmet es 0
  no_choice_unmet es i e below here = absurd (omega (arith, below))

  pub next_choice_unmet : (es : List (Forest Member)) (c : ℕ) (e : Forest Member) → AreUnmet es c → slice_get es c ≡ Some e → IsForestUnmet Met e → AreUnmet es (c + 1)
  next_choice_unmet es c e before here unmet i x below there = elim (cases_order i c) as (λ _. IsForestUnmet Met x) [
    | inl same ↦ subst (IsForestUnmet Met) (same_Some e x (sym here ∙ (ap (slice_get es) (sym same) ∙ there))) unmet
    | inr (inl less) ↦ before i x less there
    | inr (inr more) ↦ absurd (omega (arith, more, below))
  ]

  -- where no group is left, what can't be met is what is settled
  pub whole_unmet : (d : Forest Member) → choices d ≡ None → ((t : Settings) → ¬ (Met (settled d) t)) → IsForestUnmet Met d
  whole_unmet d none unmet cs f t s met = unmet t (subst (λ x. Met (settled x) t) (sym (whole_alone d f cs none s).1) met)

  -- where no choice for the first group can be met, nothing can
  pub split_unmet : (d : Forest Member) (es : List (Forest Member)) → choices d ≡ Some es → AreUnmet es (length es) → IsForestUnmet Met d
  split_unmet d es open' all cs f t s met =
      let b = begins d f es cs open' s in
      all b.choice b.left (slice_get_within es b.choice b.left b.here) b.here b.rest f t b.goes_on met

  -- what can't be met after choices has no selection that begins with them
  pub prefix_unmet : (d e f : Forest Member) (cs more : List ℕ) (t : Settings) → after d cs ≡ Some e → IsForestUnmet Met e → IsSelection d (cs ++ more) f → ¬ (Met (settled f) t)
  prefix_unmet d e f [] more t leads unmet s met = unmet more f t (subst (λ x. IsSelection x more f) (same_Some d e leads) s) met
  prefix_unmet d e f (c ∷ cs) more t leads unmet s met = goes_on ⊥ d f c (cs ++ more) s (λ es x open' here on.
      prefix_unmet x e f cs more t (sym (after_choice d x f es c cs open' here) ∙ leads) unmet on met)

  module _ (Best : Meeting) where
    -- where no group is left, best settings for what is settled are chosen by no choices
    pub chosen_here : (d : Forest Member) (s : Settings) → choices d ≡ None → Best (settled d) s → IsChosen Met Best d [] s
    chosen_here d s none best = record {
      members = d;
      selects = record { leads = refl; whole = none };
      best = best;
      first = λ other e t selects earlier met. nothing_earlier other earlier;
    } where
      nothing_earlier : (other : List ℕ) → IsEarlierSelection other [] → ⊥
      nothing_earlier [] h = h
      nothing_earlier (c ∷ cs) h = h

    -- what is chosen after the first choice that can be met is chosen
    pub chosen_below : (d e : Forest Member) (es : List (Forest Member)) (c : ℕ) (cs : List ℕ) (s : Settings) → choices d ≡ Some es → slice_get es c ≡ Some e → AreUnmet es c
        → IsChosen Met Best e cs s → IsChosen Met Best d (c ∷ cs) s
    chosen_below d e es c cs s open' here before chosen = record {
      members = chosen.members;
      selects = joins d e chosen.members es c cs open' here chosen.selects;
      best = chosen.best;
      first = λ other f t selects earlier met. by other f t selects earlier met;
    } where
      by : IsUnmetBefore Met d (c ∷ cs)
      by [] f t selects earlier met = earlier
      by (i ∷ other) f t selects earlier met = goes_on ⊥ d f i other selects (λ fs x open2 there on.
          let at : slice_get es i ≡ Some x = ap (λ zs. slice_get zs i) (same_Some es fs (sym open' ∙ open2)) ∙ there in
          elim earlier as (λ _. ⊥) [
            | inl less ↦ before i x less at other f t on met
            | inr later ↦ chosen.first other f t (subst (λ z. IsSelection z other f) (same_Some x e (sym at ∙ (ap (slice_get es) later.0 ∙ here))) on) later.1 met
          ])
