-- Forests, and what becomes of them by choices.
use Rattle.std.proofs.Common.{◌≡◌, ◌⊎◌, inl, inr, ℕ, List, [], ◌∷◌, Option, Some, None, slice_get, refl, sym, ◌∙◌, ap, subst}
use Rattle.std.specs.Prelude.{option_and_then}
use Rattle.std.proofs.lemmas.Bool.{cases_order}
use Rattle.std.proofs.lemmas.Option.{same_Some, none-some, option_and_then_some}
use Rattle.sysmem_tree.specs.Forest.{Forest, choices}
use Rattle.sysmem_tree.specs.Selection.{after, IsSelection, IsEarlierSelection}
use Rattle.verdict_claims.specs.Laws.{BeginsWith}

module _ {A : Type 0} where
  -- one choice and more
  pub after_choice : (d e f : Forest A) (es : List (Forest A)) (c : ℕ) (cs : List ℕ) → choices d ≡ Some es → slice_get es c ≡ Some e → after d (c ∷ cs) ≡ after e cs
  after_choice d e f es c cs open' here = ap (λ (ks : Option (List (Forest A))). option_and_then (λ x. after x cs) (option_and_then (λ ys. slice_get ys c) ks)) open' ∙ ap (λ (x : Option (Forest A)). option_and_then (λ y. after y cs) x) here

  -- where no group is left, the only selection has no choices
  pub whole_alone : (d f : Forest A) (cs : List ℕ) → choices d ≡ None → IsSelection d cs f → (cs ≡ []) × (d ≡ f)
  whole_alone d f [] none s = (refl, same_Some d f s.leads)
  whole_alone d f (c ∷ cs) none s =
      option_and_then_some (λ x. after x cs) (option_and_then (λ ys. slice_get ys c) (choices d)) f s.leads (λ x hx hc.
      option_and_then_some (λ ys. slice_get ys c) (choices d) x hx (λ ys hy ha. absurd (none-some ys (sym none ∙ hy))))

  -- else a selection is a choice for the first group and a selection of what that leads to
  pub begins : (d f : Forest A) (es : List (Forest A)) (cs : List ℕ) → choices d ≡ Some es → IsSelection d cs f → BeginsWith es cs f
  begins d f es [] open' s = absurd (none-some es (sym s.whole ∙ (ap choices (sym (same_Some d f s.leads)) ∙ open')))
  begins d f es (c ∷ cs) open' s =
      option_and_then_some (λ x. after x cs) (option_and_then (λ ys. slice_get ys c) (choices d)) f s.leads (λ x hx hc.
      option_and_then_some (λ ys. slice_get ys c) (choices d) x hx (λ ys hy ha.
      record {
        choice = c;
        rest = cs;
        is = refl;
        left = x;
        here = subst (λ zs. slice_get zs c ≡ Some x) (same_Some ys es (sym hy ∙ open')) ha;
        goes_on = record { leads = hc; whole = s.whole };
      }))

  -- and each such choice with such a selection is one
  pub joins : (d e f : Forest A) (es : List (Forest A)) (c : ℕ) (cs : List ℕ) → choices d ≡ Some es → slice_get es c ≡ Some e → IsSelection e cs f → IsSelection d (c ∷ cs) f
  joins d e f es c cs open' here s = record { leads = after_choice d e f es c cs open' here ∙ s.leads; whole = s.whole }

  -- of a selection that begins with a choice: what the choice leads to
  pub goes_on : (P : Type 0) (d f : Forest A) (c : ℕ) (cs : List ℕ) → IsSelection d (c ∷ cs) f
      → ((es : List (Forest A)) (x : Forest A) → choices d ≡ Some es → slice_get es c ≡ Some x → IsSelection x cs f → P) → P
  goes_on P d f c cs s then =
      option_and_then_some (λ x. after x cs) (option_and_then (λ ys. slice_get ys c) (choices d)) f s.leads (λ x hx hc.
      option_and_then_some (λ ys. slice_get ys c) (choices d) x hx (λ ys hy ha. then ys x hy ha (record { leads = hc; whole = s.whole })))

  -- no choices are a selection where some are
  pub no_choices : (d e f : Forest A) (c : ℕ) (cs : List ℕ) → IsSelection d [] e → IsSelection d (c ∷ cs) f → ⊥
  no_choices d e f c cs a b = goes_on ⊥ d f c cs b (λ es x open' here on. none-some es (sym a.whole ∙ (ap choices (sym (same_Some d e a.leads)) ∙ open')))

  -- of two selections one is earlier, or they are equal
  pub three_cases : (xs ys : List ℕ) (d e f : Forest A) → IsSelection d xs e → IsSelection d ys f → IsEarlierSelection xs ys ⊎ (IsEarlierSelection ys xs ⊎ (xs ≡ ys))
  three_cases [] [] d e f a b = inr (inr refl)
  three_cases [] (c ∷ cs) d e f a b = absurd (no_choices d e f c cs a b)
  three_cases (c ∷ cs) [] d e f a b = absurd (no_choices d f e c cs b a)
  three_cases (i ∷ cs) (j ∷ ds) d e f a b =
      goes_on Cases d e i cs a (λ es x open' here on.
      goes_on Cases d f j ds b (λ fs y open2 there on2.
      elim (cases_order i j) as (λ _. Cases) [
        | inr (inl below) ↦ inl (inl below)
        | inr (inr above) ↦ inr (inl (inl above))
        | inl same ↦
            let lists : fs ≡ es = same_Some fs es (sym open2 ∙ open') in
            let one : y ≡ x = same_Some y x (sym there ∙ (ap (λ zs. slice_get zs j) lists ∙ (ap (slice_get es) (sym same) ∙ here))) in
            elim (three_cases cs ds x e f on (subst (λ z. IsSelection z ds f) one on2))
            as (λ _. Cases) [
              | inl before ↦ inl (inr (same, before))
              | inr (inl behind) ↦ inr (inl (inr (sym same, behind)))
              | inr (inr equal) ↦ inr (inr (ap (λ k. k ∷ cs) same ∙ ap (λ ks. j ∷ ks) equal))
            ]
      ])) where
        Cases : Type 0
        Cases = IsEarlierSelection (i ∷ cs) (j ∷ ds) ⊎ (IsEarlierSelection (j ∷ ds) (i ∷ cs) ⊎ ((i ∷ cs) ≡ (j ∷ ds)))
