-- Two right verdicts are one answer.
use Rattle.std.proofs.Common.{◌≡◌, inl, inr, arith, ℕ, true, List, Some, None, sym, ◌∙◌, ap, subst}
use Rattle.std.proofs.lemmas.Option.{same_Some}
use Rattle.sysmem_merge.specs.declared.settings.Settings.{Settings}
use Rattle.sysmem_merge.specs.Laws.{OneBest}
use Rattle.sysmem_tree.specs.Forest.{Forest, settled}
use Rattle.sysmem_tree.specs.Selection.{after}
use Rattle.sysmem_tree.specs.Shape.{Member}
use Rattle.verdict_claims.specs.declared.verdict.Verdict.{Verdict}
use Rattle.verdict_claims.specs.declared.verdict.Verdict.TheVariants.{Chosen, IntersectionEmpty, TooMany, Failed, NoMemory}
use Rattle.verdict_claims.specs.Laws.{OneAnswer}
use Rattle.verdict_claims.specs.Members.{participants}
use Rattle.verdict_claims.specs.Verdict.{Meeting, IsChosen, IsRight, MeetsFor, IsBestFor, MeetsFixed, IsSameAnswer}
use Rattle.verdict_claims.proofs.Walks.{three_cases}

module _ (Met Best : Meeting) (meets : (ms : List Member) (s : Settings) → Best ms s → Met ms s) (one : (ms : List Member) (s t : Settings) → Best ms s → Best ms t → s ≡ t) where
  one_choice : (d : Forest Member) (a b : List ℕ) (s t : Settings) → IsChosen Met Best d a s → IsChosen Met Best d b t → (a ≡ b) × (s ≡ t)
  one_choice d a b s t x y = elim (three_cases a b d x.members y.members x.selects y.selects) as (λ _. (a ≡ b) × (s ≡ t)) [
    | inl before ↦ absurd (y.first a x.members s x.selects before (meets (settled x.members) s x.best))
    | inr (inl behind) ↦ absurd (x.first b y.members t y.selects behind (meets (settled y.members) t y.best))
    | inr (inr same) ↦
        let end : x.members ≡ y.members = same_Some x.members y.members (sym x.selects.leads ∙ (ap (after d) same ∙ y.selects.leads)) in
        (same, one (settled y.members) s t (subst (λ e. Best (settled e) s) end x.best) y.best)
  ]

  pub one_right : (d : Forest Member) (v w : Verdict) → IsRight Met Best d v → IsRight Met Best d w → IsSameAnswer v w
  one_right d (Chosen a) (Chosen b) x y = one_choice d a.selection b.selection a.settings b.settings x.1 y.1
  one_right d (Chosen a) IntersectionEmpty x y = absurd (y.1 a.selection x.1.members a.settings x.1.selects (meets (settled x.1.members) a.settings x.1.best))
  one_right d (Chosen a) TooMany x y = absurd (omega (arith, x.0, y))
  one_right d IntersectionEmpty (Chosen b) x y = absurd (x.1 b.selection y.1.members b.settings y.1.selects (meets (settled y.1.members) b.settings y.1.best))
  one_right d IntersectionEmpty IntersectionEmpty x y = tt
  one_right d IntersectionEmpty TooMany x y = absurd (omega (arith, x.0, y))
  one_right d TooMany (Chosen b) x y = absurd (omega (arith, y.0, x))
  one_right d TooMany IntersectionEmpty x y = absurd (omega (arith, y.0, x))
  one_right d TooMany TooMany x y = tt
  one_right d Failed w x y = absurd x
  one_right d NoMemory w x y = absurd x
  one_right d (Chosen a) Failed x y = absurd y
  one_right d (Chosen a) NoMemory x y = absurd y
  one_right d IntersectionEmpty Failed x y = absurd y
  one_right d IntersectionEmpty NoMemory x y = absurd y
  one_right d TooMany Failed x y = absurd y
  one_right d TooMany NoMemory x y = absurd y

pub one_answer : OneBest → OneAnswer
one_answer best platform None d v w = one_right (MeetsFor platform None) (IsBestFor platform None) (λ ms s is. is.meets)
    (λ ms s t a b. best true platform (participants ms) s t a b) d v w
one_answer best platform (Some terms) d v w = one_right (MeetsFixed platform terms) (MeetsFixed platform terms) (λ ms s met. met) (λ ms s t a b. a.same ∙ sym b.same) d v w
