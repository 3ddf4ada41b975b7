-- The verdict of a domain, by what became of it.
use Rattle.std.proofs.Common.{◌≡◌, ◌≢◌, ℕ, Bool, true, false, Option, Some, None, refl, sym, ◌∙◌, ap, subst}
use Rattle.std.specs.Prelude.{option_map, unwrap_or, if◌then◌else◌}
use Rattle.verdict_claims.specs.declared.verdict.Verdict.{Verdict}
use Rattle.verdict_claims.specs.declared.verdict.Verdict.TheVariants as verdicts
use Rattle.sysmem_tree.specs.declared.domain.Decision.{Decision as Standing}
use Rattle.sysmem_tree.specs.declared.domain.Decision.TheVariants.{Undecided, Chosen, NoneChosen}
use Rattle.sysmem_tree.specs.declared.fate.Fate.TheVariants as fates
use Rattle.sysmem_tree.specs.Domain.{TreeFacts, decision_of, fate_by, fate_of, has_failed, is_undecided}
use Rattle.sysmem_alloc.specs.Book.{BookFacts, IsBook}
use Rattle.sysmem_alloc.specs.Decision.{DomainVerdict, decision_for}
use Rattle.sysmem_alloc.specs.Laws.{LegalAgrees}
use Rattle.sysmem_alloc.specs.Sound.{AgreesWithTree}
use Rattle.sysmem_alloc.specs.State.{State, verdict_of}
use Rattle.sysmem_alloc.proofs.Agreeing.{none_for}

not_failed : (d : Standing) → fate_by d ≡ fates.Failed → ⊥
not_failed Undecided e = absurd (cc)
not_failed Chosen e = absurd (cc)
not_failed NoneChosen e = absurd (cc)

pub failed_verdict : (s : State) (r : ℕ) → fate_of s.tree r ≡ fates.Failed → verdict_of s r ≡ Some verdicts.Failed
failed_verdict s r is = by (has_failed s.tree r) is where
  by : (b : Bool) → (if b then fates.Failed else fate_by (decision_of s.tree.domains r)) ≡ fates.Failed
      → (if b then Some verdicts.Failed else option_map (λ d. unwrap_or d.verdict verdicts.NoMemory) (decision_for s.decisions r)) ≡ Some verdicts.Failed
  by true e = refl
  by false e = absurd (not_failed (decision_of s.tree.domains r) e)

pub other_verdict : (s : State) (r : ℕ) → fate_of s.tree r ≢ fates.Failed → verdict_of s r ≡ option_map (λ d. unwrap_or d.verdict verdicts.NoMemory) (decision_for s.decisions r)
other_verdict s r other = by (has_failed s.tree r) other where
  by : (b : Bool) → (if b then fates.Failed else fate_by (decision_of s.tree.domains r)) ≢ fates.Failed
      → (if b then Some verdicts.Failed else option_map (λ d. unwrap_or d.verdict verdicts.NoMemory) (decision_for s.decisions r)) ≡ option_map (λ d. unwrap_or d.verdict verdicts.NoMemory) (decision_for s.decisions r)
  by true n = absurd (n refl)
  by false n = refl

-- what became of an undecided domain is that the tree has no decision of it
undecided_in : (t : TreeFacts) (r : ℕ) → fate_of t r ≡ fates.Undecided → is_undecided (decision_of t.domains r) ≡ true
undecided_in t r is = by (has_failed t r) (decision_of t.domains r) is where
  by : (b : Bool) (d : Standing) → (if b then fates.Failed else fate_by d) ≡ fates.Undecided → is_undecided d ≡ true
  by true d e = absurd (cc)
  by false Undecided e = refl
  by false Chosen e = absurd (cc)
  by false NoneChosen e = absurd (cc)

-- so none was entered for it, and it has no verdict
pub undecided_verdict : LegalAgrees → (b : BookFacts) (r : ℕ) → IsBook b → fate_of b.state.tree r ≡ fates.Undecided → None ≡ verdict_of b.state r
undecided_verdict agrees b r is undecided =
    let agreeing = subst (AgreesWithTree b.platform) (sym is.replayed) (agrees b.platform b.history is.legal) in
    let none = none_for b.platform b.state r agreeing (undecided_in b.state.tree r undecided) in
    sym (other_verdict b.state r (λ e. (let two = sym undecided ∙ e in absurd (cc))) ∙ ap (option_map (λ (d : DomainVerdict). unwrap_or d.verdict verdicts.NoMemory)) none)

-- of what was entered
pub entered_verdict : (s : State) (r : ℕ) (o : Option (Option Verdict)) → o ≡ option_map (λ d. d.verdict) (decision_for s.decisions r) → fate_of s.tree r ≢ fates.Failed
    → option_map (λ v. unwrap_or v verdicts.NoMemory) o ≡ verdict_of s r
entered_verdict s r o is other = ap (option_map (λ v. unwrap_or v verdicts.NoMemory)) is ∙ (by (decision_for s.decisions r) ∙ sym (other_verdict s r other)) where
  by : (d : Option DomainVerdict) → option_map (λ v. unwrap_or v verdicts.NoMemory) (option_map (λ (x : DomainVerdict). x.verdict) d) ≡ option_map (λ (x : DomainVerdict). unwrap_or x.verdict verdicts.NoMemory) d
  by None = refl
  by (Some d) = refl
