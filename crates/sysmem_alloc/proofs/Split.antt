-- A verdict that a domain has is of one of the history's decisions.
use Rattle.std.proofs.Common.{◌≡◌, ◌⊎◌, inl, inr, ℕ, Bool, true, false, List, [], ◌∷◌, ◌++◌, Option, Some, None, Result, Ok, Err, refl, sym, ◌∙◌, ap, subst}
use Rattle.std.specs.Prelude.{option_map, unwrap_or, if◌then◌else◌}
use Rattle.std.proofs.lemmas.Option.{same_Some}
use Rattle.negotiation_inputs.specs.Platform.{PlatformFacts}
use Rattle.sysmem_tree.specs.declared.refusal.Refusal.{Refusal}
use Rattle.sysmem_tree.specs.Domain.{has_failed}
use Rattle.sysmem_tree.specs.Forest.{Forest}
use Rattle.sysmem_tree.specs.Shape.{Member}
use Rattle.sysmem_tree.specs.Tree.{Applied, applied}
use Rattle.verdict_claims.specs.declared.certificate.Claim.{Claim}
use Rattle.verdict_claims.specs.declared.verdict.Verdict.{Verdict}
use Rattle.verdict_claims.specs.declared.verdict.Verdict.TheVariants as verdicts
use Rattle.verdict_claims.specs.Base.{Terms}
use Rattle.verdict_claims.specs.Verdict.{IsOptimal}
use Rattle.sysmem_alloc.specs.Decision.{Claimed, DomainVerdict, IsDecision, answer_of, decision_for, verdict_in}
use Rattle.sysmem_alloc.specs.Entry.{BookEntry, Acted, Decided}
use Rattle.sysmem_alloc.specs.Headline.{HasNegotiated, Headline, IsAsSaid, VerdictsAreNegotiated, history_with, shape_in, terms_in}
use Rattle.sysmem_alloc.specs.History.{IsLegal, after_answer, after_entry, replay, replay_from}
use Rattle.sysmem_alloc.specs.State.{State, first_state, verdict_of}
use Rattle.sysmem_alloc.proofs.Confluent.{decision_push, of_decisions}
use Rattle.sysmem_alloc.proofs.Lasting.{shown}
use Rattle.sysmem_alloc.proofs.Lists.{all_each}

-- entries with this decision among them
record IsAmong (es : List BookEntry) (d : DomainVerdict) : Type 0 where
  before : List BookEntry
  decision : Claimed
  after : List BookEntry
  is : es ≡ before ++ Decided decision ∷ after
  gives : answer_of decision ≡ d

-- a decision that entries lead to was there before, or is among them
found : (s : State) (es : List BookEntry) (r : ℕ) (d : DomainVerdict) → decision_for (replay_from s es).decisions r ≡ Some d → (decision_for s.decisions r ≡ Some d) ⊎ IsAmong es d
found s [] r d has = inl has
found s (Acted i deed ∷ es) r d has = elim (found (after_entry s (Acted i deed)) es r d has) [
  | inl before ↦ inl (by (applied s.tree i deed) before)
  | inr among ↦ inr (record { before = Acted i deed ∷ among.before; decision = among.decision; after = among.after; is = ap (λ (xs : List BookEntry). Acted i deed ∷ xs) among.is; gives = among.gives })
] where
  by : (o : Result Applied Refusal) → decision_for (after_answer s o).decisions r ≡ Some d → decision_for s.decisions r ≡ Some d
  by (Ok made) h = h
  by (Err refusal) h = h
found s (Decided c ∷ es) r d has = elim (found (after_entry s (Decided c)) es r d has) [
  | inl before ↦ now (decision_push s.decisions (answer_of c) r d before)
  | inr among ↦ inr (record { before = Decided c ∷ among.before; decision = among.decision; after = among.after; is = ap (λ (xs : List BookEntry). Decided c ∷ xs) among.is; gives = among.gives })
] where
  now : (decision_for s.decisions r ≡ Some d) ⊎ ((answer_of c ≡ d) × ((answer_of c).domain ≡ r)) → (decision_for s.decisions r ≡ Some d) ⊎ IsAmong (Decided c ∷ es) d
  now (inl before) = inl before
  now (inr (same, own)) = inr (record { before = []; decision = c; after = es; is = refl; gives = same })

-- the decision of a domain is of that domain
own_decision : (ds : List DomainVerdict) (r : ℕ) (d : DomainVerdict) → decision_for ds r ≡ Some d → d.domain ≡ r
own_decision ds r d has = (of_decisions (λ _. Unit {0}) ds r d (all_each (λ _. Unit {0}) ds (λ _. tt)) has).1

-- the decision by which a domain has a verdict
pub record Gave (s : State) (r : ℕ) (v : Verdict) : Type 0 where
  pub decision : DomainVerdict
  pub entered : decision_for s.decisions r ≡ Some decision
  pub verdict : decision.verdict ≡ Some v

pub gave : (s : State) (r : ℕ) (v : Verdict) → verdict_of s r ≡ Some v → IsDecision v → Gave s r v
gave s r v is decided = by (has_failed s.tree r) (decision_for s.decisions r) refl is where
  in_it : (d : DomainVerdict) (o : Option Verdict) → d.verdict ≡ o → decision_for s.decisions r ≡ Some d → unwrap_or o verdicts.NoMemory ≡ v → Gave s r v
  in_it d None has entered e = absurd (subst IsDecision (sym e) decided)
  in_it d (Some w) has entered e = record { decision = d; entered = entered; verdict = has ∙ ap Some e }

  by : (b : Bool) (o : Option DomainVerdict) → decision_for s.decisions r ≡ o → shown b o ≡ Some v → Gave s r v
  by true o has e = absurd (subst IsDecision (sym (same_Some verdicts.Failed v e)) decided)
  by false None has e = absurd (cc)
  by false (Some d) has e = in_it d d.verdict refl has (same_Some (unwrap_or d.verdict verdicts.NoMemory) v e)

-- a domain of which a verdict says what it says has that as its optimal verdict
said_optimal : (platform : PlatformFacts) (terms : Option Terms) (d : Forest Member) (v : Verdict) → IsAsSaid platform terms d v → IsOptimal platform terms d v
said_optimal platform terms d (verdicts.Chosen chosen) is = (is.few, record { members = is.members; selects = is.selects; best = is.best; first = is.first })
said_optimal platform terms d verdicts.IntersectionEmpty is = is
said_optimal platform terms d verdicts.TooMany is = is
said_optimal platform terms d verdicts.Failed is = is
said_optimal platform terms d verdicts.NoMemory is = is

-- a decision with this verdict has a claim
claimed : (o : Option Claim) (v : Verdict) → verdict_in o ≡ Some v → (c : Claim) × (o ≡ Some c) × (c.verdict ≡ v)
claimed None v is = absurd (cc)
claimed (Some c) v is = (c, refl, same_Some c.verdict v is)

pub verdicts_are_negotiated : Headline → VerdictsAreNegotiated
verdicts_are_negotiated headline platform all r v legal is decided =
    let g = gave (replay all) r v is decided in
    by g (found first_state all r g.decision g.entered) where
      by : (g : Gave (replay all) r v) → (decision_for first_state.decisions r ≡ Some g.decision) ⊎ IsAmong all g.decision → HasNegotiated platform all r v
      by g (inl before) = absurd (cc)
      by g (inr among) =
          let domain : among.decision.domain ≡ r = ap (λ (d : DomainVerdict). d.domain) among.gives ∙ own_decision (replay all).decisions r g.decision g.entered in
          let (claim, has, gives) = claimed among.decision.claim v (ap (λ (d : DomainVerdict). d.verdict) among.gives ∙ g.verdict) in
          let same : all ≡ history_with among.before r claim among.after =
          among.is ∙ (ap (λ k. among.before ++ Decided (record { domain = k; claim = among.decision.claim }) ∷ among.after) domain
          ∙ ap (λ o. among.before ++ Decided (record { domain = r; claim = o }) ∷ among.after) has) in
          let negotiated = headline platform among.before r claim among.after (subst (IsLegal platform) same legal) in
          let terms : Option Terms = terms_in (replay among.before) r in
          record {
            before = among.before;
            claim = claim;
            after = among.after;
            is = same;
            verdict = gives;
            negotiated = negotiated;
            optimal = subst (IsOptimal platform terms (shape_in (replay all) r)) gives
                (subst (λ hs. IsOptimal platform terms (shape_in (replay hs) r) claim.verdict) (sym same)
                (subst (λ d. IsOptimal platform terms d claim.verdict) (sym negotiated.shape) (said_optimal platform terms (shape_in (replay among.before) r) claim.verdict negotiated.said)));
          }
