-- Two decisions that a book allows are one, where memory isn't refused to either.
use Rattle.std.proofs.Common.{◌≡◌, ℕ, List, true, false, Option, Some, None, refl, sym, ◌∙◌, ap, subst}
use Rattle.std.specs.Prelude.{IfSome, is_none, is_some, option_map}
use Rattle.std.proofs.lemmas.Option.{same_Some}
use Rattle.script_replay.specs.State.{RunState, collection_tree}
use Rattle.sysmem_alloc.proofs.CallerLemmas.{claims_optimal}
use Rattle.sysmem_alloc.specs.Decision.{Claimed, DomainVerdict, answer_of}
use Rattle.sysmem_alloc.specs.Entry.{Decided}
use Rattle.sysmem_alloc.specs.History.{Allows}
use Rattle.sysmem_alloc.specs.State.{base_of}
use Rattle.sysmem_merge.specs.declared.settings.Settings.{Settings}
use Rattle.sysmem_tree.specs.Shape.{shape_of}
use Rattle.verdict_claims.specs.Chosen.{ChosenFacts}
use Rattle.verdict_claims.specs.Laws.{OneAnswer}
use Rattle.verdict_claims.specs.Verdict.{IsOptimalIn, IsSameAnswer}
use Rattle.verdict_claims.specs.declared.certificate.Claim.{Claim}
use Rattle.verdict_claims.specs.declared.verdict.Verdict.{Verdict}
use Rattle.verdict_claims.specs.declared.verdict.Verdict.TheVariants.{Chosen, IntersectionEmpty, TooMany, Failed, NoMemory}

same_chosen : (a b : ChosenFacts) → a.selection ≡ b.selection → a.settings ≡ b.settings → a ≡ b
same_chosen a b selection settings =
    let first : a ≡ record { selection = b.selection; settings = a.settings } = ap (λ (cs : List ℕ). let c : ChosenFacts = record { selection = cs; settings = a.settings } in c) selection in
    first ∙ ap (λ (s : Settings). let c : ChosenFacts = record { selection = b.selection; settings = s } in c) settings

same_verdict : (v w : Verdict) → IsSameAnswer v w → v ≡ w
same_verdict (Chosen a) (Chosen b) h = ap Chosen (same_chosen a b h.0 h.1)
same_verdict IntersectionEmpty IntersectionEmpty h = refl
same_verdict TooMany TooMany h = refl
same_verdict Failed Failed h = refl
same_verdict NoMemory NoMemory h = refl
same_verdict (Chosen a) IntersectionEmpty h = absurd h
same_verdict (Chosen a) TooMany h = absurd h
same_verdict (Chosen a) Failed h = absurd h
same_verdict (Chosen a) NoMemory h = absurd h
same_verdict IntersectionEmpty (Chosen b) h = absurd h
same_verdict IntersectionEmpty TooMany h = absurd h
same_verdict IntersectionEmpty Failed h = absurd h
same_verdict IntersectionEmpty NoMemory h = absurd h
same_verdict TooMany (Chosen b) h = absurd h
same_verdict TooMany IntersectionEmpty h = absurd h
same_verdict TooMany Failed h = absurd h
same_verdict TooMany NoMemory h = absurd h
same_verdict Failed (Chosen b) h = absurd h
same_verdict Failed IntersectionEmpty h = absurd h
same_verdict Failed TooMany h = absurd h
same_verdict Failed NoMemory h = absurd h
same_verdict NoMemory (Chosen b) h = absurd h
same_verdict NoMemory IntersectionEmpty h = absurd h
same_verdict NoMemory TooMany h = absurd h
same_verdict NoMemory Failed h = absurd h

same_decision : (d e : DomainVerdict) → d.domain ≡ e.domain → d.verdict ≡ e.verdict → d ≡ e
same_decision d e own verdict =
    let first : d ≡ record { domain = e.domain; verdict = d.verdict } = ap (λ (r : ℕ). let z : DomainVerdict = record { domain = r; verdict = d.verdict } in z) own in
    first ∙ ap (λ (v : Option Verdict). let z : DomainVerdict = record { domain = e.domain; verdict = v } in z) verdict

-- what is claimed has a verdict
pub has_verdict : (o : Option Claim) → is_some o ≡ true → is_none (option_map (λ (c : Claim). c.verdict) o) ≡ false
has_verdict None is = absurd (cc is)
has_verdict (Some claim) is = refl

module _ (one : OneAnswer) where
  one_verdict : (s : RunState) (r : ℕ) (v w : Option Verdict) → IfSome v (IsOptimalIn s.platform (collection_tree s).nodes r (base_of s.book r))
      → IfSome w (IsOptimalIn s.platform (collection_tree s).nodes r (base_of s.book r)) → is_none v ≡ false → is_none w ≡ false → v ≡ w
  one_verdict s r None w x y e f = absurd (cc e)
  one_verdict s r (Some v) None x y e f = absurd (cc f)
  one_verdict s r (Some v) (Some w) x y e f = ap Some (same_verdict v w (one s.platform _ (shape_of (collection_tree s).nodes r) v w x y))

  pub one_decision : (s : RunState) (c e : Claimed) → Allows s.platform s.book (Decided c) → Allows s.platform s.book (Decided e)
      → is_none (answer_of c).verdict ≡ false → is_none (answer_of e).verdict ≡ false → answer_of c ≡ answer_of e
  one_decision s c e x y f g =
      let own : c.domain ≡ e.domain = same_Some c.domain e.domain (sym x.0 ∙ y.0) in
      let first = claims_optimal s.platform (collection_tree s).nodes c.domain (base_of s.book c.domain) c.claim x.1 in
      let second = claims_optimal s.platform (collection_tree s).nodes e.domain (base_of s.book e.domain) e.claim y.1 in
      let there = subst (λ r. IfSome (answer_of e).verdict (IsOptimalIn s.platform (collection_tree s).nodes r (base_of s.book r))) (sym own) second in
      same_decision (answer_of c) (answer_of e) own (one_verdict s c.domain (answer_of c).verdict (answer_of e).verdict first there f g)
