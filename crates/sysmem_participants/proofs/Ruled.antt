-- What is true of a ruling, and of a claim that was made from what was frozen.
use Rattle.std.proofs.Common.{◌≡◌, ◌∙◌, ℕ, List, Option, None, Some, Result, Ok, Err, refl, ap, sym, subst}
use Rattle.std.specs.Prelude.{IfErr, IfOk, option_map}
use Rattle.sysmem_alloc.specs.Book.{BookFacts}
use Rattle.sysmem_alloc.specs.Frozen.{FrozenFacts, frozen_of}
use Rattle.sysmem_alloc.specs.State.{base_of, next_ready}
use Rattle.verdict_claims.specs.declared.certificate.Claim.{Claim as AClaim}
use Rattle.verdict_claims.specs.declared.certificate.Proof.{Proof}
use Rattle.verdict_claims.specs.declared.verdict.Verdict.{Verdict}
use Rattle.verdict_claims.specs.Base.{BaseFacts}
use Rattle.verdict_claims.specs.Claim.{IsProofIn, IsTrueClaim}
use Rattle.verdict_claims.specs.Verdict.{IsOptimalIn}
use Rattle.sysmem_room.specs.declared.outcome.Outcome.TheVariants as outcomes
use Rattle.sysmem_room.specs.Ruling.{RulingFacts, IsRuling}
use Rattle.negotiation_inputs.specs.Platform.{PlatformFacts}
use Rattle.negotiation_inputs.specs.Participant.{Participant}
use Rattle.sysmem_tree.specs.declared.refusal.Refusal.{Refusal}
use Rattle.sysmem_tree.specs.Domain.{TreeFacts}
use Rattle.sysmem_participants.specs.Told.{Asks, IsChosenFor, IsRefusedBy, IsShownAt, IsTold}

-- a ruling's claim makes it one
pub ruled : (r : RulingFacts) (claim : AClaim) → claim ≡ r.claim → IsTrueClaim r.frozen.platform r.frozen.tree.nodes r.frozen.domain r.frozen.base claim → IsRuling r
ruled r claim is right = subst (IsTrueClaim r.frozen.platform r.frozen.tree.nodes r.frozen.domain r.frozen.base) is right

-- what is shown of a ruling may be shown
pub shown_at : {V : Type 0} (shown : Result V Refusal) (at : V → RulingFacts) (r : RulingFacts) (platform : PlatformFacts) (path : List ℕ) (asked : Option Participant) → IsRuling r
    → r.frozen.platform ≡ platform → IfOk shown (λ v. at v ≡ r) → IfOk shown (λ v. IsChosenFor path (at v).frozen (at v).claim.verdict) → IfOk shown (λ v. Asks (at v).frozen path asked)
    → IfOk shown (λ v. IsShownAt platform path asked (at v))
shown_at (Ok v) at r platform path asked right is_for same chosen own = record {
  right = subst IsRuling (sym same) right;
  is_for = ap (λ (x : RulingFacts). x.frozen.platform) same ∙ is_for;
  chosen = chosen;
  own = own;
}
shown_at (Err e) at r platform path asked right is_for same chosen own = tt

-- how a ruling refuses a view, where it is for this platform
pub refused_for : {V : Type 0} (shown : Result V Refusal) (r : RulingFacts) (platform : PlatformFacts) (path : List ℕ) (asked : Option Participant) → r.frozen.platform ≡ platform
    → IfErr shown (IsRefusedBy r.frozen.platform path asked r) → IfErr shown (IsTold platform path asked (outcomes.Decided r))
refused_for (Ok v) r platform path asked is_for told = tt
refused_for (Err e) r platform path asked is_for told = subst (λ p. IsRefusedBy p path asked r e) is_for told

-- a verdict that is optimal and what proves it are a true claim
pub put_together : (p q : PlatformFacts) (t u : TreeFacts) (d e : ℕ) (a b : Option BaseFacts) (v : Verdict) (by : Proof) → p ≡ q → t ≡ u → d ≡ e → a ≡ b
    → IsOptimalIn p t.nodes d a v → IsProofIn p t.nodes d a v by → IsTrueClaim q u.nodes e b (record { verdict = v; proof = by })
put_together p q t u d e a b v by pq tu de ab optimal proved =
    let claim : AClaim = record { verdict = v; proof = by } in
    let one : IsTrueClaim p t.nodes d a claim = record { optimal = optimal; proved = proved } in
    let two : IsTrueClaim p t.nodes d b claim = subst (λ x. IsTrueClaim p t.nodes d x claim) ab one in
    let three : IsTrueClaim p t.nodes e b claim = subst (λ x. IsTrueClaim p t.nodes x b claim) de two in
    let four : IsTrueClaim p u.nodes e b claim = subst (λ (x : TreeFacts). IsTrueClaim p x.nodes e b claim) tu three in
    subst (λ x. IsTrueClaim x u.nodes e b claim) pq four

-- where nothing is to be frozen no domain waits
pub none_next : (b : BookFacts) → frozen_of b ≡ None → next_ready b.state ≡ None
none_next b none = by (next_ready b.state) none where
  by : (r : Option ℕ) → ◌≡◌ {A = Option FrozenFacts} (option_map (λ d. record { platform = b.platform; tree = b.state.tree; domain = d; base = base_of b.state d }) r) None → r ≡ None
  by None is = refl
  by (Some d) is = absurd (cc)
