-- How a call ends that puts what it made into a handle, or is refused the memory.
use Rattle.std.proofs.Common.{◌≡◌, ◌⊎◌, ℕ, inl, inr, Option, Some, None, true, refl, subst, sym, ◌∙◌}
use Rattle.std.specs.Prelude.{is_some}
use Rattle.node_limits.specs.declared.limits.Limits.{Limits}
use Rattle.live_book.specs.declared.object.Object.{Object}
use Rattle.live_book.specs.declared.object.Object.TheVariants.{Collection, Decision, Platform}
use Rattle.live_book.specs.Collection.{new_within}
use Rattle.live_book.specs.Decision.{DecisionFacts}
use Rattle.live_calls.specs.Deciding.{Decides, decides, decide_starves}
use Rattle.live_calls.specs.Opening.{Opens, opens, open_starves}
use Rattle.negotiation_inputs.specs.Platform.{PlatformFacts}

-- it was put there, or all is as it was
abbrev pub Put : ℕ → Type 0 → Option Object → Option Object → Type 0
Put r IsThere old new = ((r ≡ 0) × IsThere) ⊎ ((r ≡ 4) × (new ≡ old))

pub decided_by : (before old new : Option Object) (d e : DecisionFacts) (r : ℕ) → before ≡ Some (Decision d) → old ≡ None → e.frozen ≡ d.frozen → is_some e.claim ≡ true
    → Put r (new ≡ Some (Decision e)) old new → Decides before new r
decided_by before old new d e r was taken same claimed (inl put) = subst (λ k. Decides before new k) (sym put.0) (decides d e was put.1 same claimed)
decided_by before old new d e r was taken same claimed (inr kept) = subst (λ k. Decides before new k) (sym kept.0) (decide_starves d was (kept.1 ∙ taken))

pub opened_by : (limits : Limits) (old new : Option Object) (p : PlatformFacts) (r : ℕ) → Put r (new ≡ Some (Collection (new_within limits p))) old new → Opens limits (Some (Platform p)) old new r
opened_by limits old new p r (inl put) = subst (λ k. Opens limits (Some (Platform p)) old new k) (sym put.0) (opens p refl put.1)
opened_by limits old new p r (inr kept) = subst (λ k. Opens limits (Some (Platform p)) old new k) (sym kept.0) (open_starves p refl kept.1)
