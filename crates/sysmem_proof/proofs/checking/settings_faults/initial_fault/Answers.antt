-- What nodes ask, in any order.
use Rattle.std.proofs.Common.{inl, inr, refl}
use Rattle.std.proofs.lemmas.List.Sorted.{IsPermutation-sym}
use Rattle.verdict_claims.specs.Asked.{asked_in}
use Rattle.verdict_claims.specs.Members.{participants}
use Rattle.sysmem_proof.proofs.Meeting.{meets_in_order, least_in_order}
use Rattle.sysmem_proof.proofs.checking.settings_faults.initial_fault.Goals as goal

pub returns-then-not-is_met : goal.returns-then-not-is_met
returns-then-not-is_met c = λ ms order. inl (
  (λ met.
      let asked = asked_in c.args.tree.now.nodes c.args.nodes.now in
      let yes' = c.is_met.ensures.1 (meets_in_order c.args.platform.now c.args.settings.now (participants ms) asked (IsPermutation-sym asked (participants ms) order) met) in
      let no' = c.if-not-is_met.true in absurd (cc)),
  refl,
)

pub returns-then-not-is_least : goal.returns-then-not-is_least
returns-then-not-is_least c = λ ms order.
    let asked = asked_in c.args.tree.now.nodes c.args.nodes.now in
    inr (
      meets_in_order c.args.platform.now c.args.settings.now asked (participants ms) order (c.is_met.ensures.0 c.if-not-is_met.false),
      inl (
        (λ least.
            let yes' = c.is_least.ensures.1 (least_in_order c.args.platform.now c.args.settings.now (participants ms) asked (IsPermutation-sym asked (participants ms) order) least) in
            let no' = c.if-not-is_least.true in absurd (cc)),
        refl,
      ),
    )

pub returns : goal.returns
returns c = λ ms order. least_in_order c.args.platform.now c.args.settings.now (asked_in c.args.tree.now.nodes c.args.nodes.now) (participants ms) order (c.is_least.ensures.0 c.if-not-is_least.false)
