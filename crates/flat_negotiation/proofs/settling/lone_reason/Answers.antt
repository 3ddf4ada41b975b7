-- What is kept of one alone stands for it.
use Rattle.std.proofs.Common.{subst, false, inr}
use Rattle.sysmem_merge.specs.Best.{IsBest, IsUnmet}
use Rattle.sysmem_merge.specs.Reasons.{IsFirstReason}
use Rattle.flat_negotiation.proofs.settling.lone_reason.Goals as goal

pub returns-in-Ok : goal.returns-in-Ok
returns-in-Ok c =
    let platform = c.args.platform.now in
    inr (c.in-Ok.field-0, subst (λ l. IsBest false platform l c.in-Ok.field-0) c.alone.ensures (c.in-Ok.ensures.best platform c.alone.result.now c.in_ok-aggregate.ensures))

pub returns : goal.returns
returns c =
    let platform = c.args.platform.now in (
      c.if-stop.false,
      record {
        unmet = subst (λ l. IsUnmet false platform l) c.alone.ensures (c.in-Err.ensures.none platform c.alone.result.now c.in_ok-aggregate.ensures);
        first = subst (λ l. IsFirstReason false platform l c.in-Err.reason) c.alone.ensures (c.in-Err.ensures.reason platform c.alone.result.now c.in_ok-aggregate.ensures);
      },
    )
