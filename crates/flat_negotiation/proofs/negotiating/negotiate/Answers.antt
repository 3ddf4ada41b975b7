-- There are as many participants as structs, and what is best for them can be written.
use Rattle.std.proofs.Common.{◌≡◌, length, arith, ap, subst, true}
use Rattle.std.proofs.lemmas.Result.{IfOk-weaker}
use Rattle.std.proofs.lemmas.Slice.Zip.{AllZip-long}
use Rattle.sysmem_merge.specs.Best.{IsBest}
use Rattle.flat_negotiation.specs.Said.{IsParticipantSaid}
use Rattle.flat_negotiation.proofs.Writable.{writable}
use Rattle.flat_negotiation.proofs.negotiating.negotiate.Goals as goal

pub settled-requires : goal.settled-requires
settled-requires c =
    let same : length c.deref.result.now ≡ length c.in_ok-asked.asked.items = ap length c.deref.ensures.value in
    omega (arith, same, AllZip-long IsParticipantSaid c.args.participants.now c.in_ok-asked.asked.items c.in_ok-asked.ensures.said, c.if-participants-gt-MOST_PARTICIPANTS.false)

pub returns-clause-best : goal.returns-clause-best
returns-clause-best c =
    IfOk-weaker c.settled.result _ _ (λ s best. record {
      platform = c.in-Ok.platform;
      participants = c.in_ok-asked.asked.items;
      said = record { platform = c.in-Ok.ensures.said; participants = c.in_ok-asked.ensures.said };
      best = subst (λ l. IsBest true c.in-Ok.platform l s) c.deref.ensures.value best;
    }) c.settled.ensures.best

pub returns-clause-written : goal.returns-clause-written
returns-clause-written c = IfOk-weaker c.settled.result _ _ (λ s best. writable c.args.platform.now c.in-Ok.platform c.deref.result.now s c.in-Ok.ensures.said best) c.settled.ensures.best
