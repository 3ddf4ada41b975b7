-- One more is read.
use Rattle.std.proofs.Common.{length, take, sym, ap, ◌∙◌, subst, arith}
use Rattle.offer_fits.specs.Demands.{offer_demands}
use Rattle.sysmem_merge.specs.OfferRead.{IsOfferRead}
use Rattle.verdict_claims.specs.Roll.{asked_by, listed}
use Rattle.verdict_claims.proofs.OnRoll.{offers_more, asked_whole}
use Rattle.sysmem_proof.proofs.Yielded.{comes, all_came}
use Rattle.sysmem_proof.proofs.asked.read_of.Goals as goal

pub loop-path-preserved : goal.loop-path-preserved
loop-path-preserved c =
    let here = comes c.args.paths.now (c.into_iter-path-iterator.ensures.into_iter_gives ∙ c.iter-path-items.ensures) c.loop-path.yielded _ c.loop-path.yielded_by _ _ c.in-Some.path c.in-Some.is c.next.ensures.steps in
    subst (λ ds. IsOfferRead c.args.offer.now ds c.add_read.new.read)
    (offers_more (listed c.args.roll.now) c.args.paths.now (length c.loop-path.yielded) c.in-Some.path.now _ here.inside here.is c.at.ensures
    ∙ ap (λ k. offer_demands (asked_by (listed c.args.roll.now) (take k c.args.paths.now))) (sym here.one_more))
    (c.add_read.ensures c.args.offer.now _ c.loop-path.invariant)

pub returns : goal.returns
returns c = subst (λ ps. IsOfferRead c.args.offer.now (offer_demands ps) c.loop-path.read)
    (asked_whole (listed c.args.roll.now) c.args.paths.now (length c.loop-path.yielded)
    (let all = all_came c.args.paths.now (c.into_iter-path-iterator.ensures.into_iter_gives ∙ c.iter-path-items.ensures) c.loop-path.yielded _ c.loop-path.yielded_by _ _ c.in-None.is c.next.ensures.steps in omega (arith, all)))
    c.loop-path.invariant
