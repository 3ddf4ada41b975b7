-- With one more there are still settings, or none; at the end only names are missing.
use Rattle.std.proofs.Common.{◌≡◌, ◌⊎◌, inr, length, take, true, false, refl, subst, arith}
use Rattle.std.specs.Prelude.{IfSome, IsSome}
use Rattle.sysmem_merge.specs.Aggregate.{StandsFor}
use Rattle.sysmem_merge.specs.Best.{IsBest, IsUnmet}
use Rattle.sysmem_merge.specs.Reasons.{IsFirstReason}
use Rattle.flat_negotiation.proofs.Lists.{so-all, so-more}
use Rattle.flat_negotiation.proofs.settling.stop_of.Goals as goal

pub returns-in-Err : goal.returns-in-Err
returns-in-Err c =
    let asked = c.args.asked.now in
    let platform = c.args.platform.now in
    let stands = c.in_ok-add.ensures.ok platform (take c.loop-who.who asked) c.loop-who.invariant.0 in
    record {
      who = c.loop-who-test.true;
      shared = c.loop-who.invariant.2;
      before = c.loop-who.invariant.3;
      unmet = so-more (λ l. IsUnmet false platform l) asked c.loop-who.who c.index-asked-who.result c.loop-who-test.true c.index-asked-who.is (c.in-Err.ensures.none platform _ stands);
      reason = so-more (λ l. IsFirstReason false platform l c.in-Err.reason) asked c.loop-who.who c.index-asked-who.result c.loop-who-test.true c.index-asked-who.is (c.in-Err.ensures.reason platform _ stands);
    }

pub loop-who-preserved : goal.loop-who-preserved
loop-who-preserved c =
    let asked = c.args.asked.now in
    let platform = c.args.platform.now in
    let stands = c.in_ok-add.ensures.ok platform (take c.loop-who.who asked) c.loop-who.invariant.0 in (
      so-more (λ l. StandsFor c.add.new.self platform l) asked c.loop-who.who c.index-asked-who.result c.loop-who-test.true c.index-asked-who.is stands,
      omega (arith, c.in_ok-add.ensures.grows, c.loop-who.invariant.1),
      so-more (λ l. IsBest false platform l c.in-Ok.settings) asked c.loop-who.who c.index-asked-who.result c.loop-who-test.true c.index-asked-who.is (c.in-Ok.ensures.best platform _ stands),
      inr refl,
    )

pub returns : goal.returns
returns c =
    let asked = c.args.asked.now in
    let platform = c.args.platform.now in
    let at_end : c.loop-who.who ≡ length asked = omega (arith, c.loop-who-test.false, c.loop-who.auto.who-end) in
    record {
      who = refl;
      shared = subst (λ k. IfSome c.loop-who.shared (IsBest false platform (take k asked))) at_end c.loop-who.invariant.2;
      before = subst (λ k. (k ≡ 0) ⊎ IsSome c.loop-who.shared) at_end c.loop-who.invariant.3;
      unmet = so-all (λ l. IsUnmet true platform l) asked (length asked) (omega arith) c.requires.unmet;
      reason = so-all (λ l. IsFirstReason true platform l c.args.reason) asked (length asked) (omega arith) c.requires.reason;
    }
