-- One more participant, or the one that is amiss.
use Rattle.std.proofs.Common.{IsSomeAnd, subst, sym}
use Rattle.std.specs.List.{AllZip}
use Rattle.std.proofs.lemmas.List.{take_all}
use Rattle.std.proofs.lemmas.Option.{slice_get-get_or}
use Rattle.flat_negotiation.specs.Said.{IsParticipantAmiss, IsParticipantSaid}
use Rattle.flat_negotiation.proofs.Lists.{zip-more}
use Rattle.flat_negotiation.proofs.said.participants_of.Goals as goal

pub loop-who-preserved : goal.loop-who-preserved
loop-who-preserved c =
    zip-more IsParticipantSaid c.args.flats.now c.loop-who.asked.items c.pushed.new.list.items c.loop-who.who _ c.in-Ok.constraints c.loop-who-test.true c.loop-who.invariant c.in-Ok.ensures.said c.in_ok-pushed-in-Ok.ensures

pub returns-clause-said : goal.returns-clause-said
returns-clause-said c = subst (λ l. AllZip IsParticipantSaid l c.loop-who.asked.items) (take_all c.loop-who.who c.args.flats.now c.loop-who-test.false) c.loop-who.invariant

pub returns-in-Err-Misstated-clause-amiss : goal.returns-in-Err-Misstated-clause-amiss
returns-in-Err-Misstated-clause-amiss c =
    let there = slice_get-get_or c.args.flats.now c.loop-who.who _ c.loop-who-test.true in
    let amiss = rw c.in-Err-Misstated.field-0-is at c.in-Err-Misstated.ensures.amiss in
    rw c.in-Err-Misstated.amiss-is (subst (λ o. IsSomeAnd o (λ flat. IsParticipantAmiss flat c.in-Err-Misstated.amiss)) (sym there) amiss)
