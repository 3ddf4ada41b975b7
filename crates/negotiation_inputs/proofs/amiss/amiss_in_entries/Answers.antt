-- One entry more may be so, or is amiss.
use Rattle.std.proofs.Common.{arith}
use Rattle.negotiation_inputs.specs.Participant.{IsEntry}
use Rattle.negotiation_inputs.proofs.NoneTwice.{all-left, all-more}
use Rattle.negotiation_inputs.proofs.Refused.{entry-at}
use Rattle.negotiation_inputs.proofs.amiss.amiss_in_entries.Goals as goal

pub returns-in-Some : goal.returns-in-Some
returns-in-Some c = entry-at c.in-Some.field c.args.entries.now c.loop-entry.entry-index c.entry-item.result c.loop-entry-test.true c.entry-item.is c.in-Some.ensures

pub loop-entry-preserved : goal.loop-entry-preserved
loop-entry-preserved c = all-more IsEntry c.args.entries.now c.loop-entry.entry-index c.entry-item.result c.loop-entry-test.true c.entry-item.is c.loop-entry.invariant c.in-None.ensures

pub returns : goal.returns
returns c = all-left IsEntry c.args.entries.now c.loop-entry.entry-index (omega (arith, c.loop-entry-test.false)) c.loop-entry.invariant
