-- The last front that was read, or none.
use Rattle.std.proofs.Common.{option_copied, sym, ◌∙◌, ap}
use Rattle.conflict_finding.proofs.FrontReads.{last_of, none_of}
use Rattle.conflict_finding.proofs.offer_asked.last_read.Goals as goal

pub returns-in-Some : goal.returns-in-Some
returns-in-Some c = λ nodes row are. last_of nodes row c.args.offer.now c.args.reads.now c.in-Some.read.now (sym c.last.ensures.value ∙ ap option_copied c.in-Some.is) are

pub returns-in-None : goal.returns-in-None
returns-in-None c = λ nodes row are. none_of nodes row c.args.offer.now c.args.reads.now c.new.result (sym c.last.ensures.value ∙ ap option_copied c.in-None.is) c.new.ensures
