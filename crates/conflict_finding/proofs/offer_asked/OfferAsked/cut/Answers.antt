-- The first so many are alike.
use Rattle.conflict_finding.proofs.FrontReads.{cut_few, cut_reads, cut_takes}
use Rattle.conflict_finding.proofs.offer_asked.OfferAsked.cut.Goals as goal

pub returns : goal.returns
returns c = λ nodes row other same few was. record {
  takes = cut_takes nodes row other c.args.many same c.args.self.now.offer c.args.self.now.taking _ c.min-self.ensures was.takes;
  few = cut_few c.args.self.now.reads.items _ c.args.many _ c.truncate.ensures.items few;
  reads = cut_reads nodes row other c.args.many same c.args.self.now.offer c.args.self.now.reads.items _ c.truncate.ensures.items was.reads;
}
