-- All take it where as many do as there are.
use Rattle.std.proofs.Common.{rules}
use Rattle.conflict_finding.specs.OfferAsked.{TakesOffer}
use Rattle.conflict_finding.proofs.FirstOnes.{all_have}
use Rattle.conflict_finding.proofs.offer_asked.OfferAsked.all_take.Goals as goal

pub returns-clause-asked : goal.returns-clause-asked
returns-clause-asked c = record { takes = c.count_taking-self.ensures; few = c.requires.asked.few; reads = c.requires.asked.reads }

pub returns-clause-take : goal.returns-clause-take
returns-clause-take c = λ yes'. all_have c.args.tree.now.nodes c.args.row.now c.count_taking-self.result (TakesOffer c.args.self.now.offer) (search (rules, yes')) c.count_taking-self.ensures
