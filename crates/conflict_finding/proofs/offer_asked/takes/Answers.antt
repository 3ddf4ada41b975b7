-- By the entry for the offer, or by having none.
use Rattle.std.proofs.Common.{option_copied, sym, ◌∙◌, ap}
use Rattle.offer_fits.specs.Demands.{offer_demand}
use Rattle.conflict_finding.proofs.TakenOffers.{listed_by_entry, listed_by_none}
use Rattle.conflict_finding.proofs.offer_asked.takes.Goals as goal

pub returns-in-Some : goal.returns-in-Some
returns-in-Some c = λ p same yes'. listed_by_entry c.args.offer.now (offer_demand p) c.args.entries.now same c.in-Some.entry.now (sym c.entry_for.ensures ∙ ap option_copied c.in-Some.is) c.takes_colour.result c.takes_colour.ensures yes'

pub returns-in-None : goal.returns-in-None
returns-in-None c = λ p same yes'. listed_by_none c.args.offer.now (offer_demand p) c.args.entries.now same (sym c.entry_for.ensures ∙ ap option_copied c.in-None.is) c.is_empty.result c.is_empty.ensures yes'
