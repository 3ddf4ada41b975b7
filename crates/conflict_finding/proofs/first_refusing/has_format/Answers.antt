-- By the entry for the offer, or by having none.
use Rattle.std.proofs.Common.{option_copied, sym, ◌∙◌, ap}
use Rattle.conflict_finding.proofs.TakenOffers.{format_by_entry, format_by_none}
use Rattle.conflict_finding.proofs.first_refusing.has_format.Goals as goal

pub returns-in-Some : goal.returns-in-Some
returns-in-Some c = λ d same. format_by_entry c.args.offer.now d c.args.entries.now same c.in-Some._entry.now (sym c.entry_for.ensures ∙ ap option_copied c.in-Some.is)

pub returns-in-None : goal.returns-in-None
returns-in-None c = λ d same. format_by_none c.args.offer.now d c.args.entries.now same (sym c.entry_for.ensures ∙ ap option_copied c.in-None.is) c.is_empty.result c.is_empty.ensures
