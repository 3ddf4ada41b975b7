use Rattle.std.proofs.Common.{sym, ap, ◌∙◌}
use Rattle.sysmem_image.specs.Entries.{first_match}
use Rattle.sysmem_merge.proofs.Accepting.{accepts_entry}
use Rattle.sysmem_merge.proofs.meets.accepts_offer.Goals as goal

pub returns-then-takes_colour : goal.returns-then-takes_colour
returns-then-takes_colour c d same =
    let offer = c.args.settings.now.offer in
    let found = c.in-Some.ensures ∙ ap (first_match offer) (sym same) in
    let takes = sym c.takes_colour.ensures ∙ c.if-takes_colour.true in
    accepts_entry offer c.args.settings.now.bounds d c.in-Some.entry.now c.first_failing.result c.is_none.result found takes c.is_none.ensures c.first_failing.ensures.kept c.first_failing.ensures.failing
