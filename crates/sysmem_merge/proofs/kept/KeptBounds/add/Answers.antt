use Rattle.std.proofs.Common.{sym, ◌∙◌}
use Rattle.sysmem_merge.specs.Offers.{bounds_asked}
use Rattle.sysmem_merge.proofs.Keeping.{refused_line, merged_more, still_refused, kept_colourless}
use Rattle.sysmem_merge.proofs.kept.KeptBounds.add.Goals as goal

pub returns-then-not-takes_colour : goal.returns-then-not-takes_colour
returns-then-not-takes_colour c ds d found are =
    let lacks = sym c.takes_colour.ensures ∙ c.if-not-takes_colour.true in
    kept_colourless c.args.offer.now ds d c.args.entry.now c.args.self.now c.refuse.new.self found lacks
    (record { first = c.refuse.ensures.first; still = c.refuse.ensures.still }) are

pub returns-in-Err : goal.returns-in-Err
returns-in-Err c ds d found are =
    let old = rw c.in-Merged.is at are in
    refused_line c.in-Err.field c.in-Err.ensures.steady c.args.offer.now ds d c.args.entry.now found (c.in-Err.ensures.line (bounds_asked c.args.offer.now ds) old.0)

pub returns-in_default-merge_into : goal.returns-in_default-merge_into
returns-in_default-merge_into c ds d found are =
    let old = rw c.in-Merged.is at are in
    let takes = sym c.takes_colour.ensures ∙ c.if-not-takes_colour.false in
    merged_more c.args.offer.now ds d c.args.entry.now c.merge_into.new.bounds found takes old.1 (c.in_default-merge_into.ensures.merged (bounds_asked c.args.offer.now ds) old.0)

pub returns-in_default : goal.returns-in_default
returns-in_default c ds d found are =
    let old = rw c.in_default.is at are in
    rw c.in_default.is (still_refused c.in_default.field-0 c.args.offer.now ds d old)
