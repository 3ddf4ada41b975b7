-- The kinds need no escape.
use Rattle.std.proofs.Common.{codes, ap, ap₂, sym, ◌∙◌}
use Rattle.certificate_text.specs.Told.{conflict_data, named_data}
use Rattle.certificate_text.proofs.LineText.{count_plain, places_plain, offers_plain, told_as}
use Rattle.certificate_text.proofs.text.push_conflict.Goals as goal

pub returns-in-Count : goal.returns-in-Count
returns-in-Count c = told_as c.push_named.result c.args.out.now.items c.push_named.new.out.items (named_data (codes "count") c.field.result c.nodes.result.now) (conflict_data c.args.conflict.now)
    (ap₂ (λ f ns. named_data (codes "count") f ns) c.field.ensures c.nodes.ensures ∙ ap conflict_data (sym c.in-Count.is)) (c.push_named.ensures count_plain)

pub returns-in-Places : goal.returns-in-Places
returns-in-Places c = told_as c.push_lines.result c.args.out.now.items c.push_lines.new.out.items _ (conflict_data c.args.conflict.now)
    (ap conflict_data (sym c.in-Places.is)) (c.push_lines.ensures places_plain)

pub returns-in-Offers : goal.returns-in-Offers
returns-in-Offers c = told_as c.push_lines-in-Offers.result c.args.out.now.items c.push_lines-in-Offers.new.out.items _ (conflict_data c.args.conflict.now)
    (ap conflict_data (sym c.in-Offers.is)) (c.push_lines-in-Offers.ensures offers_plain)
