use Rattle.std.proofs.Common.{Some, ◌==◌, List, length, sym, ap, ◌∙◌}
use Rattle.sysmem_image.specs.declared.entry.Entry.{Entry}
use Rattle.sysmem_image.specs.Entries.{first_match}
use Rattle.sysmem_merge.proofs.Keeping.{kept_more, kept_unnamed, kept_formatless, kept_without}
use Rattle.sysmem_merge.proofs.kept.KeptOffer.add.Goals as goal

pub returns-in-Some : goal.returns-in-Some
returns-in-Some c ds d same kept =
    let found = c.in-Some.ensures ∙ ap (first_match c.args.offer.now) (sym same) in
    kept_more c.args.offer.now ds d (Some c.in-Some.entry.now) c.args.self.now c.name.new.self found kept
    (rw c.name.ensures.bounds (c.add.ensures ds d found kept.bounds)) c.name.ensures.format c.name.ensures.modifier c.name.ensures.colour

pub returns-then-not-is_empty : goal.returns-then-not-is_empty
returns-then-not-is_empty c ds d same kept =
    let found = c.in-None.ensures ∙ ap (first_match c.args.offer.now) (sym same) in
    kept_unnamed c.args.offer.now ds d c.args.self.now c.refuse.new.self found kept
    (kept_formatless c.args.offer.now ds d c.args.self.now.bounds c.refuse.new.self found
    (ap (λ (es : List Entry). length es == 0) same ∙ (sym c.is_empty.ensures ∙ c.if-not-is_empty.true))
    (record { first = c.refuse.ensures.first; still = c.refuse.ensures.still }) kept.bounds)

pub returns-else-not-is_empty : goal.returns-else-not-is_empty
returns-else-not-is_empty c ds d same kept =
    let found = c.in-None.ensures ∙ ap (first_match c.args.offer.now) (sym same) in
    kept_unnamed c.args.offer.now ds d c.args.self.now c.args.self.now.bounds found kept
    (kept_without c.args.offer.now ds d c.args.self.now.bounds found (ap (λ (es : List Entry). length es == 0) same ∙ (sym c.is_empty.ensures ∙ c.if-not-is_empty.false)) kept.bounds)
