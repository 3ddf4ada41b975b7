use Rattle.std.proofs.Common.{◌≡◌, ◌==◌, List, length, sym, ap, ◌∙◌}
use Rattle.std.specs.Prelude.{None}
use Rattle.sysmem_formats.specs.declared.colour_space.ColourSpace.TheVariants.{Srgb}
use Rattle.sysmem_formats.specs.declared.offer.Offer.{Offer}
use Rattle.sysmem_formats.specs.declared.offer.Offer.TheVariants.{Image}
use Rattle.sysmem_image.specs.declared.entry.Entry.{Entry}
use Rattle.sysmem_image.specs.Entries.{first_match}
use Rattle.sysmem_merge.proofs.PairKeeping.{without_entry, without_entries}
use Rattle.sysmem_merge.proofs.pair.KeptPair.add.Goals as goal

pub returns-then-not-is_empty : goal.returns-then-not-is_empty
returns-then-not-is_empty c ds d same kept =
    let found : None ≡ first_match (Image c.args.pair Srgb) d.entries = c.in-None.ensures ∙ (ap (λ (o : Offer). first_match o c.args.matches.now) c.any_offer.ensures ∙ ap (first_match (Image c.args.pair Srgb)) (sym same)) in
    without_entry c.args.pair ds d c.args.self.now c.refuse.new.self found
    (ap (λ (es : List Entry). length es == 0) same ∙ (sym c.is_empty.ensures ∙ c.if-not-is_empty.true))
    (record { first = c.refuse.ensures.first; still = c.refuse.ensures.still }) kept

pub returns-else-not-is_empty : goal.returns-else-not-is_empty
returns-else-not-is_empty c ds d same kept =
    let found : None ≡ first_match (Image c.args.pair Srgb) d.entries = c.in-None.ensures ∙ (ap (λ (o : Offer). first_match o c.args.matches.now) c.any_offer.ensures ∙ ap (first_match (Image c.args.pair Srgb)) (sym same)) in
    without_entries c.args.pair ds d c.args.self.now found
    (ap (λ (es : List Entry). length es == 0) same ∙ (sym c.is_empty.ensures ∙ c.if-not-is_empty.false)) kept
