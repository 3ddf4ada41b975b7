use Rattle.std.proofs.Common.{sym, ◌∙◌}
use Rattle.sysmem_image.proofs.Slots.{none_for_no_image, item_copied}
use Rattle.sysmem_image.proofs.first_matches.FirstMatches.entry_for.Goals as goal

pub returns-in-NoImage : goal.returns-in-NoImage
returns-in-NoImage c = rw c.in-NoImage.is (none_for_no_image c.args.self.now)

pub returns-in-Image : goal.returns-in-Image
returns-in-Image c =
    rw c.in-Image.is (sym (item_copied c.self.inside.entries.now c.first_for.result c.get.result c.get.ensures.lookup) ∙ rw c.self.view_is (c.first_for.ensures c.in-Image.field-1))
