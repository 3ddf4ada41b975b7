use Rattle.sysmem_image.proofs.keeping.keeps_field.Goals as goal

pub returns : goal.returns
returns c = rw c.effective-asked.ensures at c.keeps_in.ensures
