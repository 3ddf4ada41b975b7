use Rattle.sysmem_image.proofs.keeping.first_failing.Goals as goal

pub returns-clause-kept : goal.returns-clause-kept
returns-clause-kept c = rw c.effective-asked.ensures at c.failing_field.ensures.kept

pub returns-clause-failing : goal.returns-clause-failing
returns-clause-failing c = rw c.effective-asked.ensures at c.failing_field.ensures.failing
