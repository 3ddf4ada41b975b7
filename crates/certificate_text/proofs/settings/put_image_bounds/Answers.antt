use Rattle.certificate_text.proofs.settings.put_image_bounds.Goals as goal

pub returns-in-Image : goal.returns-in-Image
returns-in-Image c = rw c.in-Image.is c.put_bounds.ensures
