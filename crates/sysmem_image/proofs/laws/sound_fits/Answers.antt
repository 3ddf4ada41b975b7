use Rattle.sysmem_image.proofs.Sound.{fits_image}
use Rattle.sysmem_image.proofs.laws.sound_fits.Goals as goal

pub returns : goal.returns
returns c = fits_image
