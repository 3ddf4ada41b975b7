-- What settings say of images: a fit.
use Rattle.offer_fits.specs.declared.fit.Fit.{Fit}
pub use Rattle.offer_fits.specs.Fit.{OwnWithoutImage, IsSoundFit, CoversFit, MeetsFit}
pub use Rattle.offer_fits.specs.Fit.{IsNoBetterFit, IsBestFit}
use Rattle.sysmem_merge.specs.declared.settings.Settings.{Settings}

-- what settings say of images
abbrev pub fit_of : Settings → Fit
fit_of s = record { offer = s.offer; bounds = s.bounds; size_bytes = s.size_bytes }
