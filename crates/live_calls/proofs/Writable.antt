-- C has words for settings that are sound, of a format that has a code.
use Rattle.std.proofs.Common.{◌≡◌, refl}
use Rattle.sysmem_formats.specs.declared.offer.Offer.{Offer}
use Rattle.sysmem_formats.specs.declared.offer.Offer.TheVariants.{NoImage, Image}
use Rattle.offer_fits.specs.Fit.{IsSoundFit}
use Rattle.sysmem_merge.specs.Fit.{fit_of}
use Rattle.sysmem_merge.specs.declared.settings.Settings.{Settings}
use Rattle.negotiation_inputs.specs.Platform.{PlatformFacts}
use Rattle.flat_negotiation.specs.Written.{CanBeWritten, HoldsOffer}
use Rattle.live_calls.specs.Settings.{HasCode, IsWritable}

holds : (o : Offer) (s : Settings) → s.offer ≡ o → HasCode o → IsSoundFit (fit_of s) → HoldsOffer o s
holds NoImage s is code sound = tt
holds (Image pair colour) s is code sound = record { code = code; offer = is; sound = sound }

pub can_be_written : (p : PlatformFacts) (s : Settings) → IsWritable p s → CanBeWritten s
can_be_written p s writable = holds s.offer s refl writable.code writable.sound.1.fit
