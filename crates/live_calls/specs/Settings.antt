-- Settings as a C program is told them.
use Rattle.std.specs.Prelude.{◌≡◌, ℕ, IsSome}
use Rattle.drm_images.specs.Codes.{fourcc}
use Rattle.flat_negotiation.specs.Written.{IsWritten, domain_code, no_image}
use Rattle.flat_negotiation.specs.declared.flat.FlatSettings.{FlatSettings}
use Rattle.sysmem_formats.specs.declared.offer.Offer.{Offer}
use Rattle.sysmem_formats.specs.declared.offer.Offer.TheVariants.{NoImage, Image}
use Rattle.sysmem_memory.specs.Heap.{HeapFacts}
use Rattle.sysmem_merge.specs.Settings.{IsSound}
use Rattle.sysmem_merge.specs.declared.settings.Settings.{Settings}
use Rattle.negotiation_inputs.specs.Platform.{PlatformFacts}

-- C has a code for the format, as for each but `L8`
abbrev pub HasCode : Offer → Type 0
HasCode NoImage = Unit {0}
HasCode (Image pair colour) = IsSome (fourcc pair.format)

-- settings that the platform can provide, of a format that has a code
pub record IsWritable (platform : PlatformFacts) (s : Settings) : Type 0 where
  pub code : HasCode s.offer
  pub sound : (heap : HeapFacts) × IsSound platform heap s

-- settings without their image
abbrev pub without_image : ℕ → Settings → FlatSettings
without_image size s = record {
  struct_size = size;
  bytes = s.size_bytes;
  heap = s.place.heap;
  count = s.count;
  coherency = domain_code s.place.coherency;
  image = no_image;
}

-- what is told of settings in a struct of this size: all of them; or, where C has no words for the
-- image, the others
pub record IsShown (platform : PlatformFacts) (size : ℕ) (s : Settings)
    (flat : FlatSettings) : Type 0 where
  pub written : IsWritable platform s → IsWritten size s flat
  pub other : ¬ IsWritable platform s → flat ≡ without_image size s
