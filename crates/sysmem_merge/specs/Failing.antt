-- In which field settings fail a participant.
use Rattle.std.specs.Prelude.{◌≡◌, ◌⊎◌, ◌<◌, true, false, List, [], ◌∷◌, ◌++◌, map}
use Rattle.std.specs.Prelude.{Some, IsSomeAnd, slice_get}
use Rattle.sysmem_counts.specs.declared.field.Field.{Field}
use Rattle.sysmem_counts.specs.declared.field.Field.TheVariants.{PixelFormat, ColorSpaces}
use Rattle.sysmem_counts.specs.declared.field.Field.TheVariants.{MinSizeBytes, MaxSizeBytes}
use Rattle.sysmem_image.specs.Bounds.{KeepsField}
use Rattle.sysmem_image.specs.Fields.{all_bounds, field_of}
use Rattle.sysmem_memory.specs.Heap.{HeapFacts}
use Rattle.sysmem_memory.specs.PlaceTable.{refuses_by, place_fields}
use Rattle.sysmem_merge.specs.declared.settings.Settings.{Settings}
use Rattle.sysmem_merge.specs.Demands.{offer_demand}
use Rattle.sysmem_merge.specs.First.{IsFirstOf}
use Rattle.sysmem_merge.specs.Offers.{has_format, has_colour, entry_bounds}
use Rattle.negotiation_inputs.specs.Participant.{Participant}
use Rattle.negotiation_inputs.specs.Platform.{PlatformFacts}

-- the settings fail the participant in the field: in the offer, a size, a bound of its
-- entry for the offer, or the place
abbrev pub FailsIn : Field → HeapFacts → Settings → Participant → Type 0
FailsIn PixelFormat heap s p = has_format s.offer (offer_demand p) ≡ false
FailsIn ColorSpaces heap s p = has_colour s.offer (offer_demand p) ≡ false
FailsIn MinSizeBytes heap s p = s.size_bytes < p.memory.min_size_bytes
FailsIn MaxSizeBytes heap s p = p.memory.max_size_bytes < s.size_bytes
FailsIn field heap s p =
    IsSomeAnd (entry_bounds s.offer (offer_demand p)) (λ b. ¬ KeepsField field s.bounds b)
    ⊎ (refuses_by field p.memory p.usage heap s.place.coherency ≡ true)

-- the fields of the offer and of its bounds
abbrev pub offer_fields : List Field
offer_fields = PixelFormat ∷ ColorSpaces ∷ map field_of all_bounds

-- the fields of the size
abbrev pub size_fields : List Field
size_fields = MinSizeBytes ∷ MaxSizeBytes ∷ []

-- the fields in which settings can fail a participant, in their order: the offer's, its
-- bounds, the size's and the place's
abbrev pub failing_fields : List Field
failing_fields = offer_fields ++ size_fields ++ place_fields

-- the settings fail the participant in the field, in their heap of the platform
pub record FailsOn (field : Field) (platform : PlatformFacts) (s : Settings)
    (p : Participant) : Type 0 where
  pub heap : HeapFacts
  pub has : slice_get platform.heaps s.place.heap ≡ Some heap
  pub fails : FailsIn field heap s p

-- the field is the first in which the settings fail the participant, in their heap of the platform
pub record IsFirstUncovered (field : Field) (platform : PlatformFacts) (s : Settings)
    (p : Participant) : Type 0 where
  pub heap : HeapFacts
  pub has : slice_get platform.heaps s.place.heap ≡ Some heap
  pub first : IsFirstOf (λ f. FailsIn f heap s p) failing_fields field
