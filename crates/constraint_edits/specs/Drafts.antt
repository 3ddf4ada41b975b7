-- What a draft of a participant stands for.
use Rattle.negotiation_inputs.specs.Participant.{Participant}
use Rattle.sysmem_image.specs.declared.size.Size.{Size}
use Rattle.sysmem_image.specs.Fields.{Range, AnyValue, SomeValue, MultipleValue, FromOne}
use Rattle.constraint_edits.specs.declared.applying.Draft.{Draft}
use Rattle.constraint_edits.specs.declared.applying.values.Extent.{Extent}
use Rattle.constraint_edits.specs.declared.applying.values.Reading.{Reading}
use Rattle.constraint_edits.specs.declared.applying.values.Reading.TheVariants as reading

-- the participant that is drafted
abbrev pub drafted : Draft → Participant
drafted d =
    record { usage = d.usage; counts = d.counts; memory = d.memory; entries = d.entries.items }

-- the size of this extent
abbrev pub size_of : Extent → Size
size_of e = record { width = e.width; height = e.height }

-- which values are read
abbrev pub range_seen : Reading → Range
range_seen reading.Any = AnyValue
range_seen reading.Some = SomeValue
range_seen reading.Multiple = MultipleValue
range_seen reading.FromOne = FromOne
