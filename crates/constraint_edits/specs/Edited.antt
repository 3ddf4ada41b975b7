-- What a participant asks after changes of its constraints.
use Rattle.std.specs.Prelude.{ℕ, ◌+◌, ◌-◌, ◌++◌, List, [], ◌∷◌, length, map, set, take, drop, slice_get}
use Rattle.std.specs.Prelude.{fold, Bool, true, ◌==◌, Option, Some, None, option_map}
use Rattle.std.specs.Prelude.{option_and_then, if◌then◌else◌}
use Rattle.sysmem_counts.specs.declared.field.Field.TheVariants as field
use Rattle.sysmem_counts.specs.declared.constraints.CountConstraints.{CountConstraints}
use Rattle.sysmem_counts.specs.declared.field.Field.{Field}
use Rattle.sysmem_counts.specs.declared.usage.Usage.{Usage}
use Rattle.sysmem_counts.specs.Usage.{usage_bits, uses_cpu}
use Rattle.sysmem_formats.specs.declared.colour_space.ColourSpace.{ColourSpace}
use Rattle.sysmem_formats.specs.declared.offer.Pair.{Pair}
use Rattle.sysmem_image.specs.declared.entry.Entry.{Entry}
use Rattle.sysmem_image.specs.Colours.{accepts, no_colours, with_colour}
use Rattle.sysmem_memory.specs.Heap.{HeapFacts, HeapName}
use Rattle.sysmem_memory.specs.Wishes.{MemoryWishes}
use Rattle.negotiation_inputs.specs.Participant.{Participant}
use Rattle.record_reading.specs.Reading.Fields.{same_field}
use Rattle.constraint_edits.specs.declared.amount.Amount.{Amount}
use Rattle.constraint_edits.specs.declared.change.Change.{Change}
use Rattle.constraint_edits.specs.declared.edits.Edit.{Edit}
use Rattle.constraint_edits.specs.declared.edits.Edit.TheVariants as edit
use Rattle.constraint_edits.specs.EditedBounds.{bound_edited, bound_replaced, bound_stated, bounds_exchanged}
use Rattle.constraint_edits.specs.EditedNumbers.{counts_edited, counts_exchanged, memory_edited}
use Rattle.constraint_edits.specs.EditedNumbers.{supporting, sizes_exchanged, unsupporting}

-- CPUs don't use the buffers; where nothing else does, they are only allocated
abbrev pub without_cpu : Usage → Usage
without_cpu usage =
    if usage_bits usage == 2 then record { 0 = 1 } else record { 0 = usage_bits usage - 2 }

-- the colour space is taken too
abbrev pub taking : ColourSpace → Entry → Entry
taking colour entry = record entry { colours = with_colour entry.colours colour }

-- an entry that takes the colour space takes no other
abbrev pub taking_alone : ColourSpace → Entry → Entry
taking_alone colour entry =
    if accepts entry.colours colour
    then record entry { colours = with_colour no_colours colour } else entry

-- an entry that names this pair, and is else like another
abbrev pub naming : Pair → Entry → Entry
naming pair entry = record entry { format = Some pair.format; modifier = Some pair.modifier }

-- the items from a place on to another, and then the others
abbrev pub put_first : {A : Type 0} → ℕ → ℕ → List A → List A
put_first start end xs = take (end - start) (drop start xs) ++ (take start xs ++ drop end xs)

-- the items, of which those from a place on to another are changed
abbrev pub changed_between : {A : Type 0} → (A → A) → ℕ → ℕ → List A → List A
changed_between f start end xs =
    take start xs ++ (map f (take (end - start) (drop start xs)) ++ drop end xs)

-- what the participant asks with other counts
abbrev pub with_counts : Participant → Option CountConstraints → Option Participant
with_counts p counts = option_map (λ c. record p { counts = c }) counts

-- what it asks with other wishes of memory
abbrev pub with_memory : Participant → Option MemoryWishes → Option Participant
with_memory p memory = option_map (λ m. record p { memory = m }) memory

-- what it asks with other entries
abbrev pub with_entries : Participant → Option (List Entry) → Option Participant
with_entries p entries = option_map (λ es. record p { entries = es }) entries

-- what it asks where these heaps are permitted
abbrev pub with_heaps : Participant → List HeapName → Option Participant
with_heaps p heaps = Some (record p { memory = record p.memory { permitted_heaps = heaps } })

-- what it asks where one heap more is permitted; None where it names none, as then each is
abbrev pub permitting : HeapName → Participant → Option Participant
permitting heap p =
    if length p.memory.permitted_heaps == 0 then None
    else with_heaps p (p.memory.permitted_heaps ++ heap ∷ [])

-- two fields' values are exchanged: those of the counts, those of the memory, or in each entry
-- those of bounds of which the first is above the second
abbrev pub exchanged : Field → Field → Participant → Option Participant
exchanged least most p =
    if same_field least field.MinBufferCount
    then Some (record p { counts = counts_exchanged p.counts })
    else if same_field least field.MinSizeBytes
    then Some (record p { memory = sizes_exchanged p.memory })
    else with_entries p (bounds_exchanged least most p.entries)

-- what a participant asks after an edit on a platform with these heaps; None where the field, the
-- heap or the entry of the edit isn't there
abbrev pub after : List HeapFacts → Change → Edit → Participant → Option Participant
after heaps c (edit.MeansHeap index) p =
    option_and_then (λ info. with_heaps p (set p.memory.permitted_heaps c.start info.heap))
    (slice_get heaps index)
after heaps c (edit.Exchanges least most) p = exchanged least most p
after heaps c (edit.Supports f) p = with_memory p (supporting f p.memory)
after heaps c (edit.NoSupport f) p = with_memory p (unsupporting f p.memory)
after heaps c (edit.NoCount f) p = with_counts p (counts_edited f c.amount p.counts)
after heaps c (edit.NoMemory f) p = with_memory p (memory_edited f c.amount p.memory)
after heaps c (edit.NoBound f) p = with_entries p (bound_edited f c.amount p.entries)
after heaps c (edit.Replaces f was) p =
    with_entries p (bound_replaced f was c.amount p.entries)
after heaps c (edit.States f amount) p = with_entries p (bound_stated f amount p.entries)
after heaps c (edit.TakesColour colour) p =
    Some (record p { entries = map (taking colour) p.entries })
after heaps c (edit.TakesColourIn colour index) p =
    Some (record p { entries = changed_between (taking colour) c.start c.end p.entries })
after heaps c (edit.TakesColourAlone colour) p =
    Some (record p { entries = map (taking_alone colour) p.entries })
after heaps c (edit.TakesPair pair) p =
    option_map (λ like. record p { entries = naming pair like ∷ p.entries })
    (slice_get p.entries c.start)
after heaps c (edit.PermitsHeap index) p =
    option_and_then (λ info. permitting info.heap p) (slice_get heaps index)
after heaps c edit.NoCpu p =
    if uses_cpu p.usage then Some (record p { usage = without_cpu p.usage }) else None
after heaps c (edit.LeastCount n) p =
    Some (record p { counts = record p.counts { min_buffer_count = n } })
after heaps c (edit.EntryFirst index) p =
    Some (record p { entries = put_first c.start c.end p.entries })
after heaps c (edit.PermitsAlone index) p =
    option_and_then (λ info. with_heaps p (info.heap ∷ [])) (slice_get heaps index)

-- what a participant asks after a change
abbrev pub edited : List HeapFacts → Change → Participant → Option Participant
edited heaps c p = after heaps c c.edit p

-- what a participant asks after some changes, made one after the other
abbrev pub edited_by : List HeapFacts → List Change → Participant → Option Participant
edited_by heaps changes p = fold (λ o c. option_and_then (edited heaps c) o) (Some p) changes
