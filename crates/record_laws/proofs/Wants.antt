-- What a reader answers where memory for one field is refused: what it answers with
-- enough, or that this field wants it.
use Rattle.std.proofs.Common.{inl, inr, Bool, true, false, List, [], ◌∷◌, ◌++◌, Option, Some, None, Result, Ok, Err, refl, sym, ap, subst}
use Rattle.std.specs.Prelude.{if◌then◌else◌, is_some, map, nat_lt, not, length, ◌+◌, ◌-◌, ◌^◌, ◌==◌, ◌||◌}
use Rattle.serde_json.specs.Data.{Data, Items, no_items, item}
use Rattle.serde_json.specs.Find.{get}
use Rattle.sysmem_counts.specs.declared.field.Field.{Field}
use Rattle.sysmem_counts.specs.declared.field.Field.TheVariants as field
use Rattle.sysmem_counts.specs.Field.{field_name}
use Rattle.sysmem_image.specs.declared.entry.Entry.{Entry}
use Rattle.sysmem_memory.specs.Wishes.{no_wishes}
use Rattle.record_reading.specs.declared.fault.Code.TheVariants as code
use Rattle.record_reading.specs.declared.fault.Code.TheVariants.{WantOfMemory}
use Rattle.record_reading.specs.declared.fault.Fault.{Fault}
use Rattle.record_reading.specs.declared.fault.FaultPlace.TheVariants.{Whole, At}
use Rattle.record_reading.specs.Faults.{wrong}
use Rattle.record_reading.specs.Reading.Bounds.{bounds_of}
use Rattle.record_reading.specs.Reading.Constraints.{memory_fields, memory_of, constraints_fields, usage_of, counts_of}
use Rattle.record_reading.specs.Reading.Entries.{entry_object, colour_set_of, entry_with, has_asked, with_asked, own_pair, no_pair, asked_of, with_further, further_of, asked_pairs, with_entry, entries_of}
use Rattle.negotiation_inputs.specs.Asked.{asks_misfit, is_asked_already}
use Rattle.record_reading.specs.Reading.Fields.{◌>>=◌, object_of, list_of, number_or, flag_or, kept, passing, text_of, named, same_field, optional, read_or, read_each, stated, required}
use Rattle.record_reading.specs.Reading.Heaps.{name_fields, heap_info_fields, heap_type_of, heap_name_of, heap_of, with_heap, heaps_of, permitted_heap, with_permitted, permitted_of}
use Rattle.negotiation_inputs.specs.Heaps.{is_heap_type, has_heap, has_permitted}
use Rattle.record_reading.specs.Reading.Names.{colour_named}
use Rattle.record_reading.specs.Reading.Pairs.{pair_fields}
use Rattle.negotiation_inputs.specs.Pairs.{is_tiled_misfit, has_pair, lists_colour}
use Rattle.record_reading.specs.Reading.Platform.{platform_fields, pair_of, with_pair, pairs_of, with_new_colour, colours_of}
use Rattle.record_laws.specs.Laws.{IsOrWants, ParticipantOrWants, PlatformOrWants}

-- one answer, and then the next
then_wants : {A B : Type 0} (lack : Field) (r full : Result A Fault) (f g : A → Result B Fault)
    → IsOrWants lack r full → ((a : A) → IsOrWants lack (f a) (g a)) → IsOrWants lack (r >>= f) (full >>= g)
then_wants lack r (Ok a) f g (inl is) next = subst (λ r. IsOrWants lack (r >>= f) (g a)) (sym is) (next a)
then_wants lack r (Err fault) f g (inl is) next = inl (ap (λ r. r >>= f) is)
then_wants lack r full f g (inr wants) next = inr (ap (λ r. r >>= f) wants)

-- an answer that takes no memory, and then the next
after : {A B : Type 0} (lack : Field) (r : Result A Fault) (f g : A → Result B Fault)
    → ((a : A) → IsOrWants lack (f a) (g a)) → IsOrWants lack (r >>= f) (r >>= g)
after lack r f g next = then_wants lack r r f g (inl refl) next

kept_by : {A : Type 0} (lack : Field) (a : A) (b : Bool) → IsOrWants lack (if b then Err (wrong WantOfMemory lack) else Ok a) (Ok a)
kept_by lack a true = inr refl
kept_by lack a false = inl refl

kept_wants : {A : Type 0} (lack at : Field) (a : A) → IsOrWants lack (kept (Some lack) at a) (kept None at a)
kept_wants lack at a = kept_by lack a (same_field lack at)

-- a field that may be left out
read_or_wants : {A : Type 0} (lack : Field) (absent : Result A Fault) (read full : Data → Result A Fault) (o : Option Data)
    → ((d : Data) → IsOrWants lack (read d) (full d)) → IsOrWants lack (read_or absent read o) (read_or absent full o)
read_or_wants lack absent read full None reads = inl refl
read_or_wants lack absent read full (Some d) reads = reads d

-- a list, item by item
each_wants : {S : Type 0} (lack : Field) (read full : S → Data → Result S Fault) (s : S) (ds : Items)
    → ((s : S) (d : Data) → IsOrWants lack (read s d) (full s d)) → IsOrWants lack (read_each read s ds) (read_each full s ds)
each_wants lack read full s no_items reads = inl refl
each_wants lack read full s (item d ds) reads =
    then_wants lack (read s d) (full s d) (λ after. read_each read after ds) (λ after. read_each full after ds) (reads s d) (λ t. each_wants lack read full t ds reads)

-- a list, item by item, and then the next, which takes no memory
after_each : {S B : Type 0} (lack : Field) (read full : List S → Data → Result (List S) Fault) (ds : Items) (f : List S → Result B Fault)
    → ((s : List S) (d : Data) → IsOrWants lack (read s d) (full s d)) → IsOrWants lack (read_each read [] ds >>= f) (read_each full [] ds >>= f)
after_each lack read full ds f reads = then_wants lack (read_each read [] ds) (read_each full [] ds) f f (each_wants lack read full [] ds reads) (λ s. inl refl)

heap_type_wants : (lack : Field) (d : Data) → IsOrWants lack (heap_type_of (Some lack) d) (heap_type_of None d)
heap_type_wants lack d =
    after lack (text_of field.HeapType d) _ _ (λ text.
    after lack (passing (wrong code.WrongKind field.HeapType) is_heap_type text) _ _ (λ heap_type. kept_wants lack field.HeapType heap_type))

heap_name_wants : (lack : Field) (d : Data) → IsOrWants lack (heap_name_of (Some lack) d) (heap_name_of None d)
heap_name_wants lack d =
    then_wants lack (required field.HeapType (heap_type_of (Some lack)) d) (required field.HeapType (heap_type_of None) d) _ _
    (after lack (stated _ field.HeapType d) _ _ (λ v. heap_type_wants lack v)) (λ heap_type. inl refl)

heap_wants : (lack : Field) (d : Data) → IsOrWants lack (heap_of (Some lack) d) (heap_of None d)
heap_wants lack d = after lack (object_of (At field.Heaps) heap_info_fields d) _ _ (λ object. then_wants lack _ _ _ _ (heap_name_wants lack d) (λ heap. inl refl))

with_heap_wants : (lack : Field) (hs : List _) (d : Data) → IsOrWants lack (with_heap (Some lack) hs d) (with_heap None hs d)
with_heap_wants lack hs d =
    then_wants lack _ _ _ _ (heap_wants lack d) (λ heap.
    after lack (passing (wrong code.TooMany field.Heaps) (λ _. nat_lt (length hs) 64) heap) _ _ (λ roomy.
    after lack (passing (wrong code.BadPlatformList field.Heaps) (λ heap. not (has_heap hs heap)) roomy) _ _ (λ new. kept_wants lack field.Heaps (hs ++ new ∷ []))))

heaps_wants : (lack : Field) (d : Data) → IsOrWants lack (heaps_of (Some lack) d) (heaps_of None d)
heaps_wants lack d =
    after lack (list_of field.Heaps d) _ _ (λ items.
    after_each lack (with_heap (Some lack)) (with_heap None) items (λ xs. passing (wrong code.BadPlatformList field.Heaps) (λ xs. not (length xs == 0)) xs) (with_heap_wants lack))

with_pair_wants : (lack : Field) (ps : List _) (d : Data) → IsOrWants lack (with_pair (Some lack) ps d) (with_pair None ps d)
with_pair_wants lack ps d =
    after lack (pair_of d) _ _ (λ pair.
    after lack (passing (wrong code.TiledMisfit field.Pairs) (λ pair. not (is_tiled_misfit pair)) pair) _ _ (λ fitting.
    after lack (passing (wrong code.BadPlatformList field.Pairs) (λ pair. not (has_pair ps pair)) fitting) _ _ (λ new. kept_wants lack field.Pairs (ps ++ new ∷ []))))

pairs_wants : (lack : Field) (d : Data) → IsOrWants lack (pairs_of (Some lack) d) (pairs_of None d)
pairs_wants lack d =
    after lack (list_of field.Pairs d) _ _ (λ items.
    after_each lack (with_pair (Some lack)) (with_pair None) items (λ xs. passing (wrong code.BadPlatformList field.Pairs) (λ xs. not (length xs == 0)) xs) (with_pair_wants lack))

with_colour_wants : (lack : Field) (cs : List _) (d : Data) → IsOrWants lack (with_new_colour (Some lack) cs d) (with_new_colour None cs d)
with_colour_wants lack cs d =
    after lack (named colour_named field.ColorSpaces d) _ _ (λ colour.
    after lack (passing (wrong code.BadPlatformList field.ColorSpaces) (λ colour. not (lists_colour cs colour)) colour) _ _ (λ new. kept_wants lack field.ColorSpaces (cs ++ new ∷ [])))

colours_wants : (lack : Field) (d : Data) → IsOrWants lack (colours_of (Some lack) d) (colours_of None d)
colours_wants lack d =
    after lack (list_of field.ColorSpaces d) _ _ (λ items.
    after_each lack (with_new_colour (Some lack)) (with_new_colour None) items (λ xs. passing (wrong code.BadPlatformList field.ColorSpaces) (λ xs. not (length xs == 0)) xs) (with_colour_wants lack))

required_wants : {A : Type 0} (lack at : Field) (read full : Data → Result A Fault) (d : Data)
    → ((v : Data) → IsOrWants lack (read v) (full v)) → IsOrWants lack (required at read d) (required at full d)
required_wants lack at read full d reads = after lack (stated _ at d) read full reads

pub platform_or_wants : PlatformOrWants
platform_or_wants lack d =
    after lack (object_of Whole platform_fields d) _ _ (λ object.
    then_wants lack _ _ _ _ (required_wants lack field.Heaps (heaps_of (Some lack)) (heaps_of None) d (heaps_wants lack)) (λ heaps.
    then_wants lack _ _ _ _ (required_wants lack field.Pairs (pairs_of (Some lack)) (pairs_of None) d (pairs_wants lack)) (λ pairs.
    then_wants lack _ _ _ _ (required_wants lack field.ColorSpaces (colours_of (Some lack)) (colours_of None) d (colours_wants lack)) (λ colours. inl refl))))

permitted_heap_wants : (lack : Field) (d : Data) → IsOrWants lack (permitted_heap (Some lack) d) (permitted_heap None d)
permitted_heap_wants lack d = after lack (object_of (At field.PermittedHeaps) name_fields d) _ _ (λ object. heap_name_wants lack d)

with_permitted_wants : (lack : Field) (hs : List _) (d : Data) → IsOrWants lack (with_permitted (Some lack) hs d) (with_permitted None hs d)
with_permitted_wants lack hs d =
    then_wants lack _ _ _ _ (permitted_heap_wants lack d) (λ heap.
    after lack (passing (wrong code.TooMany field.PermittedHeaps) (λ _. nat_lt (length hs) 64) heap) _ _ (λ roomy.
    after lack (passing (wrong code.RepeatedHeap field.PermittedHeaps) (λ heap. not (has_permitted hs heap)) roomy) _ _ (λ new. kept_wants lack field.PermittedHeaps (hs ++ new ∷ []))))

permitted_wants : (lack : Field) (d : Data) → IsOrWants lack (permitted_of (Some lack) d) (permitted_of None d)
permitted_wants lack d = after lack (list_of field.PermittedHeaps d) _ _ (λ items. each_wants lack (with_permitted (Some lack)) (with_permitted None) [] items (with_permitted_wants lack))

memory_wants : (lack : Field) (d : Data) → IsOrWants lack (memory_of (Some lack) d) (memory_of None d)
memory_wants lack d =
    after lack (object_of (At field.BufferMemoryConstraints) memory_fields d) _ _ (λ object.
    after lack (number_or field.MinSizeBytes 0 (2 ^ 64 - 1) d) _ _ (λ min.
    after lack (number_or field.MaxSizeBytes (2 ^ 64 - 1) (2 ^ 64 - 1) d) _ _ (λ max.
    after lack (flag_or field.PhysicallyContiguousRequired false d) _ _ (λ contiguous.
    after lack (flag_or field.SecureRequired false d) _ _ (λ secure.
    after lack (flag_or field.CpuDomainSupported true d) _ _ (λ cpu.
    after lack (flag_or field.RamDomainSupported false d) _ _ (λ ram.
    after lack (flag_or field.InaccessibleDomainSupported false d) _ _ (λ inaccessible.
    then_wants lack (optional field.PermittedHeaps [] (permitted_of (Some lack)) d) (optional field.PermittedHeaps [] (permitted_of None) d) _ _
    (read_or_wants lack (Ok []) (permitted_of (Some lack)) (permitted_of None) (get (field_name field.PermittedHeaps) d) (permitted_wants lack)) (λ heaps. inl refl)))))))))

with_asked_wants : (lack at : Field) (entries : List Entry) (pairs : List _) (asked : _)
    → IsOrWants lack (with_asked (Some lack) at entries pairs asked) (with_asked None at entries pairs asked)
with_asked_wants lack at entries pairs asked =
    after lack (passing (wrong code.TiledMisfit at) (λ pair. not (asks_misfit pair.format pair.modifier)) asked) _ _ (λ fitting.
    after lack (passing (wrong code.TooMany at) (λ _. nat_lt (length entries + length pairs) 64) fitting) _ _ (λ roomy.
    after lack (passing (wrong code.RepeatedPair at) (λ pair. not (is_asked_already entries pair || has_asked pairs pair)) roomy) _ _ (λ new. kept_wants lack at (pairs ++ new ∷ []))))

own_by : (lack : Field) (entries : List Entry) (d : Data) (b : Bool)
    → IsOrWants lack (if b then (asked_of d >>= with_asked (Some lack) field.PixelFormat entries []) else no_pair d) (if b then (asked_of d >>= with_asked None field.PixelFormat entries []) else no_pair d)
own_by lack entries d true = after lack (asked_of d) _ _ (λ asked. with_asked_wants lack field.PixelFormat entries [] asked)
own_by lack entries d false = inl refl

own_wants : (lack : Field) (entries : List Entry) (d : Data) → IsOrWants lack (own_pair (Some lack) entries d) (own_pair None entries d)
own_wants lack entries d = own_by lack entries d (is_some (get (field_name field.PixelFormat) d))

with_further_wants : (lack : Field) (entries : List Entry) (pairs : List _) (d : Data)
    → IsOrWants lack (with_further (Some lack) entries pairs d) (with_further None entries pairs d)
with_further_wants lack entries pairs d =
    after lack (object_of (At field.PixelFormatAndModifiers) pair_fields d) _ _ (λ object.
    after lack (asked_of d) _ _ (λ asked. with_asked_wants lack field.PixelFormatAndModifiers entries pairs asked))

further_wants : (lack : Field) (entries : List Entry) (own : List _) (d : Data)
    → IsOrWants lack (further_of (Some lack) entries own d) (further_of None entries own d)
further_wants lack entries own d =
    after lack (list_of field.PixelFormatAndModifiers d) _ _ (λ items. each_wants lack (with_further (Some lack) entries) (with_further None entries) own items (with_further_wants lack entries))

asked_wants : (lack : Field) (entries : List Entry) (d : Data) → IsOrWants lack (asked_pairs (Some lack) entries d) (asked_pairs None entries d)
asked_wants lack entries d =
    then_wants lack (own_pair (Some lack) entries d) (own_pair None entries d) _ _ (own_wants lack entries d) (λ own.
    read_or_wants lack (Ok own) (further_of (Some lack) entries own) (further_of None entries own) (get (field_name field.PixelFormatAndModifiers) d) (further_wants lack entries own))

with_entry_wants : (lack : Field) (entries : List Entry) (d : Data) → IsOrWants lack (with_entry (Some lack) entries d) (with_entry None entries d)
with_entry_wants lack entries d =
    after lack (entry_object d) _ _ (λ object.
    then_wants lack (asked_pairs (Some lack) entries d) (asked_pairs None entries d) _ _ (asked_wants lack entries d) (λ pairs.
    after lack (stated code.NoColourSpaces field.ColorSpaces d >>= colour_set_of) _ _ (λ colours.
    after lack (bounds_of d) _ _ (λ bounds.
    kept_wants lack field.ImageFormatConstraints (entries ++ map (entry_with colours bounds) pairs)))))

entries_wants : (lack : Field) (d : Data) → IsOrWants lack (entries_of (Some lack) d) (entries_of None d)
entries_wants lack d = after lack (list_of field.ImageFormatConstraints d) _ _ (λ items. each_wants lack (with_entry (Some lack)) (with_entry None) [] items (with_entry_wants lack))

pub participant_or_wants : ParticipantOrWants
participant_or_wants lack d =
    after lack (object_of Whole constraints_fields d) _ _ (λ object.
    after lack (stated code.BadUsage field.Usage d >>= usage_of) _ _ (λ usage.
    after lack (counts_of d) _ _ (λ counts.
    then_wants lack (optional field.BufferMemoryConstraints no_wishes (memory_of (Some lack)) d) (optional field.BufferMemoryConstraints no_wishes (memory_of None) d) _ _
    (read_or_wants lack (Ok no_wishes) (memory_of (Some lack)) (memory_of None) (get (field_name field.BufferMemoryConstraints) d) (memory_wants lack)) (λ memory.
    then_wants lack (optional field.ImageFormatConstraints [] (entries_of (Some lack)) d) (optional field.ImageFormatConstraints [] (entries_of None) d) _ _
    (read_or_wants lack (Ok []) (entries_of (Some lack)) (entries_of None) (get (field_name field.ImageFormatConstraints) d) (entries_wants lack)) (λ entries. inl refl)))))
