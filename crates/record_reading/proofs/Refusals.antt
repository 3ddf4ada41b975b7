-- What readers answer where memory for one field is refused: what they answer
-- else, or the want of that field.
use Rattle.std.proofs.Common.{◌≡◌, ℕ, ◌+◌, ◌-◌, ◌^◌, ◌<◌, Bool, true, false, not, ◌||◌, List, [], ◌++◌, length, get_or, drop, Option, Some, None, Result, Ok, Err, ap, sym, ◌∙◌, refl, inl, inr}
use Rattle.std.specs.Prelude.{nat_lt, cond, map}
use Rattle.serde_json.specs.Data.{Data, Items, no_items, item}
use Rattle.serde_json.specs.declared.value.Value.{Value}
use Rattle.serde_json.specs.View.{view, items_view}
use Rattle.sysmem_counts.specs.declared.constraints.CountConstraints.{CountConstraints}
use Rattle.sysmem_counts.specs.declared.field.Field.{Field}
use Rattle.sysmem_counts.specs.declared.field.Field.TheVariants as field
use Rattle.sysmem_counts.specs.declared.usage.Usage.{Usage}
use Rattle.sysmem_formats.specs.declared.colour_space.ColourSpace.{ColourSpace}
use Rattle.sysmem_formats.specs.declared.offer.Pair.{Pair}
use Rattle.sysmem_image.specs.declared.entry.EntryBounds.{EntryBounds}
use Rattle.sysmem_image.specs.declared.colours.ColourSet.{ColourSet}
use Rattle.sysmem_image.specs.declared.entry.Entry.{Entry}
use Rattle.sysmem_memory.specs.Heap.{HeapName, HeapFacts}
use Rattle.sysmem_memory.specs.Wishes.{MemoryWishes, no_wishes}
use Rattle.record_reading.specs.declared.fault.Code.{Code}
use Rattle.record_reading.specs.declared.fault.Code.TheVariants as code
use Rattle.record_reading.specs.declared.fault.Code.TheVariants.{WantOfMemory}
use Rattle.record_reading.specs.declared.fault.Fault.{Fault}
use Rattle.record_reading.specs.declared.fault.FaultPlace.{FaultPlace}
use Rattle.record_reading.specs.declared.fault.FaultPlace.TheVariants.{Whole, At}
use Rattle.record_reading.specs.Faults.{wrong, lack_at, lack_of}
use Rattle.record_reading.specs.Reading.Fields.{◌>>=◌, passing, kept, same_field, object_of, stated, required, optional, read_or, number_or, flag_or, text_of, named, list_of, read_each, Reads, IsOr, IsSteadyReader}
use Rattle.negotiation_inputs.specs.declared.asked.AskedPair.{AskedPair}
use Rattle.negotiation_inputs.specs.Platform.{PlatformFacts}
use Rattle.record_reading.specs.Reading.Bounds.{bounds_of}
use Rattle.record_reading.specs.Reading.Constraints.{usage_of, counts_of, memory_fields, memory_of, constraints_fields, participant_with}
use Rattle.record_reading.specs.Reading.Entries.{asks_misfit, asked_of, is_asked_already, has_asked, with_asked, no_pair, own_pair, with_further, further_of, asked_pairs, colour_set_of, entry_object, entry_with, with_entry, entries_of}
use Rattle.record_reading.specs.Reading.Heaps.{is_heap_type, heap_type_of, heap_name_of, domains_of, heap_info_fields, heap_of, has_heap, with_heap, heaps_of, name_fields, permitted_heap, has_permitted, with_permitted, permitted_of}
use Rattle.record_reading.specs.Reading.Names.{colour_named}
use Rattle.record_reading.specs.Reading.Pairs.{pair_fields, has_pair, lists_colour, is_tiled_misfit}
use Rattle.record_reading.specs.Reading.Platform.{pair_of, with_pair, pairs_of, with_new_colour, colours_of, platform_fields, platform_with}
use Rattle.record_reading.proofs.Members.{each_step}
use Rattle.record_reading.proofs.Steps.{bind-ok}

-- a reader that takes no memory
pub steady-plain : {A : Type 0} (r : Result A Fault) → IsSteadyReader (λ lack. r)
steady-plain r = record { is = λ fault a is. inl is }

kept-by : {A : Type 0} (lack field : Field) (a : A) (t : Bool) → same_field lack field ≡ t
    → IsOr (record { code = WantOfMemory; at = At lack }) a (kept (Some lack) field a)
kept-by lack field a true same = inr (rw same refl)
kept-by lack field a false same = inl (rw same refl)

kept-at : {A : Type 0} (code : Code) (place : FaultPlace) (field : Field) (a : A)
    → IsOr (record { code = code; at = place }) a (kept (lack_at code place) field a)
kept-at WantOfMemory (At lack) field a = kept-by lack field a _ refl
kept-at WantOfMemory Whole field a = inl refl
kept-at _ _ field a = inl refl

same-ok : {A : Type 0} (fault : Fault) (a b : A) (r : Result A Fault) → (let s : Result A Fault = Ok a in s ≡ Ok b) → IsOr fault a r → IsOr fault b r
same-ok fault a b r e (inl is) = inl (is ∙ e)
same-ok fault a b r e (inr is) = inr is

pub steady-kept : {A : Type 0} (field : Field) (a : A) → IsSteadyReader (λ lack. kept lack field a)
steady-kept field a = record { is = λ fault b e. same-ok fault a b _ e (kept-at fault.code fault.at field a) }

-- a step of which the first is that or the fault
then-or : {A B : Type 0} (fault : Fault) (a : A) (b : B) (r : Result A Fault) (next : A → Result B Fault) → IsOr fault a r → IsOr fault b (next a)
    → IsOr fault b (r >>= next)
then-or fault a b r next (inl is) (inl after) = inl (rw is after)
then-or fault a b r next (inl is) (inr after) = inr (rw is after)
then-or fault a b r next (inr is) after = inr (rw is refl)

pub steady-then : {A B : Type 0} (first : Option Field → Result A Fault) (next : A → Option Field → Result B Fault)
    → IsSteadyReader first → ((a : A) → IsSteadyReader (next a)) → IsSteadyReader (λ lack. first lack >>= λ a. next a lack)
steady-then first next one others = record {
  is = λ fault b gives.
      let (a, is, after) = bind-ok (first None) (λ a. next a None) b gives in
      then-or fault a b (first (lack_of fault)) (λ a. next a (lack_of fault)) (one.is fault a is) ((others a).is fault b after);
}

pub steady-after : {A B : Type 0} (first : Result A Fault) (next : A → Option Field → Result B Fault)
    → ((a : A) → IsSteadyReader (next a)) → IsSteadyReader (λ lack. first >>= λ a. next a lack)
steady-after first next others = steady-then (λ lack. first) next (steady-plain first) others

pub steady-each : {S : Type 0} (read : Option Field → S → Data → Result S Fault) → ((s : S) (d : Data) → IsSteadyReader (λ lack. read lack s d))
    → (ds : Items) (s : S) → IsSteadyReader (λ lack. read_each (read lack) s ds)
steady-each read one no_items s = steady-plain (Ok s)
steady-each read one (item d ds) s =
    steady-then (λ lack. read lack s d) (λ after lack. read_each (read lack) after ds) (one s d) (λ after. steady-each read one ds after)

steady-or : {A : Type 0} (absent : A) (read : Option Field → Data → Result A Fault) → ((v : Data) → IsSteadyReader (λ lack. read lack v))
    → (o : Option Data) → IsSteadyReader (λ lack. read_or (Ok absent) (read lack) o)
steady-or absent read one None = steady-plain (Ok absent)
steady-or absent read one (Some v) = one v

pub steady-optional : {A : Type 0} (field : Field) (absent : A) (read : Option Field → Data → Result A Fault)
    → ((v : Data) → IsSteadyReader (λ lack. read lack v)) → (d : Data) → IsSteadyReader (λ lack. optional field absent (read lack) d)
steady-optional field absent read one d = steady-or absent read one _

later-by : {A B : Type 0} (next : A → Result B Fault) (a : A) (fault : Fault) (r : Result A Fault) → next a ≡ Err fault → IsOr fault a r → (r >>= next) ≡ Err fault
later-by next a fault r after (inl is) = rw is after
later-by next a fault r after (inr is) = rw is refl

-- the fault of a later step is that of the steps
pub later : {A B : Type 0} (first : Option Field → Result A Fault) (next : A → Result B Fault) (a : A) (fault : Fault)
    → IsSteadyReader first → first None ≡ Ok a → next a ≡ Err fault → (first (lack_of fault) >>= next) ≡ Err fault
later first next a fault one is after = later-by next a fault (first (lack_of fault)) after (one.is fault a is)

-- where items were read one by one up to some: what the rest says, all say
pub record IsRest {S : Type 0} (read : Option Field → S → Data → Result S Fault) (first now : S) (all rest : Items) : Type 0 where
  pub same : read_each (read None) now rest ≡ read_each (read None) first all
  pub faults : (fault : Fault) → read_each (read (lack_of fault)) now rest ≡ Err fault → read_each (read (lack_of fault)) first all ≡ Err fault

pub rest-start : {S : Type 0} (read : Option Field → S → Data → Result S Fault) (first : S) (all : Items) → IsRest read first first all all
rest-start read first all = record { same = refl; faults = λ fault is. is }

-- one more item was read
pub rest-more : {S : Type 0} (read : Option Field → S → Data → Result S Fault) (first before after : S) (vs : List Value) (i : ℕ) (v : Value)
    → ((s : S) (d : Data) → IsSteadyReader (λ lack. read lack s d)) → IsRest read first before (items_view vs) (items_view (drop i vs))
    → i < length vs → v ≡ get_or vs i v → read None before (view v) ≡ Ok after
    → IsRest read first after (items_view vs) (items_view (drop (i + 1) vs))
rest-more read first before after vs i v steady so within is gives = record {
  same = sym (each_step (read None) before vs i v within is ∙ ap (λ r. r >>= λ s. read_each (read None) s (items_view (drop (i + 1) vs))) gives) ∙ so.same;
  faults = λ fault rest. so.faults fault (each_step (read (lack_of fault)) before vs i v within is
      ∙ later (λ lack. read lack before (view v)) (λ s. read_each (read (lack_of fault)) s (items_view (drop (i + 1) vs))) after fault (steady before (view v)) gives rest);
}

-- the item in turn has a fault
pub rest-fault : {S : Type 0} (read : Option Field → S → Data → Result S Fault) (first before : S) (vs : List Value) (i : ℕ) (v : Value) (fault : Fault)
    → IsRest read first before (items_view vs) (items_view (drop i vs))
    → i < length vs → v ≡ get_or vs i v → read (lack_of fault) before (view v) ≡ Err fault
    → Reads (λ lack. read_each (read lack) first (items_view vs)) (Err fault)
rest-fault read first before vs i v fault so within is gives =
    so.faults fault (each_step (read (lack_of fault)) before vs i v within is
    ∙ ap (λ r. r >>= λ s. read_each (read (lack_of fault)) s (items_view (drop (i + 1) vs))) gives)

-- no item is left
pub rest-none : {S : Type 0} (read : Option Field → S → Data → Result S Fault) (first last : S) (all : Items)
    → IsRest read first last all no_items → Reads (λ lack. read_each (read lack) first all) (Ok last)
rest-none read first last all so = sym so.same

steady-type : (d : Data) → IsSteadyReader (λ lack. heap_type_of lack d)
steady-type d = steady-after (text_of field.HeapType d) _ (λ text. steady-after (passing (wrong code.WrongKind field.HeapType) is_heap_type text) _ (λ heap_type. steady-kept field.HeapType heap_type))

pub steady-name : (d : Data) → IsSteadyReader (λ lack. heap_name_of lack d)
steady-name d =
    steady-then (λ lack. required field.HeapType (heap_type_of lack) d) _ (steady-after (stated code.WrongKind field.HeapType d) _ (λ v. steady-type v)) (λ heap_type. steady-plain _)

pub steady-permitted : (heaps : List HeapName) (d : Data) → IsSteadyReader (λ lack. with_permitted lack heaps d)
steady-permitted heaps d =
    steady-then (λ lack. permitted_heap lack d) _ (steady-after (object_of (At field.PermittedHeaps) name_fields d) _ (λ object. steady-name d)) (λ heap.
    steady-after (passing (wrong code.TooMany field.PermittedHeaps) (λ _. nat_lt (length heaps) 64) heap) _ (λ roomy.
    steady-after (passing (wrong code.RepeatedHeap field.PermittedHeaps) (λ heap. not (has_permitted heaps heap)) roomy) _ (λ new. steady-kept field.PermittedHeaps _)))

pub steady-heap : (heaps : List HeapFacts) (d : Data) → IsSteadyReader (λ lack. with_heap lack heaps d)
steady-heap heaps d =
    steady-then (λ lack. heap_of lack d) _ (steady-after (object_of (At field.Heaps) heap_info_fields d) _ (λ object. steady-then (λ lack. heap_name_of lack d) _ (steady-name d) (λ name. steady-plain _))) (λ heap.
    steady-after (passing (wrong code.TooMany field.Heaps) (λ _. nat_lt (length heaps) 64) heap) _ (λ roomy.
    steady-after (passing (wrong code.BadPlatformList field.Heaps) (λ heap. not (has_heap heaps heap)) roomy) _ (λ new. steady-kept field.Heaps _)))

pub steady-heaps : (d : Data) → IsSteadyReader (λ lack. heaps_of lack d)
steady-heaps d =
    steady-after (list_of field.Heaps d) _ (λ items. steady-then (λ lack. read_each (with_heap lack) [] items) _ (steady-each with_heap steady-heap items []) (λ heaps. steady-plain _))

pub steady-pair : (pairs : List Pair) (d : Data) → IsSteadyReader (λ lack. with_pair lack pairs d)
steady-pair pairs d =
    steady-after (pair_of d) _ (λ pair.
    steady-after (passing (wrong code.TiledMisfit field.Pairs) (λ pair. not (is_tiled_misfit pair)) pair) _ (λ fitting.
    steady-after (passing (wrong code.BadPlatformList field.Pairs) (λ pair. not (has_pair pairs pair)) fitting) _ (λ new. steady-kept field.Pairs _)))

pub steady-pairs : (d : Data) → IsSteadyReader (λ lack. pairs_of lack d)
steady-pairs d =
    steady-after (list_of field.Pairs d) _ (λ items. steady-then (λ lack. read_each (with_pair lack) [] items) _ (steady-each with_pair steady-pair items []) (λ pairs. steady-plain _))

pub steady-colour : (colours : List ColourSpace) (d : Data) → IsSteadyReader (λ lack. with_new_colour lack colours d)
steady-colour colours d =
    steady-after (named colour_named field.ColorSpaces d) _ (λ colour.
    steady-after (passing (wrong code.BadPlatformList field.ColorSpaces) (λ colour. not (lists_colour colours colour)) colour) _ (λ new. steady-kept field.ColorSpaces _))

steady-asked : (field : Field) (entries : List Entry) (pairs : List AskedPair) (asked : AskedPair) → IsSteadyReader (λ lack. with_asked lack field entries pairs asked)
steady-asked field entries pairs asked =
    steady-after (passing (wrong code.TiledMisfit field) (λ (pair : AskedPair). not (asks_misfit pair.format pair.modifier)) asked) _ (λ fitting.
    steady-after (passing (wrong code.TooMany field) (λ _. nat_lt (length entries + length pairs) 64) fitting) _ (λ roomy.
    steady-after (passing (wrong code.RepeatedPair field) (λ pair. not (is_asked_already entries pair || has_asked pairs pair)) roomy) _ (λ new. steady-kept field _)))

steady-if : {A : Type 0} (t : Bool) (first second : Option Field → Result A Fault) → IsSteadyReader first → IsSteadyReader second → IsSteadyReader (λ lack. cond t (first lack) (second lack))
steady-if true first second one other = one
steady-if false first second one other = other

pub steady-own : (entries : List Entry) (d : Data) → IsSteadyReader (λ lack. own_pair lack entries d)
steady-own entries d =
    steady-if _ (λ lack. asked_of d >>= with_asked lack field.PixelFormat entries []) (λ lack. no_pair d) (steady-after (asked_of d) _ (λ asked. steady-asked field.PixelFormat entries [] asked)) (steady-plain (no_pair d))

pub steady-further : (entries : List Entry) (pairs : List AskedPair) (d : Data) → IsSteadyReader (λ lack. with_further lack entries pairs d)
steady-further entries pairs d =
    steady-after (object_of (At field.PixelFormatAndModifiers) pair_fields d) _ (λ object. steady-after (asked_of d) _ (λ asked. steady-asked field.PixelFormatAndModifiers entries pairs asked))

pub steady-all : (entries : List Entry) (d : Data) → IsSteadyReader (λ lack. asked_pairs lack entries d)
steady-all entries d =
    steady-then (λ lack. own_pair lack entries d) _ (steady-own entries d) (λ own. steady-optional field.PixelFormatAndModifiers own (λ lack. further_of lack entries own) (λ v.
    steady-after (list_of field.PixelFormatAndModifiers v) _ (λ items. steady-each (λ lack. with_further lack entries) (steady-further entries) items own)) d)

pub steady-entry : (entries : List Entry) (d : Data) → IsSteadyReader (λ lack. with_entry lack entries d)
steady-entry entries d =
    steady-after (entry_object d) _ (λ object.
    steady-then (λ lack. asked_pairs lack entries d) _ (steady-all entries d) (λ pairs.
    steady-after (stated code.NoColourSpaces field.ColorSpaces d >>= colour_set_of) _ (λ colours.
    steady-after (bounds_of d) _ (λ bounds. steady-kept field.ImageFormatConstraints _))))

steady-heaps_permitted : (d : Data) → IsSteadyReader (λ lack. permitted_of lack d)
steady-heaps_permitted d = steady-after (list_of field.PermittedHeaps d) _ (λ items. steady-each with_permitted steady-permitted items [])

steady-wishes : (d : Data) → IsSteadyReader (λ lack. memory_of lack d)
steady-wishes d =
    steady-after (object_of (At field.BufferMemoryConstraints) memory_fields d) _ (λ object.
    steady-after (number_or field.MinSizeBytes 0 (2 ^ 64 - 1) d) _ (λ min.
    steady-after (number_or field.MaxSizeBytes (2 ^ 64 - 1) (2 ^ 64 - 1) d) _ (λ max.
    steady-after (flag_or field.PhysicallyContiguousRequired false d) _ (λ contiguous.
    steady-after (flag_or field.SecureRequired false d) _ (λ secure.
    steady-after (flag_or field.CpuDomainSupported true d) _ (λ cpu.
    steady-after (flag_or field.RamDomainSupported false d) _ (λ ram.
    steady-after (flag_or field.InaccessibleDomainSupported false d) _ (λ inaccessible.
    steady-then (λ lack. optional field.PermittedHeaps [] (permitted_of lack) d) _ (steady-optional field.PermittedHeaps [] permitted_of steady-heaps_permitted d) (λ heaps. steady-plain _)))))))))

pub steady-memory : (d : Data) → IsSteadyReader (λ lack. optional field.BufferMemoryConstraints no_wishes (memory_of lack) d)
steady-memory d = steady-optional field.BufferMemoryConstraints no_wishes memory_of steady-wishes d

-- a heap's later fields
abbrev pub heap_rest : HeapName → Data → Result HeapFacts Fault
heap_rest heap d = do
  contiguous ← flag_or field.Contiguous false d
  secure ← flag_or field.Secure false d
  domains ← required field.Domains domains_of d
  Ok (record { heap = heap; contiguous = contiguous; secure = secure; domains = domains })

pub later-heap : (d o : Data) (heap : HeapName) (fault : Fault) → Ok o ≡ object_of (At field.Heaps) heap_info_fields d → heap_name_of None d ≡ Ok heap
    → heap_rest heap d ≡ Err fault → heap_of (lack_of fault) d ≡ Err fault
later-heap d o heap fault is name rest = rw (sym is) (later (λ lack. heap_name_of lack d) (λ heap. heap_rest heap d) heap fault (steady-name d) name rest)

-- an entry's fields after its pairs
abbrev pub entry_rest : Option Field → List Entry → Data → List AskedPair → Result (List Entry) Fault
entry_rest lack entries d pairs = do
  colours ← stated code.NoColourSpaces field.ColorSpaces d >>= colour_set_of
  bounds ← bounds_of d
  kept lack field.ImageFormatConstraints (entries ++ map (entry_with colours bounds) pairs)

pub later-entry : (entries : List Entry) (d o : Data) (pairs : List AskedPair) (fault : Fault) → Ok o ≡ entry_object d → asked_pairs None entries d ≡ Ok pairs
    → entry_rest (lack_of fault) entries d pairs ≡ Err fault → with_entry (lack_of fault) entries d ≡ Err fault
later-entry entries d o pairs fault is all rest =
    rw (sym is) (later (λ lack. asked_pairs lack entries d) (λ pairs. entry_rest (lack_of fault) entries d pairs) pairs fault (steady-all entries d) all rest)

pub later-further : (entries : List Entry) (d : Data) (own : List AskedPair) (fault : Fault) → own_pair None entries d ≡ Ok own
    → optional field.PixelFormatAndModifiers own (further_of (lack_of fault) entries own) d ≡ Err fault → asked_pairs (lack_of fault) entries d ≡ Err fault
later-further entries d own fault is rest =
    later (λ lack. own_pair lack entries d) (λ own. optional field.PixelFormatAndModifiers own (further_of (lack_of fault) entries own) d) own fault (steady-own entries d) is rest

-- a participant's entries
pub later-participant : (d o v : Data) (usage : Usage) (counts : CountConstraints) (memory : MemoryWishes) (fault : Fault)
    → Ok o ≡ object_of Whole constraints_fields d → Ok v ≡ stated code.BadUsage field.Usage d → Ok usage ≡ usage_of v → Ok counts ≡ counts_of d
    → optional field.BufferMemoryConstraints no_wishes (memory_of None) d ≡ Ok memory
    → optional field.ImageFormatConstraints [] (entries_of (lack_of fault)) d ≡ Err fault → participant_with (lack_of fault) d ≡ Err fault
later-participant d o v usage counts memory fault is there used counted has rest =
    rw (sym is, sym there, sym used, sym counted)
    (later (λ lack. optional field.BufferMemoryConstraints no_wishes (memory_of lack) d)
    (λ memory. optional field.ImageFormatConstraints [] (entries_of (lack_of fault)) d >>= λ entries. Ok (record { usage = usage; counts = counts; memory = memory; entries = entries }))
    memory fault (steady-memory d) has (rw rest refl))

-- a platform's pairs and its colour spaces
abbrev pub pairs_rest : Option Field → Data → List HeapFacts → Result PlatformFacts Fault
pairs_rest lack d heaps = do
  pairs ← required field.Pairs (pairs_of lack) d
  colours ← required field.ColorSpaces (colours_of lack) d
  Ok (record { heaps = heaps; pairs = pairs; colours = colours })

pub later-pairs : (d o : Data) (heaps : List HeapFacts) (fault : Fault) → Ok o ≡ object_of Whole platform_fields d → required field.Heaps (heaps_of None) d ≡ Ok heaps
    → pairs_rest (lack_of fault) d heaps ≡ Err fault → platform_with (lack_of fault) d ≡ Err fault
later-pairs d o heaps fault is has rest =
    rw (sym is) (later (λ lack. required field.Heaps (heaps_of lack) d) (λ heaps. pairs_rest (lack_of fault) d heaps) heaps fault (steady-after (stated code.WrongKind field.Heaps d) _ (λ v. steady-heaps v)) has rest)

pub later-colours : (d : Data) (heaps : List HeapFacts) (pairs : List Pair) (fault : Fault) → required field.Pairs (pairs_of None) d ≡ Ok pairs
    → required field.ColorSpaces (colours_of (lack_of fault)) d ≡ Err fault → pairs_rest (lack_of fault) d heaps ≡ Err fault
later-colours d heaps pairs fault has rest =
    later (λ lack. required field.Pairs (pairs_of lack) d) (λ pairs. required field.ColorSpaces (colours_of (lack_of fault)) d >>= λ colours. Ok (record { heaps = heaps; pairs = pairs; colours = colours })) pairs fault (steady-after (stated code.WrongKind field.Pairs d) _ (λ v. steady-pairs v)) has (rw rest refl)

-- the answer of the last step is that of the steps
pub reads-then : {A B : Type 0} (first : Option Field → Result A Fault) (next : A → Option Field → Result B Fault) (a : A) (r : Result B Fault)
    → IsSteadyReader first → first None ≡ Ok a → Reads (next a) r → Reads (λ lack. first lack >>= λ a. next a lack) r
reads-then first next a (Ok b) one is after = rw is after
reads-then first next a (Err fault) one is after = later first (λ a. next a (lack_of fault)) a fault one is after

pub reads-further : (entries : List Entry) (d : Data) (own : List AskedPair) (r : Result (List AskedPair) Fault) → own_pair None entries d ≡ Ok own
    → Reads (λ lack. optional field.PixelFormatAndModifiers own (further_of lack entries own) d) r → Reads (λ lack. asked_pairs lack entries d) r
reads-further entries d own r is rest =
    reads-then (λ lack. own_pair lack entries d) (λ own lack. optional field.PixelFormatAndModifiers own (further_of lack entries own) d) own r (steady-own entries d) is rest

pub reads-entry : (entries : List Entry) (d o v : Data) (pairs : List AskedPair) (colours : ColourSet) (bounds : EntryBounds) (r : Result (List Entry) Fault)
    → Ok o ≡ entry_object d → asked_pairs None entries d ≡ Ok pairs → Ok v ≡ stated code.NoColourSpaces field.ColorSpaces d → Ok colours ≡ colour_set_of v → Ok bounds ≡ bounds_of d
    → Reads (λ lack. kept lack field.ImageFormatConstraints (entries ++ map (entry_with colours bounds) pairs)) r → Reads (λ lack. with_entry lack entries d) r
reads-entry entries d o v pairs colours bounds r is all there listed bounded rest =
    rw (sym is) (reads-then (λ lack. asked_pairs lack entries d) (λ pairs lack. entry_rest lack entries d pairs) pairs r (steady-all entries d) all (rw (sym there, sym listed, sym bounded) rest))

lack-none : (code : Code) (place : FaultPlace) → (code ≡ WantOfMemory → ⊥) → lack_at code place ≡ None
lack-none WantOfMemory place other = absurd (other refl)
lack-none _ place other = refl

-- a fault other than want of memory says of no field that its memory was refused
pub no-lack : (fault : Fault) → (fault.code ≡ WantOfMemory → ⊥) → lack_of fault ≡ None
no-lack fault other = lack-none fault.code fault.at other
