-- The record of a participant states it.
use Rattle.std.proofs.Common.{◌≡◌, ℕ, ◌+◌, ◌≤◌, ◌-◌, ◌^◌, ◌&&◌, ◌||◌, Bool, true, false, not, List, [], ◌∷◌, ◌++◌, length, Option, Some, None, Ok, refl, ap, rules, tests, Decides}
use Rattle.std.specs.Prelude.{All, AllPairs, nat_lt}
use Rattle.serde_json.specs.Data.{Data, array}
use Rattle.sysmem_counts.specs.declared.field.Field.TheVariants as field
use Rattle.sysmem_formats.specs.declared.modifier.Modifier.{Modifier}
use Rattle.sysmem_formats.specs.declared.offer.Pair.{Pair}
use Rattle.sysmem_formats.specs.declared.pixel_format.PixelFormat.{PixelFormat}
use Rattle.sysmem_formats.specs.Layout.{IsTiledMisfit}
use Rattle.sysmem_formats.specs.Names.{format_name, modifier_name}
use Rattle.sysmem_image.specs.declared.entry.Entry.{Entry}
use Rattle.sysmem_image.specs.Bounds.{IsInRange}
use Rattle.sysmem_memory.specs.Heap.{same_heap}
use Rattle.sysmem_memory.specs.Wishes.{MemoryWishes}
use Rattle.record_reading.specs.declared.fault.Code.TheVariants as code
use Rattle.record_reading.specs.Faults.{wrong}
use Rattle.negotiation_inputs.specs.Participant.{Participant, IsEntry, AreApart}
use Rattle.record_reading.specs.Reading.Bounds.{bounds_of}
use Rattle.record_reading.specs.Reading.Constraints.{usage_of, counts_of, memory_of}
use Rattle.negotiation_inputs.specs.Asked.{same_format, same_modifier, same_asked, asks_misfit, pair_asked, is_asked_already}
use Rattle.record_reading.specs.Reading.Entries.{asked_of, has_asked, with_asked, own_pair, asked_pairs, colour_set_of, with_entry, entries_of}
use Rattle.record_reading.specs.Reading.Fields.{is_key_of, passing, named, number_up_to}
use Rattle.negotiation_inputs.specs.Heaps.{IsHeapName}
use Rattle.record_reading.specs.Reading.Heaps.{permitted_of}
use Rattle.record_reading.specs.Reading.Names.{format_named, modifier_named, choice_named}
use Rattle.record_laws.specs.Laws.{EachParticipantIsStated}
use Rattle.record_laws.specs.Ranges.{AreCounts, AreWishes}
use Rattle.record_laws.specs.Records.{natural, choice, colour_items, list, usage_record, heap_name_record, memory_record, entry_record, participant_record}
use Rattle.record_laws.proofs.Bounds.{number_stated, bounds_stated}
use Rattle.record_laws.proofs.Colours.{colour_set_stated}
use Rattle.record_laws.proofs.Each.{passes, next, each_stated, item_has, has_room, none_before, refused_not}
use Rattle.record_laws.proofs.Heaps.{permitted_list}
use Rattle.record_laws.proofs.Names.{format_choice, modifier_choice}
use Rattle.record_laws.proofs.Platforms.{no_misfit}
use Rattle.record_laws.proofs.Usages.{usage_stated}

pub memory_stated : (w : MemoryWishes) → AreWishes w → length w.permitted_heaps ≤ 64 → AllPairs (λ a b. same_heap a b ≡ false) w.permitted_heaps → All IsHeapName w.permitted_heaps
    → memory_of None (memory_record w) ≡ Ok w
unfolding is_key_of
memory_stated w small few distinct each =
    next (number_up_to field.MinSizeBytes (2 ^ 64 - 1) (natural w.min_size_bytes)) w.min_size_bytes _ (Ok w) (number_stated field.MinSizeBytes (2 ^ 64 - 1) w.min_size_bytes small.min_size)
    (next (number_up_to field.MaxSizeBytes (2 ^ 64 - 1) (natural w.max_size_bytes)) w.max_size_bytes _ (Ok w) (number_stated field.MaxSizeBytes (2 ^ 64 - 1) w.max_size_bytes small.max_size)
    (next (permitted_of None (list heap_name_record w.permitted_heaps)) w.permitted_heaps _ (Ok w) (permitted_list w.permitted_heaps few distinct each small.ids) refl))

format_tells : (a b : Option PixelFormat) → Decides (same_format a b) (a ≡ b)
format_tells a b = search (rules, tests)

modifier_tells : (a b : Option Modifier) → Decides (same_modifier a b) (a ≡ b)
modifier_tells a b = search (rules, tests)

apart_by : (f m : Bool) (a b : Entry) → Decides f (a.format ≡ b.format) → Decides m (a.modifier ≡ b.modifier) → AreApart a b → (f && m) ≡ false
apart_by true true a b formats modifiers apart = absurd (apart (formats.0 refl) (modifiers.0 refl))
apart_by true false a b formats modifiers apart = refl
apart_by false m a b formats modifiers apart = refl

not_same : (a b : Entry) → AreApart a b → same_asked (pair_asked a) (pair_asked b) ≡ false
not_same a b apart = apart_by _ _ a b (format_tells a.format b.format) (modifier_tells a.modifier b.modifier) apart

asks_none : (f : Option PixelFormat) (m : Option Modifier) → ((pair : Pair) → f ≡ Some pair.format → m ≡ Some pair.modifier → IsTiledMisfit pair → ⊥) → asks_misfit f m ≡ false
asks_none None m fits = refl
asks_none (Some f) None fits = refl
asks_none (Some f) (Some m) fits = no_misfit (record { format = f; modifier = m }) (fits (record { format = f; modifier = m }) refl refl)

room_left : (n : ℕ) → nat_lt n 64 ≡ true → nat_lt (n + 0) 64 ≡ true
room_left n h = search (rules, tests)

asked_stated : (e : Entry) → asked_of (entry_record e) ≡ Ok (pair_asked e)
asked_stated e =
    next (named (choice_named format_named) field.PixelFormat (choice format_name e.format)) e.format _ (Ok (pair_asked e)) (format_choice field.PixelFormat e.format)
    (next (named (choice_named modifier_named) field.PixelFormatModifier (choice modifier_name e.modifier)) e.modifier _ (Ok (pair_asked e)) (modifier_choice field.PixelFormatModifier e.modifier) refl)

pub pair_stated : (front : List Entry) (e : Entry) → IsEntry e → nat_lt (length front) 64 ≡ true → is_asked_already front (pair_asked e) ≡ false
    → with_asked None field.PixelFormat front [] (pair_asked e) ≡ Ok (pair_asked e ∷ [])
pair_stated front e is room new =
    next (passing (wrong code.TiledMisfit field.PixelFormat) (λ pair. not (asks_misfit pair.format pair.modifier)) (pair_asked e)) (pair_asked e) _ (Ok (pair_asked e ∷ []))
    (passes _ (λ pair. not (asks_misfit pair.format pair.modifier)) (pair_asked e) (refused_not _ (asks_none e.format e.modifier is.fitting)))
    (next (passing (wrong code.TooMany field.PixelFormat) (λ _. nat_lt (length front + 0) 64) (pair_asked e)) (pair_asked e) _ (Ok (pair_asked e ∷ []))
    (passes _ (λ _. nat_lt (length front + 0) 64) (pair_asked e) (room_left (length front) room))
    (next (passing (wrong code.RepeatedPair field.PixelFormat) (λ pair. not (is_asked_already front pair || has_asked [] pair)) (pair_asked e)) (pair_asked e) _ (Ok (pair_asked e ∷ []))
    (passes _ (λ pair. not (is_asked_already front pair || has_asked [] pair)) (pair_asked e) (ap (λ b. not (b || false)) new)) refl))

pub entry_stated : (front : List Entry) (e : Entry) → IsEntry e → IsInRange e.bounds.asked → nat_lt (length front) 64 ≡ true → is_asked_already front (pair_asked e) ≡ false
    → with_entry None front (entry_record e) ≡ Ok (front ++ e ∷ [])
unfolding is_key_of
entry_stated front e is small room new =
    next (asked_pairs None front (entry_record e)) (pair_asked e ∷ []) _ (Ok (front ++ e ∷ []))
    (next (own_pair None front (entry_record e)) (pair_asked e ∷ []) _ (Ok (pair_asked e ∷ []))
    (next (asked_of (entry_record e)) (pair_asked e) _ (Ok (pair_asked e ∷ [])) (asked_stated e) (pair_stated front e is room new)) refl)
    (next (colour_set_of (array (colour_items e.colours))) e.colours _ (Ok (front ++ e ∷ [])) (colour_set_stated e.colours is.some_colours)
    (next (bounds_of (entry_record e)) e.bounds _ (Ok (front ++ e ∷ [])) (bounds_stated e is small) refl))

-- a list of entries, each of them stated so
pub entries_by : (state : Entry → Data) (es : List Entry) → length es ≤ 64 → AllPairs AreApart es → All IsEntry es → All (λ e. IsInRange e.bounds.asked) es
    → ((front : List Entry) (e : Entry) → IsEntry e → IsInRange e.bounds.asked → nat_lt (length front) 64 ≡ true → is_asked_already front (pair_asked e) ≡ false → with_entry None front (state e) ≡ Ok (front ++ e ∷ []))
    → entries_of None (list state es) ≡ Ok es
entries_by state es few distinct each small reads =
    each_stated state (with_entry None) es (λ front back e is.
    reads front e (item_has IsEntry es front back e is each) (item_has (λ e. IsInRange e.bounds.asked) es front back e is small) (has_room es front back e is few)
    (none_before AreApart (λ a b. same_asked (pair_asked a) (pair_asked b)) not_same es front back e is distinct)) [] es refl

counts_stated : (p : Participant) → AreCounts p.counts → counts_of (participant_record p) ≡ Ok p.counts
counts_stated p small =
    let c = p.counts in
    next (number_up_to field.MinBufferCountForCamping _ (natural c.min_buffer_count_for_camping)) c.min_buffer_count_for_camping _ (Ok c) (number_stated field.MinBufferCountForCamping _ c.min_buffer_count_for_camping small.camping)
    (next (number_up_to field.MinBufferCountForDedicatedSlack _ (natural c.min_buffer_count_for_dedicated_slack)) c.min_buffer_count_for_dedicated_slack _ (Ok c) (number_stated field.MinBufferCountForDedicatedSlack _ c.min_buffer_count_for_dedicated_slack small.dedicated)
    (next (number_up_to field.MinBufferCountForSharedSlack _ (natural c.min_buffer_count_for_shared_slack)) c.min_buffer_count_for_shared_slack _ (Ok c) (number_stated field.MinBufferCountForSharedSlack _ c.min_buffer_count_for_shared_slack small.shared)
    (next (number_up_to field.MinBufferCount _ (natural c.min_buffer_count)) c.min_buffer_count _ (Ok c) (number_stated field.MinBufferCount _ c.min_buffer_count small.minimum)
    (next (number_up_to field.MaxBufferCount _ (natural c.max_buffer_count)) c.max_buffer_count _ (Ok c) (number_stated field.MaxBufferCount _ c.max_buffer_count small.maximum) refl))))

pub participant_stated : EachParticipantIsStated
unfolding is_key_of
participant_stated p is small =
    next (usage_of (usage_record p.usage)) p.usage _ (Ok p) (usage_stated p.usage is.families)
    (next (counts_of (participant_record p)) p.counts _ (Ok p) (counts_stated p small.counts)
    (next (memory_of None (memory_record p.memory)) p.memory _ (Ok p) (memory_stated p.memory small.memory is.few_heaps is.distinct_heaps is.each_heap)
    (next (entries_of None (list entry_record p.entries)) p.entries _ (Ok p) (entries_by entry_record p.entries is.few_entries is.distinct_entries is.each_entry small.bounds entry_stated) refl)))
