-- What is amiss, and that nothing else is.
use Rattle.std.proofs.Common.{◌≡◌, ◌≢◌, ℕ, ◌^◌, ◌<◌, ◌==◌, ◌&&◌, ◌||◌, Bool, true, false, not, List, length, get_or, Option, Some, None, refl, sym, subst, arith, rules, tests, Decides}
use Rattle.std.specs.Prelude.{All, AllPairs, Any, MatchOption}
use Rattle.std.specs.Prelude.{nat_lt}
use Rattle.std.specs.List.{list_all}
use Rattle.std.specs.Int.RustNames.{bit_and}
use Rattle.std.proofs.lemmas.List.Sums.{AllPass-from_list_all, list_all-from_AllPass}
use Rattle.std.proofs.lemmas.Bool.Decides.{Decides-and}
use Rattle.sysmem_counts.specs.declared.field.Field.{Field}
use Rattle.sysmem_counts.specs.declared.field.Field.TheVariants.{Usage, PermittedHeaps, ImageFormatConstraints, PixelFormatModifier, ColorSpaces, SizeAlignment, StartOffsetDivisor, DisplayRectAlignment, RequiredMinSize, MaxWidthTimesHeight, Heaps, Pairs, HeapType, Domains}
use Rattle.sysmem_counts.specs.declared.usage.Usage.{Usage as Families}
use Rattle.sysmem_counts.specs.Usage.{usage_bits}
use Rattle.sysmem_formats.specs.declared.colour_space.ColourSpace.{ColourSpace}
use Rattle.sysmem_formats.specs.declared.modifier.Modifier.{Modifier}
use Rattle.sysmem_formats.specs.declared.offer.Pair.{Pair}
use Rattle.sysmem_formats.specs.declared.pixel_format.PixelFormat.{PixelFormat}
use Rattle.sysmem_formats.specs.Codes.{format_code, modifier_code}
use Rattle.sysmem_formats.specs.Layout.{IsTiledMisfit}
use Rattle.sysmem_image.specs.declared.entry.Entry.{Entry}
use Rattle.sysmem_memory.specs.Heap.{HeapFacts}
use Rattle.sysmem_memory.specs.Wishes.{MemoryWishes}
use Rattle.negotiation_inputs.specs.Amiss.{AreHeaps, AreListed, PlatformAmiss, ArePermitted, AreEntries, AsksMisfit, EntryAmiss, ParticipantAmiss}
use Rattle.negotiation_inputs.specs.Participant.{IsUsage, IsEntry, IsParticipant, AreApart}
use Rattle.negotiation_inputs.specs.Platform.{IsPlatform}
use Rattle.negotiation_inputs.specs.Asked.{same_asked, pair_asked, asks_misfit}
use Rattle.sysmem_memory.specs.Heap.{HeapName}
use Rattle.negotiation_inputs.specs.Heaps.{IsHeapName, has_domains, is_heap_type}
use Rattle.negotiation_inputs.specs.Pairs.{same_pair, same_colour, is_tiled_misfit}
use Rattle.negotiation_inputs.specs.Usage.{is_usage}
use Rattle.negotiation_inputs.proofs.NoneTwice.{pairs-told, pairs-tell}
use Rattle.negotiation_inputs.proofs.Same.{same_options}

pub pair-told : (a b : Pair) → Decides (same_pair a b) (a ≡ b)
pair-told a b = search (rules, tests)

pub colour-told : (a b : ColourSpace) → Decides (same_colour a b) (a ≡ b)
colour-told a b = search (rules, tests)

format-told : (a b : PixelFormat) → Decides (format_code a == format_code b) (a ≡ b)
format-told a b = search (rules, tests)

modifier-told : (a b : Modifier) → Decides (modifier_code a == modifier_code b) (a ≡ b)
modifier-told a b = search (rules, tests)

-- the two ask for one format and modifier
abbrev AreAlike : Entry → Entry → Type 0
AreAlike a b = (a.format ≡ b.format) × (a.modifier ≡ b.modifier)

alike-told : (a b : Entry) → Decides (same_asked (pair_asked a) (pair_asked b)) (AreAlike a b)
alike-told a b = Decides-and _ _ (same_options _ format-told a.format b.format) (same_options _ modifier-told a.modifier b.modifier)

pub entries-apart : (es : List Entry) → AllPairs (λ a b. same_asked (pair_asked a) (pair_asked b) ≡ false) es → AllPairs AreApart es
entries-apart es distinct i j d before within format modifier =
    pairs-told (λ a b. same_asked (pair_asked a) (pair_asked b)) AreAlike alike-told es distinct i j d before within (format, modifier)

pub entries-differ : (es : List Entry) → AllPairs AreApart es → AllPairs (λ a b. same_asked (pair_asked a) (pair_asked b) ≡ false) es
entries-differ es apart = pairs-tell (λ a b. same_asked (pair_asked a) (pair_asked b)) AreAlike alike-told es (λ i j d before within alike. apart i j d before within alike.0 alike.1)

pub pairs-listed : (ps : List Pair) → AllPairs (λ a b. same_pair a b ≡ false) ps → AllPairs (λ a b. a ≢ b) ps
pairs-listed ps distinct = pairs-told same_pair (λ a b. a ≡ b) pair-told ps distinct

pub pairs-differ : (ps : List Pair) → AllPairs (λ a b. a ≢ b) ps → AllPairs (λ a b. same_pair a b ≡ false) ps
pairs-differ ps listed = pairs-tell same_pair (λ a b. a ≡ b) pair-told ps listed

pub colours-listed : (cs : List ColourSpace) → AllPairs (λ a b. same_colour a b ≡ false) cs → AllPairs (λ a b. a ≢ b) cs
colours-listed cs distinct = pairs-told same_colour (λ a b. a ≡ b) colour-told cs distinct

pub colours-differ : (cs : List ColourSpace) → AllPairs (λ a b. a ≢ b) cs → AllPairs (λ a b. same_colour a b ≡ false) cs
colours-differ cs listed = pairs-tell same_colour (λ a b. a ≡ b) colour-told cs listed

-- where nothing is amiss, the parts make a platform
pub whole_platform : (heaps : List HeapFacts) (pairs : List Pair) (colours : List ColourSpace) → AreHeaps heaps → All (λ h. IsHeapName h.heap) heaps
    → All (λ h. has_domains h.domains ≡ true) heaps → AreListed pairs → All (λ pair. IsTiledMisfit pair → ⊥) pairs → AreListed colours → IsPlatform heaps pairs colours
whole_platform heaps pairs colours hs names domains ps fitting cs = record {
  some_heaps = hs.0;
  few_heaps = hs.1;
  distinct_heaps = hs.2;
  each_heap = λ k d within. (names k d within, domains k d within);
  some_pairs = ps.0;
  distinct_pairs = ps.1;
  fitting_pairs = fitting;
  some_colours = cs.0;
  distinct_colours = cs.1;
}

-- where something is amiss, they don't
pub no_platform : (at : Field) (heaps : List HeapFacts) (pairs : List Pair) (colours : List ColourSpace) → PlatformAmiss at heaps pairs colours → IsPlatform heaps pairs colours → ⊥
no_platform Heaps heaps pairs colours amiss is = amiss (is.some_heaps, is.few_heaps, is.distinct_heaps)
no_platform HeapType heaps pairs colours amiss is = amiss (λ k d within. (is.each_heap k d within).0)
no_platform Domains heaps pairs colours amiss is = amiss (λ k d within. (is.each_heap k d within).1)
no_platform Pairs heaps pairs colours amiss is = amiss (is.some_pairs, is.distinct_pairs)
no_platform PixelFormatModifier heaps pairs colours amiss is = amiss is.fitting_pairs
no_platform ColorSpaces heaps pairs colours amiss is = amiss (is.some_colours, is.distinct_colours)
no_platform _ heaps pairs colours amiss is = amiss

no_entry : (at : Field) (entry : Entry) → EntryAmiss at entry → IsEntry entry → ⊥
no_entry PixelFormatModifier entry (pair, format, modifier, misfit) is = is.fitting pair format modifier misfit
no_entry ColorSpaces entry amiss is = is.some_colours amiss
no_entry SizeAlignment entry amiss is = amiss is.size_alignment
no_entry StartOffsetDivisor entry amiss is = let few = is.start_offset_divisor in absurd (omega arith)
no_entry DisplayRectAlignment entry amiss is = amiss is.display_rect_alignment
no_entry RequiredMinSize entry amiss is = amiss (is.required_min_width, is.required_min_height)
no_entry MaxWidthTimesHeight entry amiss is = let some = is.max_width_times_height in absurd (omega arith)
no_entry _ entry amiss is = amiss

some_entry : (at : Field) (entries : List Entry) → Any (EntryAmiss at) entries → All IsEntry entries → ⊥
some_entry at entries (k, entry, within, is, amiss) each = no_entry at entry amiss (subst IsEntry is (each k entry within))

-- where something is amiss, the parts make no participant
pub no_participant : (at : Field) (usage : Families) (memory : MemoryWishes) (entries : List Entry) → ParticipantAmiss at usage memory entries → IsParticipant usage memory entries → ⊥
no_participant Usage usage memory entries amiss is = amiss is.families
no_participant PermittedHeaps usage memory entries amiss is = amiss (is.few_heaps, is.distinct_heaps)
no_participant HeapType usage memory entries amiss is = amiss is.each_heap
no_participant ImageFormatConstraints usage memory entries amiss is = amiss (is.few_entries, is.distinct_entries)
no_participant at usage memory entries amiss is = some_entry at entries amiss is.each_entry

no_field : (at : Field) → ((entry : Entry) → EntryAmiss at entry → ⊥) → (entries : List Entry) → Any (EntryAmiss at) entries → ⊥
no_field at none entries (k, entry, within, is, amiss) = none entry amiss

-- an entry that is amiss leaves the participant amiss, in the same field
pub entry_in : (at : Field) (usage : Families) (memory : MemoryWishes) (entries : List Entry) → Any (EntryAmiss at) entries → ParticipantAmiss at usage memory entries
entry_in Usage usage memory entries amiss = absurd (no_field Usage (λ entry none. none) entries amiss)
entry_in PermittedHeaps usage memory entries amiss = absurd (no_field PermittedHeaps (λ entry none. none) entries amiss)
entry_in HeapType usage memory entries amiss = absurd (no_field HeapType (λ entry none. none) entries amiss)
entry_in ImageFormatConstraints usage memory entries amiss = absurd (no_field ImageFormatConstraints (λ entry none. none) entries amiss)
entry_in _ usage memory entries amiss = amiss

pub misfit-told : (p : Pair) → Decides (is_tiled_misfit p) (IsTiledMisfit p)
misfit-told p = search (rules, tests)

misfit-of : (f : Option PixelFormat) (m : Option Modifier) → asks_misfit f m ≡ true → (pair : Pair) × (f ≡ Some pair.format) × (m ≡ Some pair.modifier) × IsTiledMisfit pair
misfit-of None m asks = absurd (cc)
misfit-of (Some f) None asks = absurd (cc)
misfit-of (Some f) (Some m) asks = (record { format = f; modifier = m }, refl, refl, (misfit-told (record { format = f; modifier = m })).0 asks)

pub misfit_asked : (entry : Entry) → asks_misfit entry.format entry.modifier ≡ true → AsksMisfit entry
misfit_asked entry asks = misfit-of entry.format entry.modifier asks

pub usage-by : (n m : ℕ) → (n == 1 || (not (n == 0) && not (m == 1))) ≡ true → (n ≢ 0) × (m ≡ 1 → n ≡ 1)
usage-by n m h = search (rules, tests)

usage-to : (n m : ℕ) → n ≢ 0 → (m ≡ 1 → n ≡ 1) → (n == 1 || (not (n == 0) && not (m == 1))) ≡ true
usage-to n m some alone = search (rules, tests)

-- a test of 5 bits
few-told : (n : ℕ) → Decides (nat_lt n 32) (n < 2 ^ 5)
few-told n = search (rules, tests)

families-of : (n m : ℕ) → Decides (n == 1 || (not (n == 0) && not (m == 1))) ((n ≢ 0) × (m ≡ 1 → n ≡ 1))
families-of n m = (λ h. usage-by n m h, λ is. usage-to n m is.0 is.1)

-- the two tests tell a usage
pub usage-told : (u : Families) → Decides (nat_lt (usage_bits u) 32 && is_usage u) (IsUsage u)
usage-told u =
    let both = Decides-and _ _ (few-told (usage_bits u)) (families-of (usage_bits u) (bit_and (usage_bits u) 1)) in
    (λ h. (let p = both.0 h in record { families = p.0; some = p.1.0; none_alone = p.1.1 }), λ is. both.1 (is.families, (is.some, is.none_alone)))

-- a test of each tells what it tells, of each
each-told : {X : Type 0} (p : X → Bool) (P : X → Type 0) → ((x : X) → Decides (p x) (P x)) → (xs : List X) → Decides (list_all p xs) (All P xs)
each-told p P decides xs = (
  λ yes' k d within. (decides (get_or xs k d)).0 (AllPass-from_list_all p xs yes' k d within),
  λ all. list_all-from_AllPass p xs (λ k d within. (decides (get_or xs k d)).1 (all k d within)),
)

pub names-told : (heaps : List HeapFacts) → Decides (list_all (λ h. is_heap_type h.heap.heap_type) heaps) (All (λ h. IsHeapName h.heap) heaps)
names-told heaps = each-told (λ h. is_heap_type h.heap.heap_type) (λ h. IsHeapName h.heap) (λ h. (λ e. e, λ e. e)) heaps

pub domains-told : (heaps : List HeapFacts) → Decides (list_all (λ h. has_domains h.domains) heaps) (All (λ h. has_domains h.domains ≡ true) heaps)
domains-told heaps = each-told (λ h. has_domains h.domains) (λ h. has_domains h.domains ≡ true) (λ h. (λ e. e, λ e. e)) heaps

pub permitted-told : (heaps : List HeapName) → Decides (list_all (λ h. is_heap_type h.heap_type) heaps) (All IsHeapName heaps)
permitted-told heaps = each-told (λ h. is_heap_type h.heap_type) IsHeapName (λ h. (λ e. e, λ e. e)) heaps

not-told : {P : Type 0} (t : Bool) → Decides t P → Decides (not t) (P → ⊥)
not-told true decides = (λ h. absurd (cc), λ none. absurd (none (decides.0 refl)))
not-told false decides = (λ h p. (let e = decides.1 p in cc), λ none. refl)

pub fitting-told : (pairs : List Pair) → Decides (list_all (λ pair. not (is_tiled_misfit pair)) pairs) (All (λ pair. IsTiledMisfit pair → ⊥) pairs)
fitting-told pairs = each-told (λ pair. not (is_tiled_misfit pair)) (λ pair. IsTiledMisfit pair → ⊥) (λ pair. not-told (is_tiled_misfit pair) (misfit-told pair)) pairs

-- a test that says no tells that it isn't so
pub told-no : {P : Type 0} (t : Bool) → t ≡ false → (P → t ≡ true) → P → ⊥
told-no t no' to p = let yes' : t ≡ true = to p in absurd (cc)

-- what is amiss in the entries, after the rest
pub participant-by : (usage : Families) (memory : MemoryWishes) (entries : List Entry) (r : Option Field) → IsUsage usage → ArePermitted memory.permitted_heaps
    → All IsHeapName memory.permitted_heaps → AreEntries entries → MatchOption r (All IsEntry entries) (λ at. Any (EntryAmiss at) entries)
    → MatchOption r (IsParticipant usage memory entries) (λ at. ParticipantAmiss at usage memory entries)
participant-by usage memory entries None families permitted names are each = record {
  families = families;
  few_heaps = permitted.0;
  distinct_heaps = permitted.1;
  each_heap = names;
  few_entries = are.0;
  distinct_entries = are.1;
  each_entry = each;
}
participant-by usage memory entries (Some at) families permitted names are amiss = entry_in at usage memory entries amiss

-- an entry in turn is amiss
pub entry-at : (at : Field) (entries : List Entry) (k : ℕ) (entry : Entry) → k < length entries → entry ≡ get_or entries k entry → EntryAmiss at entry → Any (EntryAmiss at) entries
entry-at at entries k entry within is amiss = (k, entry, within, sym is, amiss)
