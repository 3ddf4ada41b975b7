-- The record of a platform states it.
use Rattle.std.proofs.Common.{◌≡◌, ◌≢◌, ◌≤◌, ◌==◌, Bool, true, false, not, List, [], ◌∷◌, ◌++◌, length, None, Ok, refl, rules, tests, Decides}
use Rattle.std.specs.Prelude.{All, AllPairs}
use Rattle.sysmem_counts.specs.declared.field.Field.TheVariants as field
use Rattle.sysmem_formats.specs.declared.colour_space.ColourSpace.{ColourSpace}
use Rattle.sysmem_formats.specs.declared.offer.Pair.{Pair}
use Rattle.sysmem_formats.specs.Layout.{IsTiledMisfit}
use Rattle.sysmem_formats.specs.Names.{format_name, modifier_name, colour_name}
use Rattle.serde_json.specs.Data.{Data, string}
use Rattle.record_reading.specs.declared.fault.Code.TheVariants as code
use Rattle.record_reading.specs.Faults.{wrong}
use Rattle.record_reading.specs.Reading.Fields.{is_key_of, named, passing, read_each}
use Rattle.record_reading.specs.Reading.Heaps.{heaps_of}
use Rattle.record_reading.specs.Reading.Names.{format_named, modifier_named, colour_named}
use Rattle.negotiation_inputs.specs.Pairs.{same_pair, has_pair, same_colour, lists_colour, is_tiled_misfit}
use Rattle.record_reading.specs.Reading.Platform.{pair_of, with_pair, pairs_of, with_new_colour, colours_of}
use Rattle.record_laws.specs.Laws.{EachPlatformIsStated}
use Rattle.record_laws.specs.Records.{list, heap_record, pair_record, colour_record}
use Rattle.record_laws.proofs.Each.{passes, next, each_stated, item_has, none_before, not_empty, refused_not}
use Rattle.record_laws.proofs.Heaps.{heaps_list}
use Rattle.sysmem_sanitise.proofs.CallerLemmas.{own_format_name, own_modifier_name, own_colour_name}
use Rattle.record_laws.proofs.Names.{named_stated}

pub misfit_tells : (p : Pair) → Decides (is_tiled_misfit p) (IsTiledMisfit p)
misfit_tells p = search (rules, tests)

pub no_misfit : (p : Pair) → (IsTiledMisfit p → ⊥) → is_tiled_misfit p ≡ false
no_misfit p fits = by_test (is_tiled_misfit p) (misfit_tells p) where
  by_test : (b : Bool) → Decides b (IsTiledMisfit p) → b ≡ false
  by_test true decides = absurd (fits (decides.0 refl))
  by_test false decides = refl

pair_tells : (a b : Pair) → Decides (same_pair a b) (a ≡ b)
pair_tells a b = search (rules, tests)

colour_tells : (a b : ColourSpace) → Decides (same_colour a b) (a ≡ b)
colour_tells a b = search (rules, tests)

apart : (b : Bool) (P : Type 0) → Decides b P → (P → ⊥) → b ≡ false
apart true P decides not = absurd (not (decides.0 refl))
apart false P decides not = refl

pair_stated : (p : Pair) → pair_of (pair_record p) ≡ Ok p
unfolding is_key_of
pair_stated p =
    next (named format_named field.PixelFormat (string (format_name p.format))) p.format _ (Ok p) (named_stated format_named field.PixelFormat (format_name p.format) p.format (own_format_name p.format))
    (next (named modifier_named field.PixelFormatModifier (string (modifier_name p.modifier))) p.modifier _ (Ok p) (named_stated modifier_named field.PixelFormatModifier (modifier_name p.modifier) p.modifier (own_modifier_name p.modifier)) refl)

-- a list of pairs, each of them stated so
pub pairs_by : (state : Pair → Data) (ps : List Pair) → 1 ≤ length ps → AllPairs (λ a b. a ≢ b) ps → All (λ p. IsTiledMisfit p → ⊥) ps
    → ((p : Pair) → pair_of (state p) ≡ Ok p) → pairs_of None (list state ps) ≡ Ok ps
pairs_by state ps some distinct fits reads =
    next (read_each (with_pair None) [] _) ps _ (Ok ps)
    (each_stated state (with_pair None) ps (λ front back p is.
    next (pair_of (state p)) p _ (Ok (front ++ p ∷ [])) (reads p)
    (next (passing (wrong code.TiledMisfit field.Pairs) (λ pair. not (is_tiled_misfit pair)) p) p _ (Ok (front ++ p ∷ [])) (passes _ (λ pair. not (is_tiled_misfit pair)) p (refused_not _ (no_misfit p (item_has (λ p. IsTiledMisfit p → ⊥) ps front back p is fits))))
    (next (passing (wrong code.BadPlatformList field.Pairs) (λ pair. not (has_pair front pair)) p) p _ (Ok (front ++ p ∷ []))
    (passes _ (λ pair. not (has_pair front pair)) p (refused_not _ (none_before (λ a b. a ≢ b) same_pair (λ a b differ. apart (same_pair a b) (a ≡ b) (pair_tells a b) differ) ps front back p is distinct))) refl))) [] ps refl)
    (passes _ (λ ps. not (length ps == 0)) ps (not_empty ps some))

pub colours_list : (cs : List ColourSpace) → 1 ≤ length cs → AllPairs (λ a b. a ≢ b) cs → colours_of None (list colour_record cs) ≡ Ok cs
colours_list cs some distinct =
    next (read_each (with_new_colour None) [] _) cs _ (Ok cs)
    (each_stated colour_record (with_new_colour None) cs (λ front back c is.
    next (named colour_named field.ColorSpaces (colour_record c)) c _ (Ok (front ++ c ∷ [])) (named_stated colour_named field.ColorSpaces (colour_name c) c (own_colour_name c))
    (next (passing (wrong code.BadPlatformList field.ColorSpaces) (λ colour. not (lists_colour front colour)) c) c _ (Ok (front ++ c ∷ []))
    (passes _ (λ colour. not (lists_colour front colour)) c (refused_not _ (none_before (λ a b. a ≢ b) same_colour (λ a b differ. apart (same_colour a b) (a ≡ b) (colour_tells a b) differ) cs front back c is distinct))) refl)) [] cs refl)
    (passes _ (λ cs. not (length cs == 0)) cs (not_empty cs some))

pub platform_stated : EachPlatformIsStated
unfolding is_key_of
platform_stated p is small =
    next (heaps_of None (list heap_record p.heaps)) p.heaps _ (Ok p) (heaps_list p.heaps is.some_heaps is.few_heaps is.distinct_heaps is.each_heap small)
    (next (pairs_of None (list pair_record p.pairs)) p.pairs _ (Ok p) (pairs_by pair_record p.pairs is.some_pairs is.distinct_pairs is.fitting_pairs pair_stated)
    (next (colours_of None (list colour_record p.colours)) p.colours _ (Ok p) (colours_list p.colours is.some_colours is.distinct_colours) refl))
