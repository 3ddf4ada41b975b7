-- What a platform's record states is what a platform may have.
use Rattle.std.proofs.Common.{◌≡◌, ◌≢◌, ◌≤◌, ◌==◌, ◌-◌, ◌^◌, true, false, not, List, [], ◌∷◌, ◌++◌, length, None, Ok, subst, arith, length-append, ◌∙◌}
use Rattle.std.specs.Prelude.{All, AllPairs, nat_lt}
use Rattle.std.proofs.lemmas.List.Elements.{All-push}
use Rattle.std.proofs.lemmas.List.Quantifiers.{all_pairs_push}
use Rattle.serde_json.specs.Data.{Data}
use Rattle.sysmem_formats.specs.declared.colour_space.ColourSpace.{ColourSpace}
use Rattle.sysmem_formats.specs.declared.offer.Pair.{Pair}
use Rattle.sysmem_formats.specs.Layout.{IsTiledMisfit}
use Rattle.sysmem_memory.specs.Heap.{HeapFacts, same_heap}
use Rattle.sysmem_counts.specs.declared.field.Field.TheVariants as field
use Rattle.record_reading.specs.declared.fault.Code.TheVariants as code
use Rattle.record_reading.specs.declared.fault.FaultPlace.TheVariants.{Whole}
use Rattle.record_reading.specs.Reading.Fields.{passing, object_of, required, stated, list_of, named, read_each}
use Rattle.record_reading.specs.Reading.Heaps.{heap_of, has_heap, with_heap, heaps_of}
use Rattle.record_reading.specs.Reading.Names.{colour_named}
use Rattle.record_reading.specs.Reading.Pairs.{same_pair, has_pair, same_colour, lists_colour, is_tiled_misfit}
use Rattle.record_reading.specs.Reading.Platform.{pair_of, with_pair, pairs_of, with_new_colour, colours_of, platform_fields, platform_of}
use Rattle.negotiation_inputs.specs.Platform.{PlatformFacts, IsHeap, IsPlatform}
use Rattle.negotiation_inputs.proofs.CallerLemmas.{colour-told, misfit-told, none_passes, pair-told}
use Rattle.record_reading.proofs.Heaps.{heap_of-is, heap_of-id}
use Rattle.record_reading.proofs.Steps.{bind-ok, bind-then, ok-same, passing-ok, not-true, each-keeps, some, below}

-- its id is of 64 bits
abbrev HasId : HeapFacts → Type 0
HasId h = h.heap.id ≤ 2 ^ 64 - 1

-- the heaps so far
record Heaps (hs : List HeapFacts) : Type 0 where
  few : length hs ≤ 64
  distinct : AllPairs (λ a b. same_heap a.heap b.heap ≡ false) hs
  each : All IsHeap hs
  ids : All HasId hs

with_heap-keeps : (hs ts : List HeapFacts) (d : Data) → Heaps hs → with_heap None hs d ≡ Ok ts → Heaps ts
with_heap-keeps hs ts d kept gives =
    let (heap, read, after) = bind-ok (heap_of None d) _ ts gives in
    let (roomy, room, after2) = bind-ok (passing _ (λ _. nat_lt (length hs) 64) heap) _ ts after in
    let (new, passes, made) = bind-ok (passing _ (λ heap. not (has_heap hs heap)) roomy) _ ts after2 in
    let roomed = passing-ok _ (λ _. nat_lt (length hs) 64) heap roomy room in
    let passed = passing-ok _ (λ heap. not (has_heap hs heap)) roomy new passes in
    let few = below (length hs) roomed.holds in
    let absent : has_heap hs new ≡ false = not-true _ passed.holds in
    let heap-is : IsHeap new = subst IsHeap (roomed.same ∙ passed.same) (heap_of-is d heap read) in
    let heap-id : HasId new = subst HasId (roomed.same ∙ passed.same) (heap_of-id d heap read) in
    let is : hs ++ new ∷ [] ≡ ts = ok-same _ _ made in
    subst Heaps is (record {
      few = simp length-append (omega arith);
      distinct = all_pairs_push (λ a b. same_heap a.heap b.heap ≡ false) hs new kept.distinct (λ k e within. none_passes (λ h. same_heap h.heap new.heap) hs k e absent within);
      each = All-push IsHeap hs new kept.each heap-is;
      ids = All-push HasId hs new kept.ids heap-id;
    })

no_heaps : Heaps []
no_heaps = record {
  few = omega arith;
  distinct = λ i j e before within. absurd (omega arith);
  each = λ k e within. absurd (omega arith);
  ids = λ k e within. absurd (omega arith);
}

-- what a record's heaps are
pub record AreHeaps (hs : List HeapFacts) : Type 0 where
  pub some : 1 ≤ length hs
  pub few : length hs ≤ 64
  pub distinct : AllPairs (λ a b. same_heap a.heap b.heap ≡ false) hs
  pub each : All IsHeap hs
  pub ids : All (λ h. h.heap.id ≤ 2 ^ 64 - 1) hs

pub heaps_of-are : (d : Data) (ts : List HeapFacts) → heaps_of None d ≡ Ok ts → AreHeaps ts
heaps_of-are d ts gives =
    let (items, listed, after) = bind-ok (list_of _ d) _ ts gives in
    let (hs, each, tested) = bind-ok (read_each (with_heap None) [] items) _ ts after in
    let passed = passing-ok _ (λ heaps. not (length heaps == 0)) hs ts tested in
    let kept = subst Heaps passed.same (each-keeps (with_heap None) Heaps with_heap-keeps items [] hs no_heaps each) in
    record { some = some ts passed.holds; few = kept.few; distinct = kept.distinct; each = kept.each; ids = kept.ids }

distinct_pair : (a b : Pair) → same_pair a b ≡ false → a ≢ b
distinct_pair a b h e = let t : same_pair a b ≡ true = (pair-told a b).1 e in absurd (cc)

distinct_colour : (a b : ColourSpace) → same_colour a b ≡ false → a ≢ b
distinct_colour a b h e = let t : same_colour a b ≡ true = (colour-told a b).1 e in absurd (cc)

pub fitting : (p : Pair) → is_tiled_misfit p ≡ false → IsTiledMisfit p → ⊥
fitting p h misfit = let holds = (misfit-told p).1 misfit in absurd (cc)

-- the pairs so far
record Pairs (ps : List Pair) : Type 0 where
  distinct : AllPairs (λ a b. a ≢ b) ps
  fitting : All (λ p. IsTiledMisfit p → ⊥) ps

with_pair-keeps : (ps ts : List Pair) (d : Data) → Pairs ps → with_pair None ps d ≡ Ok ts → Pairs ts
with_pair-keeps ps ts d kept gives =
    let (pair, read, after) = bind-ok (pair_of d) _ ts gives in
    let (fits, tested, after2) = bind-ok (passing _ (λ pair. not (is_tiled_misfit pair)) pair) _ ts after in
    let (new, passes, made) = bind-ok (passing _ (λ pair. not (has_pair ps pair)) fits) _ ts after2 in
    let fit = passing-ok _ (λ pair. not (is_tiled_misfit pair)) pair fits tested in
    let passed = passing-ok _ (λ pair. not (has_pair ps pair)) fits new passes in
    let fits-new : is_tiled_misfit new ≡ false = not-true _ (subst (λ (x : Pair). not (is_tiled_misfit x) ≡ true) passed.same fit.holds) in
    let absent = not-true _ passed.holds in
    let is : ps ++ new ∷ [] ≡ ts = ok-same _ _ made in
    subst Pairs is (record {
      distinct = all_pairs_push (λ a b. a ≢ b) ps new kept.distinct (λ k e within. distinct_pair _ _ (none_passes (λ p. same_pair p new) ps k e absent within));
      fitting = All-push (λ p. IsTiledMisfit p → ⊥) ps new kept.fitting (fitting new fits-new);
    })

-- what a record's pairs are
pub record ArePairs (ps : List Pair) : Type 0 where
  pub some : 1 ≤ length ps
  pub distinct : AllPairs (λ a b. a ≢ b) ps
  pub fitting : All (λ p. IsTiledMisfit p → ⊥) ps

pub pairs_of-are : (d : Data) (ts : List Pair) → pairs_of None d ≡ Ok ts → ArePairs ts
pairs_of-are d ts gives =
    let (items, listed, after) = bind-ok (list_of _ d) _ ts gives in
    let (ps, each, tested) = bind-ok (read_each (with_pair None) [] items) _ ts after in
    let passed = passing-ok _ (λ pairs. not (length pairs == 0)) ps ts tested in
    let kept = subst Pairs passed.same (each-keeps (with_pair None) Pairs with_pair-keeps items [] ps (record { distinct = λ i j e before within. absurd (omega arith); fitting = λ k e within. absurd (omega arith) }) each) in
    record { some = some ts passed.holds; distinct = kept.distinct; fitting = kept.fitting }

with_colour-keeps : (cs ts : List ColourSpace) (d : Data) → AllPairs (λ a b. a ≢ b) cs → with_new_colour None cs d ≡ Ok ts → AllPairs (λ a b. a ≢ b) ts
with_colour-keeps cs ts d kept gives =
    let (colour, read, after) = bind-ok (named colour_named _ d) _ ts gives in
    let (new, passes, made) = bind-ok (passing _ (λ colour. not (lists_colour cs colour)) colour) _ ts after in
    let absent = not-true _ (passing-ok _ (λ colour. not (lists_colour cs colour)) colour new passes).holds in
    let is : cs ++ new ∷ [] ≡ ts = ok-same _ _ made in
    subst (AllPairs (λ a b. a ≢ b)) is (all_pairs_push (λ a b. a ≢ b) cs new kept (λ k e within. distinct_colour _ _ (none_passes (λ c. same_colour c new) cs k e absent within)))

-- what a record's colour spaces are
pub record AreColours (cs : List ColourSpace) : Type 0 where
  pub some : 1 ≤ length cs
  pub distinct : AllPairs (λ a b. a ≢ b) cs

pub colours_of-are : (d : Data) (ts : List ColourSpace) → colours_of None d ≡ Ok ts → AreColours ts
colours_of-are d ts gives =
    let (items, listed, after) = bind-ok (list_of _ d) _ ts gives in
    let (cs, each, tested) = bind-ok (read_each (with_new_colour None) [] items) _ ts after in
    let passed = passing-ok _ (λ colours. not (length colours == 0)) cs ts tested in
    let kept = subst (AllPairs (λ a b. a ≢ b)) passed.same (each-keeps (with_new_colour None) (AllPairs (λ a b. a ≢ b)) with_colour-keeps items [] cs (λ i j e before within. absurd (omega arith)) each) in
    record { some = some ts passed.holds; distinct = kept }

-- what a platform's record states, and the ids of its heaps
pub record IsStatedPlatform (p : PlatformFacts) : Type 0 where
  pub platform : IsPlatform p.heaps p.pairs p.colours
  pub ids : All (λ h. h.heap.id ≤ 2 ^ 64 - 1) p.heaps

pub is_stated : (p : PlatformFacts) → AreHeaps p.heaps → ArePairs p.pairs → AreColours p.colours → IsStatedPlatform p
is_stated p hs ps cs = record {
  platform = record {
    some_heaps = hs.some;
    few_heaps = hs.few;
    distinct_heaps = hs.distinct;
    each_heap = hs.each;
    some_pairs = ps.some;
    distinct_pairs = ps.distinct;
    fitting_pairs = ps.fitting;
    some_colours = cs.some;
    distinct_colours = cs.distinct;
  };
  ids = hs.ids;
}

pub platform_of-is : (d : Data) (p : PlatformFacts) → platform_of d ≡ Ok p → IsStatedPlatform p
platform_of-is d p gives =
    bind-then (object_of Whole platform_fields d) _ p gives (λ object is a1.
    bind-then (required field.Heaps (heaps_of None) d) _ p a1 (λ hs heaps a2.
    bind-then (required field.Pairs (pairs_of None) d) _ p a2 (λ ps pairs a3.
    bind-then (required field.ColorSpaces (colours_of None) d) _ p a3 (λ cs colours made.
    let (h, there, some) = bind-ok (stated code.WrongKind field.Heaps d) (heaps_of None) hs heaps in
    let (q, there', some') = bind-ok (stated code.WrongKind field.Pairs d) (pairs_of None) ps pairs in
    let (c, there'', some'') = bind-ok (stated code.WrongKind field.ColorSpaces d) (colours_of None) cs colours in
    subst IsStatedPlatform (ok-same _ p made)
    (is_stated (record { heaps = hs; pairs = ps; colours = cs }) (heaps_of-are h hs some) (pairs_of-are q ps some') (colours_of-are c cs some''))))))
