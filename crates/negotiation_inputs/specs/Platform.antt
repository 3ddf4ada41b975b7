-- What a platform has.
use Rattle.std.specs.Prelude.{◌≡◌, ◌≢◌, ◌≤◌, List, length, true, false, All, AllPairs}
use Rattle.sysmem_formats.specs.declared.colour_space.ColourSpace.{ColourSpace}
use Rattle.sysmem_formats.specs.declared.offer.Offer.{Offer}
use Rattle.sysmem_formats.specs.declared.offer.Pair.{Pair}
use Rattle.sysmem_formats.specs.Layout.{IsTiledMisfit}
use Rattle.sysmem_formats.specs.Offers.{offers}
use Rattle.sysmem_memory.specs.Heap.{HeapFacts, same_heap}
use Rattle.negotiation_inputs.specs.Heaps.{IsHeapName, has_domains}
use Rattle.sysmem_memory.specs.declared.bounds.TheConstants.{MOST_HEAPS}

-- a platform's heaps, its pairs of a format and a modifier, and its
-- colour spaces, each in its order
pub record PlatformFacts : Type 0 where
  pub heaps : List HeapFacts
  pub pairs : List Pair
  pub colours : List ColourSpace

-- a heap with a name and some coherency domain
abbrev pub IsHeap : HeapFacts → Type 0
IsHeap h = IsHeapName h.heap × (has_domains h.domains ≡ true)

-- what a platform may have: 1 to 64 heaps, some pairs and some colour spaces, none of them twice,
-- and no tiled modifier with a format that isn't of 4 bytes
pub record IsPlatform (heaps : List HeapFacts) (pairs : List Pair)
    (colours : List ColourSpace) : Type 0 where
  pub some_heaps : 1 ≤ length heaps
  pub few_heaps : length heaps ≤ MOST_HEAPS
  pub distinct_heaps : AllPairs (λ a b. same_heap a.heap b.heap ≡ false) heaps
  pub each_heap : All IsHeap heaps
  pub some_pairs : 1 ≤ length pairs
  pub distinct_pairs : AllPairs (λ a b. a ≢ b) pairs
  pub fitting_pairs : All (λ pair. IsTiledMisfit pair → ⊥) pairs
  pub some_colours : 1 ≤ length colours
  pub distinct_colours : AllPairs (λ a b. a ≢ b) colours

-- the platform's offers, in order
abbrev pub offers_of : PlatformFacts → List Offer
offers_of p = offers p.pairs p.colours
