-- What is promised of a script's calls on another platform.
use Rattle.std.specs.Prelude.{◌++◌, ◌∷◌, [], ℕ, List, true, not, map, set, slice_get}
use Rattle.std.specs.List.{filter}
use Rattle.std.specs.Option.{option_map_or}
use Rattle.negotiation_inputs.specs.Platform.{PlatformFacts}
use Rattle.sysmem_memory.specs.Heap.{HeapFacts}
use Rattle.script_reading.specs.declared.call.Call.{Call}
use Rattle.sysmem_formats.specs.declared.offer.Pair.{Pair}
use Rattle.sysmem_formats.specs.contracts.offer.PairPartialEq.TheImpl as pair
use Rattle.other_outcomes.specs.declared.heaps.Trait.{Trait}
use Rattle.other_outcomes.specs.declared.heaps.Trait.TheVariants.{Contiguous, Secure, Domain}
use Rattle.sysmem_memory.specs.declared.domain.CoherencyDomain.TheVariants.{Cpu, Ram, Inaccessible}
use Rattle.script_reading.specs.Seen.{call_seen}
use Rattle.script_story.specs.Told.{IsReportedOn}
use Rattle.script_story.specs.declared.outcome.Outcome.{Outcome}

-- on the platform with these heaps and pairs this becomes of the domain at a path, as the report of
-- the calls says it
abbrev pub IsPromisedOn : PlatformFacts → List HeapFacts → List Pair → List Call → List ℕ → Outcome
    → Type 0
IsPromisedOn platform heaps pairs calls path what =
    IsReportedOn (record platform { heaps = heaps; pairs = pairs }) (map call_seen calls) path what

-- the pairs with one more
abbrev pub with_pair : List Pair → Pair → List Pair
with_pair pairs pair = pairs ++ pair ∷ []

-- the pairs, with one of them first
abbrev pub with_first : List Pair → Pair → List Pair
with_first pairs first = first ∷ filter (λ other. not (pair.ghosts.eq other first)) pairs

-- the heap, which is so
abbrev pub made_so : Trait → HeapFacts → HeapFacts
made_so Contiguous h = record h { contiguous = true }
made_so Secure h = record h { secure = true }
made_so (Domain Cpu) h = record h { domains = record h.domains { cpu = true } }
made_so (Domain Ram) h = record h { domains = record h.domains { ram = true } }
made_so (Domain Inaccessible) h = record h { domains = record h.domains { inaccessible = true } }

-- the heaps, of which that of an index is so
abbrev pub with_so : List HeapFacts → ℕ → Trait → List HeapFacts
with_so heaps index wanted =
    option_map_or (λ h. set heaps index (made_so wanted h)) (slice_get heaps index) heaps
