-- The records of heaps state them.
use Rattle.std.proofs.Common.{◌≡◌, ℕ, ◌≤◌, ◌==◌, Bool, true, false, ◌||◌, List, [], ◌∷◌, ◌++◌, length, None, Ok, refl}
use Rattle.std.specs.Prelude.{All, AllPairs, nat_le, nat_lt, not}
use Rattle.serde_json.specs.Data.{Data, string, array, no_items}
use Rattle.sysmem_counts.specs.declared.field.Field.TheVariants as field
use Rattle.sysmem_memory.specs.declared.domain.CoherencyDomain.TheVariants.{Cpu, Ram, Inaccessible}
use Rattle.sysmem_memory.specs.Domain.{domain_name}
use Rattle.sysmem_memory.specs.Heap.{HeapName, HeapFacts, same_heap}
use Rattle.record_reading.specs.declared.fault.Code.TheVariants as code
use Rattle.record_reading.specs.Faults.{wrong}
use Rattle.negotiation_inputs.specs.Platform.{IsHeap}
use Rattle.record_reading.specs.Reading.Fields.{is_key_of, required, kept, passing, read_each}
use Rattle.negotiation_inputs.specs.Heaps.{IsHeapName, is_heap_type, has_heap, has_permitted}
use Rattle.record_reading.specs.Reading.Heaps.{heap_type_of, heap_name_of, domains_of, heap_of, with_heap, heaps_of, permitted_heap, with_permitted, permitted_of}
use Rattle.record_reading.specs.Reading.Names.{domain_named}
use Rattle.record_laws.specs.Ranges.{most_large, IsHeapId}
use Rattle.record_laws.specs.Records.{list, item_if, heap_name_record, heap_record}
use Rattle.record_laws.proofs.Each.{passes, next, each_stated, item_has, has_room, none_before, not_empty, up_to, refused_not}

pub domains_by : (cpu ram inaccessible : Bool) → (cpu || ram || inaccessible) ≡ true
    → domains_of (array (item_if cpu (string (domain_name Cpu)) (item_if ram (string (domain_name Ram)) (item_if inaccessible (string (domain_name Inaccessible)) no_items))))
    ≡ Ok (record { cpu = cpu; ram = ram; inaccessible = inaccessible })
unfolding domain_named
domains_by true true true some = refl
domains_by true true false some = refl
domains_by true false true some = refl
domains_by true false false some = refl
domains_by false true true some = refl
domains_by false true false some = refl
domains_by false false true some = refl
domains_by false false false some = absurd (cc)

pub type_stated : (text : List ℕ) → is_heap_type text ≡ true → heap_type_of None (string text) ≡ Ok text
type_stated text typed = next (passing (wrong code.WrongKind field.HeapType) is_heap_type text) text (kept None field.HeapType) (Ok text) (passes _ is_heap_type text typed) refl

-- the name of a permitted heap
pub permitted_stated : (h : HeapName) → IsHeapName h → IsHeapId h → permitted_heap None (heap_name_record h) ≡ Ok h
unfolding is_key_of
permitted_stated h typed small =
    next (heap_type_of None (string h.heap_type)) h.heap_type _ (Ok h) (type_stated h.heap_type typed)
    (next (passing (wrong code.WrongKind field.Id) (λ n. nat_le n most_large) h.id) h.id _ (Ok h) (passes _ (λ n. nat_le n most_large) h.id (up_to h.id most_large small)) refl)

-- a platform's heap
pub heap_stated : (h : HeapFacts) → IsHeap h → IsHeapId h.heap → heap_of None (heap_record h) ≡ Ok h
unfolding is_key_of
heap_stated h is small =
    next (heap_name_of None (heap_record h)) h.heap _ (Ok h)
    (next (heap_type_of None (string h.heap.heap_type)) h.heap.heap_type _ (Ok h.heap) (type_stated h.heap.heap_type is.0)
    (next (passing (wrong code.WrongKind field.Id) (λ n. nat_le n most_large) h.heap.id) h.heap.id _ (Ok h.heap) (passes _ (λ n. nat_le n most_large) h.heap.id (up_to h.heap.id most_large small)) refl))
    (next (required field.Domains domains_of (heap_record h)) h.domains _ (Ok h) (domains_by h.domains.cpu h.domains.ram h.domains.inaccessible is.1) refl)

-- a list of permitted heaps, each of them stated so
pub permitted_by : (state : HeapName → Data) (hs : List HeapName) → length hs ≤ 64 → AllPairs (λ a b. same_heap a b ≡ false) hs
    → ((front back : List HeapName) (h : HeapName) → front ++ h ∷ back ≡ hs → permitted_heap None (state h) ≡ Ok h) → permitted_of None (list state hs) ≡ Ok hs
permitted_by state hs few distinct reads =
    each_stated state (with_permitted None) hs (λ front back h is.
    next (permitted_heap None (state h)) h _ (Ok (front ++ h ∷ [])) (reads front back h is)
    (next (passing (wrong code.TooMany field.PermittedHeaps) (λ _. nat_lt (length front) 64) h) h _ (Ok (front ++ h ∷ [])) (passes _ (λ _. nat_lt (length front) 64) h (has_room hs front back h is few))
    (next (passing (wrong code.RepeatedHeap field.PermittedHeaps) (λ heap. not (has_permitted front heap)) h) h _ (Ok (front ++ h ∷ []))
    (passes _ (λ heap. not (has_permitted front heap)) h (refused_not _ (none_before (λ a b. same_heap a b ≡ false) same_heap (λ a b e. e) hs front back h is distinct))) refl))) [] hs refl

pub permitted_list : (hs : List HeapName) → length hs ≤ 64 → AllPairs (λ a b. same_heap a b ≡ false) hs → All IsHeapName hs → All IsHeapId hs
    → permitted_of None (list heap_name_record hs) ≡ Ok hs
permitted_list hs few distinct each small =
    permitted_by heap_name_record hs few distinct (λ front back h is. permitted_stated h (item_has IsHeapName hs front back h is each) (item_has IsHeapId hs front back h is small))

-- a list of a platform's heaps, each of them stated so
pub heaps_by : (state : HeapFacts → Data) (hs : List HeapFacts) → 1 ≤ length hs → length hs ≤ 64 → AllPairs (λ a b. same_heap a.heap b.heap ≡ false) hs
    → ((front back : List HeapFacts) (h : HeapFacts) → front ++ h ∷ back ≡ hs → heap_of None (state h) ≡ Ok h) → heaps_of None (list state hs) ≡ Ok hs
heaps_by state hs some few distinct reads =
    next (read_each (with_heap None) [] _) hs _ (Ok hs)
    (each_stated state (with_heap None) hs (λ front back h is.
    next (heap_of None (state h)) h _ (Ok (front ++ h ∷ [])) (reads front back h is)
    (next (passing (wrong code.TooMany field.Heaps) (λ _. nat_lt (length front) 64) h) h _ (Ok (front ++ h ∷ [])) (passes _ (λ _. nat_lt (length front) 64) h (has_room hs front back h is few))
    (next (passing (wrong code.BadPlatformList field.Heaps) (λ heap. not (has_heap front heap)) h) h _ (Ok (front ++ h ∷ []))
    (passes _ (λ heap. not (has_heap front heap)) h (refused_not _ (none_before (λ a b. same_heap a.heap b.heap ≡ false) (λ a b. same_heap a.heap b.heap) (λ a b e. e) hs front back h is distinct))) refl))) [] hs refl)
    (passes _ (λ hs. not (length hs == 0)) hs (not_empty hs some))

pub heaps_list : (hs : List HeapFacts) → 1 ≤ length hs → length hs ≤ 64 → AllPairs (λ a b. same_heap a.heap b.heap ≡ false) hs → All IsHeap hs → All (λ h. IsHeapId h.heap) hs
    → heaps_of None (list heap_record hs) ≡ Ok hs
heaps_list hs some few distinct each small =
    heaps_by heap_record hs some few distinct (λ front back h is. heap_stated h (item_has IsHeap hs front back h is each) (item_has (λ h. IsHeapId h.heap) hs front back h is small))
