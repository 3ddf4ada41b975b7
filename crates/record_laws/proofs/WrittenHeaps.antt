-- What is written of heaps is read as the heaps.
use Rattle.std.proofs.Common.{◌≡◌, ◌≤◌, true, false, List, length, Option, Some, None, Ok, refl, ap, ◌∙◌}
use Rattle.std.specs.Prelude.{All, AllPairs}
use Rattle.serde_json.specs.Data.{Data, string}
use Rattle.sysmem_counts.specs.declared.field.Field.{Field}
use Rattle.sysmem_counts.specs.declared.field.Field.TheVariants as field
use Rattle.sysmem_counts.specs.Field.{field_name}
use Rattle.sysmem_memory.specs.declared.domain.CoherencyDomains.{CoherencyDomains}
use Rattle.sysmem_memory.specs.Heap.{HeapName, HeapFacts, same_heap}
use Rattle.record_reading.specs.declared.fault.Code.TheVariants as code
use Rattle.record_reading.specs.declared.fault.FaultPlace.TheVariants.{At}
use Rattle.negotiation_inputs.specs.Platform.{IsHeap}
use Rattle.record_reading.specs.Reading.Fields.{is_key_of, object_of, required, number_or, flag_or}
use Rattle.negotiation_inputs.specs.Heaps.{IsHeapName, has_domains}
use Rattle.record_reading.specs.Reading.Heaps.{heap_type_of, heap_name_of, domains_of, heap_info_fields, heap_of, heaps_of, name_fields, permitted_heap, permitted_of}
use Rattle.record_laws.specs.Ranges.{most_large, IsHeapId}
use Rattle.record_laws.specs.Records.{list}
use Rattle.record_laws.specs.Sparse.{fields_said, number_said, names_said, domains_in, name_said, permitted_written, heap_said, heap_written}
use Rattle.record_laws.proofs.Each.{next, item_has}
use Rattle.record_laws.proofs.Heaps.{domains_by, type_stated, permitted_by, heaps_by}
use Rattle.record_laws.proofs.Said.{said, object_taken, required_reads, number_or_reads, true_or_reads, names_are}

domains_read : (s : CoherencyDomains) → has_domains s ≡ true → domains_of (names_said (domains_in s)) ≡ Ok s
domains_read s some = ap domains_of (names_are (domains_in s)) ∙ domains_by s.cpu s.ram s.inaccessible some

-- a heap's name among other fields
name_read : (fs : List (Field × Option Data)) (h : HeapName) → said (field_name field.HeapType) fs ≡ Some (string h.heap_type) → said (field_name field.Id) fs ≡ number_said 0 h.id
    → IsHeapName h → IsHeapId h → heap_name_of None (fields_said fs) ≡ Ok h
name_read fs h type_is id_is typed small =
    next (required field.HeapType (heap_type_of None) (fields_said fs)) h.heap_type _ (Ok h)
    (required_reads code.WrongKind field.HeapType h.heap_type (heap_type_of None) fs (string h.heap_type) type_is (type_stated h.heap_type typed))
    (next (number_or field.Id 0 most_large (fields_said fs)) h.id _ (Ok h) (number_or_reads field.Id 0 most_large h.id fs id_is small) refl)

permitted_read : (h : HeapName) → IsHeapName h → IsHeapId h → permitted_heap None (permitted_written h) ≡ Ok h
unfolding is_key_of
permitted_read h typed small =
    next (object_of (At field.PermittedHeaps) name_fields (permitted_written h)) (permitted_written h) _ (Ok h)
    (object_taken (At field.PermittedHeaps) name_fields (name_said h) refl) (name_read (name_said h) h refl refl typed small)

-- a list of permitted heaps
pub permitted_back : (hs : List HeapName) → length hs ≤ 64 → AllPairs (λ a b. same_heap a b ≡ false) hs → All IsHeapName hs → All IsHeapId hs
    → permitted_of None (list permitted_written hs) ≡ Ok hs
permitted_back hs few distinct each small =
    permitted_by permitted_written hs few distinct (λ front back h is. permitted_read h (item_has IsHeapName hs front back h is each) (item_has IsHeapId hs front back h is small))

heap_read : (h : HeapFacts) → IsHeap h → IsHeapId h.heap → heap_of None (heap_written h) ≡ Ok h
unfolding is_key_of
heap_read h is small =
    let fs = heap_said h in
    next (object_of (At field.Heaps) heap_info_fields (heap_written h)) (heap_written h) _ (Ok h) (object_taken (At field.Heaps) heap_info_fields fs refl)
    (next (heap_name_of None (heap_written h)) h.heap _ (Ok h) (name_read fs h.heap refl refl is.0 small)
    (next (flag_or field.Contiguous false (heap_written h)) h.contiguous _ (Ok h) (true_or_reads field.Contiguous h.contiguous fs refl)
    (next (flag_or field.Secure false (heap_written h)) h.secure _ (Ok h) (true_or_reads field.Secure h.secure fs refl)
    (next (required field.Domains domains_of (heap_written h)) h.domains _ (Ok h)
    (required_reads code.WrongKind field.Domains h.domains domains_of fs (names_said (domains_in h.domains)) refl (domains_read h.domains is.1)) refl))))

-- a list of a platform's heaps
pub heaps_back : (hs : List HeapFacts) → 1 ≤ length hs → length hs ≤ 64 → AllPairs (λ a b. same_heap a.heap b.heap ≡ false) hs → All IsHeap hs → All (λ h. IsHeapId h.heap) hs
    → heaps_of None (list heap_written hs) ≡ Ok hs
heaps_back hs some few distinct each small =
    heaps_by heap_written hs some few distinct (λ front back h is. heap_read h (item_has IsHeap hs front back h is each) (item_has (λ h. IsHeapId h.heap) hs front back h is small))
