-- What a record's heaps are named, and what they have.
use Rattle.std.proofs.Common.{◌≡◌, ◌≤◌, ◌^◌, ◌-◌, true, List, ℕ, None, Ok, subst, arith, rules, tests}
use Rattle.std.specs.Prelude.{nat_le, ok_or, option_and_then}
use Rattle.serde_json.specs.Data.{Data}
use Rattle.serde_json.specs.Find.{as_number, as_u64}
use Rattle.sysmem_counts.specs.declared.field.Field.{Field}
use Rattle.sysmem_counts.specs.declared.field.Field.TheVariants as field
use Rattle.sysmem_memory.specs.declared.domain.CoherencyDomains.{CoherencyDomains}
use Rattle.sysmem_memory.specs.Heap.{HeapName, HeapFacts}
use Rattle.record_reading.specs.declared.fault.Code.TheVariants as code
use Rattle.record_reading.specs.declared.fault.FaultPlace.TheVariants.{At}
use Rattle.record_reading.specs.Faults.{wrong}
use Rattle.negotiation_inputs.specs.Platform.{IsHeap}
use Rattle.record_reading.specs.Reading.Fields.{passing, read_each, object_of, stated, required, number_up_to, number_or, flag_or, text_of, list_of}
use Rattle.record_reading.specs.Reading.Heaps.{IsHeapName, is_heap_type, heap_type_of, heap_name_of, no_domains, with_named, has_domains, domains_of, heap_info_fields, heap_of}
use Rattle.record_reading.proofs.Steps.{bind-ok, bind-then, ok-same, passing-ok, optional-keeps}

heap_type_of-is : (d : Data) (text : List ℕ) → heap_type_of None d ≡ Ok text → is_heap_type text ≡ true
heap_type_of-is d text gives =
    let (read, is, after) = bind-ok (text_of _ d) _ text gives in
    let (typed, tested, made) = bind-ok (passing _ is_heap_type read) _ text after in
    subst (λ text. is_heap_type text ≡ true) (ok-same typed text made) (passing-ok _ is_heap_type read typed tested).holds

pub heap_name_of-is : (d : Data) (heap : HeapName) → heap_name_of None d ≡ Ok heap → IsHeapName heap
heap_name_of-is d heap gives =
    let (text, read, after) = bind-ok (required field.HeapType (heap_type_of None) d) _ heap gives in
    let (id, is, made) = bind-ok (number_or field.Id 0 (2 ^ 64 - 1) d) _ heap after in
    let (v, there, typed) = bind-ok (stated code.WrongKind field.HeapType d) (heap_type_of None) text read in
    subst IsHeapName (ok-same _ heap made) (heap_type_of-is v text typed)

-- a number is no more than the greatest that may be read
number_up_to-few : (at : Field) (greatest : ℕ) (d : Data) (n : ℕ) → number_up_to at greatest d ≡ Ok n → n ≤ greatest
number_up_to-few at greatest d n gives =
    let (read, is, tested) = bind-ok (ok_or (option_and_then as_u64 (as_number d)) (wrong code.WrongKind at)) _ n gives in
    few n greatest (passing-ok _ (λ n. nat_le n greatest) read n tested).holds where
      few : (n m : ℕ) → nat_le n m ≡ true → n ≤ m
      few n m h = search (rules, tests)

-- an id is of 64 bits
heap_name_of-id : (d : Data) (heap : HeapName) → heap_name_of None d ≡ Ok heap → heap.id ≤ 2 ^ 64 - 1
heap_name_of-id d heap gives =
    let (text, read, after) = bind-ok (required field.HeapType (heap_type_of None) d) _ heap gives in
    let (id, is, made) = bind-ok (number_or field.Id 0 (2 ^ 64 - 1) d) _ heap after in
    let few : id ≤ 2 ^ 64 - 1 = optional-keeps (λ n. n ≤ 2 ^ 64 - 1) field.Id 0 (number_up_to field.Id (2 ^ 64 - 1)) d id (omega arith)
    (λ v. number_up_to-few field.Id (2 ^ 64 - 1) v id) is in
    subst (λ (h : HeapName). h.id ≤ 2 ^ 64 - 1) (ok-same _ heap made) few

domains_of-some : (d : Data) (domains : CoherencyDomains) → domains_of d ≡ Ok domains → has_domains domains ≡ true
domains_of-some d domains gives =
    let (items, listed, after) = bind-ok (list_of field.Domains d) _ domains gives in
    let (read, each, tested) = bind-ok (read_each with_named no_domains items) _ domains after in
    (passing-ok _ has_domains read domains tested).holds

pub heap_of-is : (d : Data) (heap : HeapFacts) → heap_of None d ≡ Ok heap → IsHeap heap
heap_of-is d heap gives =
    bind-then (object_of (At field.Heaps) heap_info_fields d) _ heap gives (λ object is a1.
    bind-then (heap_name_of None d) _ heap a1 (λ name named a2.
    bind-then (flag_or field.Contiguous _ d) _ heap a2 (λ contiguous is a3.
    bind-then (flag_or field.Secure _ d) _ heap a3 (λ secure is a4.
    bind-then (required field.Domains domains_of d) _ heap a4 (λ domains has made.
    let (v, there, some) = bind-ok (stated code.WrongKind field.Domains d) domains_of domains has in
    subst IsHeap (ok-same _ heap made) (heap_name_of-is d name named, domains_of-some v domains some))))))

pub heap_of-id : (d : Data) (heap : HeapFacts) → heap_of None d ≡ Ok heap → heap.heap.id ≤ 2 ^ 64 - 1
heap_of-id d heap gives =
    bind-then (object_of (At field.Heaps) heap_info_fields d) _ heap gives (λ object is a1.
    bind-then (heap_name_of None d) _ heap a1 (λ name named a2.
    bind-then (flag_or field.Contiguous _ d) _ heap a2 (λ contiguous is a3.
    bind-then (flag_or field.Secure _ d) _ heap a3 (λ secure is a4.
    bind-then (required field.Domains domains_of d) _ heap a4 (λ domains has made.
    subst (λ (h : HeapFacts). h.heap.id ≤ 2 ^ 64 - 1) (ok-same _ heap made) (heap_name_of-id d name named))))))
