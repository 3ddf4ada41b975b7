-- What is told of a record is what is said of it, and numbers that say nobody's.
use Rattle.std.proofs.Common.{◌≡◌, ◌≢◌, ◌≤◌, ℕ, zero, suc, List, [], Some, None, refl, subst, sym, arith}
use Rattle.std.proofs.lemmas.Option.{slice_get_past}
use Rattle.script_faults.specs.RecordFault.{TellsRecord}
use Rattle.script_faults.specs.declared.record_alone.RecordKind.{RecordKind}
use Rattle.mezulobu.specs.RecordFaults.{FaultSays, finds_none, kind_at, record_kinds, tells_fault}

pub other_kind : (n : ℕ) → n ≢ 1 → n ≢ 2 → None ≡ kind_at n
other_kind zero a b = refl
other_kind (suc n) a b =
    let past : 2 ≤ n = omega (arith, a, b) in
    sym (slice_get_past record_kinds n past)

pub says_fault : (kind : RecordKind) (bytes text out : List ℕ) → TellsRecord kind bytes (Some text) → out ≡ text → FaultSays kind bytes 0 out
says_fault kind bytes text out told is = subst (λ (t : List ℕ). FaultSays kind bytes 0 t) (sym is) (tells_fault text told)

pub says_none : (kind : RecordKind) (bytes out : List ℕ) → TellsRecord kind bytes None → out ≡ [] → FaultSays kind bytes 6 out
says_none kind bytes out none is = subst (λ (t : List ℕ). FaultSays kind bytes 6 t) (sym is) (finds_none none)
