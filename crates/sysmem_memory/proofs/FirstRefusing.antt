-- The first field that refuses: what is known of it, and of the others.
use Rattle.std.proofs.Common.{◌≡◌, Bool, true, false, cond, List, [], ◌∷◌, Option, Some, None, IfSome, IfNone, refl, sym, subst}
use Rattle.list_lemmas.proofs.CallerLemmas.{find_passes}
use Rattle.std.specs.List.{find}
use Rattle.sysmem_counts.specs.declared.usage.Usage as usage
use Rattle.sysmem_counts.specs.declared.field.Field.{Field}
use Rattle.sysmem_counts.specs.declared.field.Field.TheVariants.{PermittedHeaps, PhysicallyContiguousRequired, SecureRequired, CpuDomainSupported, RamDomainSupported, InaccessibleDomainSupported, Usage}
use Rattle.sysmem_memory.specs.declared.domain.CoherencyDomain.{CoherencyDomain}
use Rattle.sysmem_memory.specs.Heap.{HeapFacts}
use Rattle.sysmem_memory.specs.Wishes.{MemoryWishes}
use Rattle.sysmem_memory.specs.PlaceTable.{refuses_by, place_fields, first_refusing}

-- each element fails the test
abbrev AllFail : {X : Type 0} → (X → Bool) → List X → Type 0
AllFail p [] = Unit {0}
AllFail p (x ∷ xs) = (p x ≡ false) × AllFail p xs

-- where a test finds nothing, each element fails it
find_none : {X : Type 0} (p : X → Bool) (xs : List X) → find p xs ≡ None → AllFail p xs
find_none p [] e = tt
find_none p (x ∷ xs) none = at (p x) refl none (find_none p xs) where
  at : (b : Bool) → p x ≡ b → cond b (Some x) (find p xs) ≡ None → (find p xs ≡ None → AllFail p xs) → AllFail p (x ∷ xs)
  at true e n rest = cc
  at false e n rest = (e, rest n)

-- where no field is the first that refuses, none refuses
pub none_refuses : (m : MemoryWishes) (u : usage.Usage) (h : HeapFacts) (d : CoherencyDomain) → first_refusing m u h d ≡ None → (f : Field) → refuses_by f m u h d ≡ false
none_refuses m u h d none f = at f (find_none (λ f. refuses_by f m u h d) place_fields none) where
  at : (f : Field) → AllFail (λ f. refuses_by f m u h d) place_fields → refuses_by f m u h d ≡ false
  at PermittedHeaps a = a.0
  at PhysicallyContiguousRequired a = a.1.0
  at SecureRequired a = a.1.1.0
  at CpuDomainSupported a = a.1.1.1.0
  at RamDomainSupported a = a.1.1.1.1.0
  at InaccessibleDomainSupported a = a.1.1.1.1.1.0
  at Usage a = a.1.1.1.1.1.1.0
  at _ a = refl

-- what an answer that is the first refusing field says of that field
pub refused_by_first : {X : Type 0} (p : X → Bool) (xs : List X) (r : Option X) → r ≡ find p xs → IfSome r (λ x. p x ≡ true)
refused_by_first p xs r e = subst (λ o. IfSome o (λ x. p x ≡ true)) (sym e) (find_passes p xs)

-- what an answer that is no field says of each field
pub allowed_by_none : (m : MemoryWishes) (u : usage.Usage) (h : HeapFacts) (d : CoherencyDomain) (r : Option Field) → r ≡ first_refusing m u h d → IfNone r ((f : Field) → refuses_by f m u h d ≡ false)
allowed_by_none m u h d None e = none_refuses m u h d (sym e)
allowed_by_none m u h d (Some x) e = tt
