-- The domains that are left by participants and by more of them together.
use Rattle.std.proofs.Common.{◌≡◌, ℕ, Bool, true, false, ◌&&◌, List, ◌++◌, is_none, refl, sym, ◌∙◌, ap}
use Rattle.std.specs.List.{list_all}
use Rattle.std.proofs.lemmas.List.Folds.{list_all-append}
use Rattle.sysmem_memory.specs.declared.bounds.MemoryBounds.{MemoryBounds}
use Rattle.sysmem_memory.specs.declared.domain.CoherencyDomain.{CoherencyDomain}
use Rattle.sysmem_memory.specs.declared.domain.CoherencyDomain.TheVariants.{Cpu, Ram, Inaccessible}
use Rattle.sysmem_memory.specs.declared.heap_set.HeapSet.{HeapSet}
use Rattle.sysmem_memory.specs.Domain.{has_domain}
use Rattle.sysmem_memory.specs.Heap.{HeapFacts}
use Rattle.sysmem_memory.specs.HeapSet.{has_heap}
use Rattle.sysmem_memory.specs.Left.{has_left}
use Rattle.sysmem_memory.specs.PlaceTable.{PlaceDemand, first_refusing}
use Rattle.sysmem_memory.specs.Place.{is_left, AreDomainsLeft}

-- the set has the heaps that both have
abbrev pub IsBoth : HeapSet → HeapSet → HeapSet → Type 0
IsBoth s t new = (k : ℕ) → has_heap new k ≡ (has_heap s k && has_heap t k)

-- a test passes of both where it passes of each
four : (a b c : Bool) → ((a && b) && (a && c)) ≡ (a && (b && c))
four false b c = refl
four true b c = refl

-- what both leave is what the list of all of them leaves
left_both : (h : HeapFacts) (ps qs : List PlaceDemand) (d : CoherencyDomain) → (is_left h ps d && is_left h qs d) ≡ is_left h (ps ++ qs) d
left_both h ps qs d =
    let allow : PlaceDemand → Bool = λ p. is_none (first_refusing p.memory p.usage h d) in
    four (has_domain h.domains d) (list_all allow ps) (list_all allow qs) ∙ ap (λ b. has_domain h.domains d && b) (sym (list_all-append allow ps qs))

-- where the heaps of each domain are those of both, what is left stands for both lists together
pub left_by_both : (old more left : MemoryBounds) (heaps : List HeapFacts) (ps qs : List PlaceDemand) → IsBoth old.cpu more.cpu left.cpu → IsBoth old.ram more.ram left.ram → IsBoth old.inaccessible more.inaccessible left.inaccessible
    → AreDomainsLeft old heaps ps → AreDomainsLeft more heaps qs → AreDomainsLeft left heaps (ps ++ qs)
left_by_both old more left heaps ps qs cpu ram inaccessible stands others = record {
  limit = stands.limit;
  exactly = λ k h d is.
      both k d
      ∙ ap (λ b. b && has_left more k d) (stands.exactly k h d is)
      ∙ ap (λ b. is_left h ps d && b) (others.exactly k h d is)
      ∙ left_both h ps qs d;
}
  where
    both : (k : ℕ) (d : CoherencyDomain) → has_left left k d ≡ (has_left old k d && has_left more k d)
    both k d = elim d as (λ d. has_left left k d ≡ (has_left old k d && has_left more k d)) [ Cpu ↦ cpu k | Ram ↦ ram k | Inaccessible ↦ inaccessible k ]
