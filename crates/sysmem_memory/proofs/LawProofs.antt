-- The proofs of the laws.
use Rattle.std.proofs.Common.{◌≡◌, ℕ, true, false, ◌&&◌, ◌==◌, List, All, Contains, refl, sym, ◌∙◌, ap, subst, arith, inl, inr, eq-eqb}
use Rattle.std.specs.Cmp.Lexicographic.{pointwise, same_text}
use Rattle.std.proofs.lemmas.Bool.{cases_order}
use Rattle.std.proofs.lemmas.Cmp.{nat_list_eq_equiv}
use Rattle.std.proofs.lemmas.List.Elements.{All-contains_itself}
use Rattle.sysmem_memory.specs.declared.domain.CoherencyDomain.{CoherencyDomain}
use Rattle.sysmem_memory.specs.declared.domain.CoherencyDomain.TheVariants.{Cpu, Ram, Inaccessible}
use Rattle.sysmem_memory.specs.declared.place.Place.{Place}
use Rattle.sysmem_memory.specs.Domain.{rank}
use Rattle.sysmem_memory.specs.Heap.{HeapName, HeapFacts, same_heap}
use Rattle.sysmem_memory.specs.PlaceTable.{AllowsPlace, PlaceDemand}
use Rattle.sysmem_memory.specs.Place.{IsEarlier, IsRefused, IsFirstPlace}
use Rattle.sysmem_memory.specs.Laws.{SameHeapIsEqual, NoPlaceBeforeItself, EarlierIsTransitive, PlacesAreInOneOrder, TrueLineLeavesNoPlace, OneFirstPlace, RefusedByAllIsNoPlace}
use Rattle.list_lemmas.proofs.CallerLemmas.{and_parts}
use Rattle.sysmem_memory.proofs.FirstRefusing.{none_refuses}

-- names with equal types and ids are equal
equal_names : (s t : List ℕ) (m n : ℕ) → s ≡ t → m ≡ n → ◌≡◌ {A = HeapName} (record { heap_type = s; id = m }) (record { heap_type = t; id = n })
equal_names s t m n e f =
    ap (λ x. let h : HeapName = record { heap_type = x; id = m } in h) e ∙ ap (λ x. let h : HeapName = record { heap_type = t; id = x } in h) f

-- a heap compares equal to itself
same_heap_itself : (a : HeapName) → same_heap a a ≡ true
same_heap_itself a =
    ap (λ b. b && a.id == a.id) (nat_list_eq_equiv.refl a.heap_type) ∙ eq-eqb a.id a.id refl

pub same_heap_is_equal : SameHeapIsEqual
same_heap_is_equal a b = (
  λ e.
      let parts = and_parts (pointwise ◌==◌ a.heap_type b.heap_type) (a.id == b.id) e in
      equal_names a.heap_type b.heap_type a.id b.id (same_text a.heap_type b.heap_type (sym parts.0)) (grind (arith, parts.1)),
  λ e. subst (λ c. same_heap a c ≡ true) e (same_heap_itself a),
)

pub no_place_before_itself : NoPlaceBeforeItself
no_place_before_itself p before = elim before [ inl lower ↦ omega (arith, lower) | inr same ↦ omega (arith, same.1) ]

pub earlier_is_transitive : EarlierIsTransitive
earlier_is_transitive p q r first then = elim first [
  | inl lower ↦ elim then [ inl more ↦ inl (omega (arith, lower, more)) | inr same ↦ inl (omega (arith, lower, same.0)) ]
  | inr same ↦ elim then [
    | inl more ↦ inl (omega (arith, same.0, more))
    | inr again ↦ inr (same.0 ∙ again.0, omega (arith, same.1, again.1))
  ]
]

-- domains of one rank are one domain
same_domain : (a b : CoherencyDomain) → rank a ≡ rank b → a ≡ b
same_domain Cpu Cpu e = refl
same_domain Cpu Ram e = cc
same_domain Cpu Inaccessible e = cc
same_domain Ram Cpu e = cc
same_domain Ram Ram e = refl
same_domain Ram Inaccessible e = cc
same_domain Inaccessible Cpu e = cc
same_domain Inaccessible Ram e = cc
same_domain Inaccessible Inaccessible e = refl

-- places with equal heaps and domains are equal
equal_places : (k n : ℕ) (a b : CoherencyDomain) → k ≡ n → a ≡ b → ◌≡◌ {A = Place} (record { heap = k; coherency = a }) (record { heap = n; coherency = b })
equal_places k n a b e f =
    ap (λ x. let p : Place = record { heap = x; coherency = a } in p) e ∙ ap (λ x. let p : Place = record { heap = n; coherency = x } in p) f

pub places_are_in_one_order : PlacesAreInOneOrder
places_are_in_one_order p q before after = elim (cases_order p.heap q.heap) [
  | inl same ↦ elim (cases_order (rank p.coherency) (rank q.coherency)) [
    | inl level ↦ equal_places p.heap q.heap p.coherency q.coherency same (same_domain p.coherency q.coherency level)
    | inr other ↦ elim other [ inl lower ↦ absurd (before (inr (same, lower))) | inr higher ↦ absurd (after (inr (sym same, higher))) ]
  ]
  | inr other ↦ elim other [ inl lower ↦ absurd (before (inl lower)) | inr higher ↦ absurd (after (inl higher)) ]
]

pub true_line_leaves_no_place : TrueLineLeavesNoPlace
true_line_leaves_no_place f h d qs ps line among allowed =
    let asked = line.1 in
    let one : Contains ps asked = subst (λ q. Contains ps q) line.3 (among line.0 asked line.2) in
    let allows : AllowsPlace asked.memory asked.usage h d = subst (λ p. AllowsPlace p.memory p.usage h d) one.2 (allowed one.0 asked one.1) in
    let none = none_refuses asked.memory asked.usage h d allows f in
    let clash : true ≡ false = sym line.4 ∙ none in
    cc

-- a place that somebody refuses isn't allowed by all
refused_not_allowed : (h : HeapFacts) (d : CoherencyDomain) (ps : List PlaceDemand) → IsRefused h d ps → ¬ All (λ p. AllowsPlace p.memory p.usage h d) ps
refused_not_allowed h d ps refused =
    true_line_leaves_no_place refused.0 h d ps ps refused.1 (All-contains_itself ps)

-- a first place isn't earlier than a first place
not_earlier : (heaps : List HeapFacts) (ps : List PlaceDemand) (p q : Place) → IsFirstPlace heaps ps p → IsFirstPlace heaps ps q → ¬ IsEarlier p q
not_earlier heaps ps p q first other before =
    refused_not_allowed first.info p.coherency ps (other.earlier p first.info first.place before) first.allowed

pub one_first_place : OneFirstPlace
one_first_place heaps ps p q first other =
    places_are_in_one_order p q (not_earlier heaps ps p q first other) (not_earlier heaps ps q p other first)

pub refused_by_all_is_no_place : RefusedByAllIsNoPlace
refused_by_all_is_no_place heaps ps refused p h place = refused_not_allowed h p.coherency ps (refused p h place)
