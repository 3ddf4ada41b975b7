-- The list of a platform's places has each of them, no other, and in their order.
use Rattle.std.proofs.Common.{◌≡◌, inl, inr, arith, ℕ, zero, suc, ◌+◌, ◌≤◌, Bool, true, false, IsTrue, List, [], ◌∷◌, ◌++◌, Some, All, Contains, slice_get, refl, sym, ◌∙◌, ap, subst}
use Rattle.std.specs.List.{AllPairs}
use Rattle.std.proofs.lemmas.List.Elements.{All-nil, All-cons, All-weaker, All-contains, Contains-append_right, Contains-append_cases}
use Rattle.std.proofs.lemmas.List.Kept.{AllPairs-cons}
use Rattle.std.proofs.lemmas.Option.{same_Some, none-some}
use Rattle.sysmem_memory.specs.declared.domain.CoherencyDomain.{CoherencyDomain}
use Rattle.sysmem_memory.specs.declared.domain.CoherencyDomain.TheVariants.{Cpu, Ram, Inaccessible}
use Rattle.sysmem_memory.specs.declared.place.Place.{Place}
use Rattle.sysmem_memory.specs.Domain.{has_domain}
use Rattle.sysmem_memory.specs.Heap.{HeapFacts}
use Rattle.sysmem_memory.specs.Laws.{ListedIsPlace, ListedInOrder}
use Rattle.sysmem_memory.specs.Listed.{HeapPlace, put_if, places_from, places_of}
use Rattle.sysmem_memory.specs.Place.{IsPlace, IsEarlier}
use Rattle.sysmem_memory.proofs.LawProofs.{no_place_before_itself, earlier_is_transitive}

-- the first is contained
contains_first : {X : Type 0} (x : X) (xs : List X) → Contains (x ∷ xs) x
contains_first x xs = (0, omega arith, refl)

-- and so is one of the others
contains_later : {X : Type 0} (x y : X) (xs : List X) → Contains xs y → Contains (x ∷ xs) y
contains_later x y xs has = Contains-append_right (x ∷ []) xs y has

-- what is put there is contained, if it is there
put_it : {X : Type 0} (b : Bool) (x : X) (xs : List X) → IsTrue b → Contains (put_if b x xs) x
put_it true x xs there = contains_first x xs
put_it false x xs there = absurd (cc (there))

-- and so are the others
put_rest : {X : Type 0} (b : Bool) (x y : X) (xs : List X) → Contains xs y → Contains (put_if b x xs) y
put_rest true x y xs has = contains_later x y xs has
put_rest false x y xs has = has

-- a place by its index and its domain
abbrev place_at : ℕ → CoherencyDomain → HeapFacts → HeapPlace
place_at i c h = record { place = record { heap = i; coherency = c }; heap = h }

-- the places of one heap, before others
abbrev of_heap : ℕ → HeapFacts → List HeapPlace → List HeapPlace
of_heap i h rest = put_if h.domains.cpu (place_at i Cpu h) (put_if h.domains.ram (place_at i Ram h) (put_if h.domains.inaccessible (place_at i Inaccessible h) rest))

-- each domain of a heap is listed
in_heap : (i : ℕ) (h : HeapFacts) (c : CoherencyDomain) (rest : List HeapPlace) → IsTrue (has_domain h.domains c) → Contains (of_heap i h rest) (place_at i c h)
in_heap i h Cpu rest has = put_it h.domains.cpu (place_at i Cpu h) _ has
in_heap i h Ram rest has = put_rest h.domains.cpu (place_at i Cpu h) (place_at i Ram h) _ (put_it h.domains.ram (place_at i Ram h) _ has)
in_heap i h Inaccessible rest has =
    put_rest h.domains.cpu (place_at i Cpu h) (place_at i Inaccessible h) _ (put_rest h.domains.ram (place_at i Ram h) (place_at i Inaccessible h) _ (put_it h.domains.inaccessible (place_at i Inaccessible h) _ has))

-- before the places of the further heaps
behind_heap : (i : ℕ) (h : HeapFacts) (rest : List HeapPlace) (x : HeapPlace) → Contains rest x → Contains (of_heap i h rest) x
behind_heap i h rest x has =
    put_rest h.domains.cpu (place_at i Cpu h) x _ (put_rest h.domains.ram (place_at i Ram h) x _ (put_rest h.domains.inaccessible (place_at i Inaccessible h) x _ has))

-- each place of some heaps is listed
places_have : (i k : ℕ) (hs : List HeapFacts) (h : HeapFacts) (c : CoherencyDomain) → slice_get hs k ≡ Some h → IsTrue (has_domain h.domains c) → Contains (places_from i hs) (place_at (i + k) c h)
places_have i k [] h c here has = absurd (none-some h here)
places_have i zero (x ∷ hs) h c here has =
    let same : h ≡ x = sym (same_Some x h here) in
    let at : i ≡ i + 0 = omega arith in
    subst (λ j. Contains (places_from i (x ∷ hs)) (place_at j c h)) at
    (subst (λ g. Contains (places_from i (x ∷ hs)) (place_at i c g)) (sym same) (in_heap i x c (places_from (i + 1) hs) (subst (λ g. IsTrue (has_domain g.domains c)) same has)))
places_have i (suc k) (x ∷ hs) h c here has =
    let at : (i + 1) + k ≡ i + suc k = omega arith in
    behind_heap i x (places_from (i + 1) hs) (place_at (i + suc k) c h)
    (subst (λ j. Contains (places_from (i + 1) hs) (place_at j c h)) at (places_have (i + 1) k hs h c here has))

-- each place of the platform is listed
is_listed : (heaps : List HeapFacts) (p : Place) (h : HeapFacts) → IsPlace heaps p h → Contains (places_of heaps) (record { place = p; heap = h })
is_listed heaps p h is =
    let at : 0 + p.heap ≡ p.heap = omega arith in
    subst (λ i. Contains (places_of heaps) (place_at i p.coherency h)) at (places_have 0 p.heap heaps h p.coherency is.heap is.domain)

-- in order
abbrev IsInOrder : List HeapPlace → Type 0
IsInOrder [] = Unit {0}
IsInOrder (x ∷ xs) = All (λ y. IsEarlier x.place y.place) xs × IsInOrder xs

-- none of these comes before a place
abbrev NotBefore : Place → List HeapPlace → Type 0
NotBefore p xs = All (λ y. ¬ (IsEarlier y.place p)) xs

-- what comes before all the others keeps them in order
put_in_order : (b : Bool) (x : HeapPlace) (xs : List HeapPlace) → All (λ y. IsEarlier x.place y.place) xs → IsInOrder xs → IsInOrder (put_if b x xs)
put_in_order true x xs all order = (all, order)
put_in_order false x xs all order = order

-- what all have, all have with one more that has it
put_all : (P : HeapPlace → Type 0) (b : Bool) (x : HeapPlace) (xs : List HeapPlace) → P x → All P xs → All P (put_if b x xs)
put_all P true x xs one all = All-cons P x xs one all
put_all P false x xs one all = all

-- the places of heaps from an index are in heaps from there
from_heap : (i : ℕ) (hs : List HeapFacts) → All (λ y. i ≤ y.place.heap) (places_from i hs)
from_heap i [] = All-nil (λ y. i ≤ y.place.heap)
from_heap i (h ∷ hs) =
    put_all (λ y. i ≤ y.place.heap) h.domains.cpu (place_at i Cpu h) _ (omega arith)
    (put_all (λ y. i ≤ y.place.heap) h.domains.ram (place_at i Ram h) _ (omega arith)
    (put_all (λ y. i ≤ y.place.heap) h.domains.inaccessible (place_at i Inaccessible h) _ (omega arith)
    (All-weaker (λ y. i + 1 ≤ y.place.heap) (λ y. i ≤ y.place.heap) (λ y l. omega (arith, l)) (places_from (i + 1) hs) (from_heap (i + 1) hs))))

-- so they come after those of the heap before
rest_later : (i : ℕ) (c : CoherencyDomain) (h : HeapFacts) (hs : List HeapFacts) → All (λ y. IsEarlier (place_at i c h).place y.place) (places_from (i + 1) hs)
rest_later i c h hs = All-weaker (λ y. i + 1 ≤ y.place.heap) (λ y. IsEarlier (place_at i c h).place y.place) (λ y l. inl (omega (arith, l))) (places_from (i + 1) hs) (from_heap (i + 1) hs)

-- the places are in order
in_order : (i : ℕ) (hs : List HeapFacts) → IsInOrder (places_from i hs)
in_order i [] = tt
in_order i (h ∷ hs) =
    let rest = places_from (i + 1) hs in
    let after_cpu = λ (y : HeapPlace). IsEarlier (place_at i Cpu h).place y.place in
    let after_ram = λ (y : HeapPlace). IsEarlier (place_at i Ram h).place y.place in
    let last = put_in_order h.domains.inaccessible (place_at i Inaccessible h) rest (rest_later i Inaccessible h hs) (in_order (i + 1) hs) in
    let middle = put_in_order h.domains.ram (place_at i Ram h) _ (put_all after_ram h.domains.inaccessible (place_at i Inaccessible h) rest (inr (refl, omega arith)) (rest_later i Ram h hs)) last in
    put_in_order h.domains.cpu (place_at i Cpu h) _
    (put_all after_cpu h.domains.ram (place_at i Ram h) _ (inr (refl, omega arith)) (put_all after_cpu h.domains.inaccessible (place_at i Inaccessible h) rest (inr (refl, omega arith)) (rest_later i Cpu h hs)))
    middle

-- of two places one comes before the other at most
not_both : (p q : Place) → IsEarlier p q → ¬ (IsEarlier q p)
not_both p q a b = no_place_before_itself p (earlier_is_transitive p q p a b)

-- from a place on, none comes before it
from_there : (before behind : List HeapPlace) (s : HeapPlace) → IsInOrder (before ++ s ∷ behind) → NotBefore s.place (s ∷ behind)
from_there [] behind s order = All-cons (λ y. ¬ (IsEarlier y.place s.place)) s behind (no_place_before_itself s.place)
    (All-weaker (λ y. IsEarlier s.place y.place) (λ y. ¬ (IsEarlier y.place s.place)) (λ y l. not_both s.place y.place l) behind order.0)
from_there (x ∷ before) behind s order = from_there before behind s order.1

-- a place that comes before a listed one stands before it in the list
pub stands_before : (heaps : List HeapFacts) (p : Place) (h : HeapFacts) (before behind : List HeapPlace) (s : HeapPlace) → IsPlace heaps p h → places_of heaps ≡ before ++ s ∷ behind
    → IsEarlier p s.place → Contains before (record { place = p; heap = h })
stands_before heaps p h before behind s is there earlier =
    elim (Contains-append_cases before (s ∷ behind) (record { place = p; heap = h }) (subst (λ xs. Contains xs (record { place = p; heap = h })) there (is_listed heaps p h is)))
    as (λ _. Contains before (record { place = p; heap = h })) [
      | inl has ↦ has
      | inr later ↦ absurd (All-contains (λ y. ¬ (IsEarlier y.place s.place)) (s ∷ behind) (record { place = p; heap = h }) (from_there before behind s (subst IsInOrder there (in_order 0 heaps))) later earlier)
    ]

-- each listed place is one of the platform's
heaps_places_are : (i : ℕ) (hs : List HeapFacts) (all : List HeapFacts) → ((k : ℕ) (h : HeapFacts) → slice_get hs k ≡ Some h → slice_get all (i + k) ≡ Some h)
    → All (λ s. IsPlace all s.place s.heap) (places_from i hs)
heaps_places_are i [] all same = All-nil (λ s. IsPlace all s.place s.heap)
heaps_places_are i (h ∷ hs) all same =
    let here : slice_get all i ≡ Some h = (let zero' : i ≡ i + 0 = omega arith in ap (slice_get all) zero') ∙ same 0 h refl in
    let rest = heaps_places_are (i + 1) hs all (λ k g is. (let more : (i + 1) + k ≡ i + suc k = omega arith in ap (slice_get all) more) ∙ same (suc k) g is) in
    put_place h.domains.cpu (place_at i Cpu h) _ (λ there. record { heap = here; domain = there })
    (put_place h.domains.ram (place_at i Ram h) _ (λ there. record { heap = here; domain = there })
    (put_place h.domains.inaccessible (place_at i Inaccessible h) _ (λ there. record { heap = here; domain = there }) rest)) where
      put_place : (b : Bool) (x : HeapPlace) (xs : List HeapPlace) → (IsTrue b → IsPlace all x.place x.heap) → All (λ s. IsPlace all s.place s.heap) xs → All (λ s. IsPlace all s.place s.heap) (put_if b x xs)
      put_place true x xs one rest = All-cons (λ s. IsPlace all s.place s.heap) x xs (one refl) rest
      put_place false x xs one rest = rest

-- so what is listed is a place of its heap
all_are_places : (heaps : List HeapFacts) (s : HeapPlace) → Contains (places_of heaps) s → IsPlace heaps s.place s.heap
all_are_places heaps s has = All-contains (λ s. IsPlace heaps s.place s.heap) (places_of heaps) s
    (heaps_places_are 0 heaps heaps (λ k h is. (let same : 0 + k ≡ k = omega arith in ap (slice_get heaps) same) ∙ is)) has

-- each place of the platform is listed, and no other
pub listed_is_place : ListedIsPlace
listed_is_place heaps p h = (is_listed heaps p h, all_are_places heaps (record { place = p; heap = h }))

-- in order, each before all later ones
pairs_in_order : (xs : List HeapPlace) → IsInOrder xs → AllPairs (λ x y. IsEarlier x.place y.place) xs
pairs_in_order [] order = λ i j d below inside. absurd (omega (arith, inside))
pairs_in_order (x ∷ xs) order = AllPairs-cons (λ x y. IsEarlier x.place y.place) x xs order.0 (pairs_in_order xs order.1)

pub listed_in_order : ListedInOrder
listed_in_order heaps = pairs_in_order (places_of heaps) (in_order 0 heaps)
