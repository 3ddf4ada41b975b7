-- The domains that are left, and the places that are refused.
use Rattle.std.proofs.Common.{◌≡◌, ℕ, ◌+◌, ◌<◌, ◌≤◌, Bool, true, false, ◌&&◌, List, [], ◌∷◌, ◌++◌, length, Option, Some, None, IfSome, IfNone, All, is_none, is_some, slice_get, refl, sym, ◌∙◌, ap, arith, subst, inl, inr, below_more, ◌||◌, ◌≢◌, true≢false}
use Rattle.std.specs.List.{list_all, find}
use Rattle.std.proofs.Math.Bool.{and-true, and_assoc, or-false}
use Rattle.std.proofs.lemmas.List.Folds.{list_all-append}
use Rattle.std.proofs.lemmas.List.Sums.{AllPass-from_list_all}
use Rattle.std.proofs.lemmas.Option.{slice_get_within, same_Some}
use Rattle.sysmem_counts.specs.declared.field.Field.{Field}
use Rattle.sysmem_counts.specs.declared.usage.Usage as usage
use Rattle.sysmem_memory.specs.declared.domain.CoherencyDomain.{CoherencyDomain}
use Rattle.sysmem_memory.specs.declared.domain.CoherencyDomain.TheVariants.{Cpu, Ram, Inaccessible}
use Rattle.sysmem_memory.specs.declared.domain.CoherencyDomains.{CoherencyDomains}
use Rattle.sysmem_memory.specs.declared.bounds.MemoryBounds.{MemoryBounds}
use Rattle.sysmem_memory.specs.declared.heap_set.HeapSet.{HeapSet}
use Rattle.sysmem_memory.specs.declared.place.Place.{Place}
use Rattle.sysmem_memory.specs.Domain.{has_domain, IsFirstDomain}
use Rattle.sysmem_memory.specs.Heap.{HeapFacts}
use Rattle.sysmem_memory.specs.HeapSet.{has_heap}
use Rattle.sysmem_memory.specs.Left.{has_left}
use Rattle.sysmem_memory.specs.Wishes.{MemoryWishes}
use Rattle.sysmem_memory.specs.PlaceTable.{refuses_by, heap_fields, domain_fields, place_fields, first_refusing, AllowsPlace, PlaceDemand}
use Rattle.sysmem_memory.specs.Place.{IsPlace, IsRefused, IsFirstPlace, HasNoPlace, is_left, AreDomainsLeft}
use Rattle.list_lemmas.proofs.CallerLemmas.{find_front, find_rest, find_passes, slice_get_some, any_fails, and_parts}

-- somebody for whom some field is the first that refuses is refused by a field
refused_by_one : (p : PlaceDemand) (h : HeapFacts) (d : CoherencyDomain) → is_none (first_refusing p.memory p.usage h d) ≡ false → (f : Field) × (refuses_by f p.memory p.usage h d ≡ true)
refused_by_one p h d e = at (first_refusing p.memory p.usage h d) (find_passes (λ f. refuses_by f p.memory p.usage h d) place_fields) e where
  at : (o : Option Field) → IfSome o (λ f. refuses_by f p.memory p.usage h d ≡ true) → is_none o ≡ false → (f : Field) × (refuses_by f p.memory p.usage h d ≡ true)
  at None passes e = cc
  at (Some f) passes e = (f, passes)

-- a domain of the heap that isn't left is refused by somebody
refused_when_gone : (h : HeapFacts) (d : CoherencyDomain) (ps : List PlaceDemand) → has_domain h.domains d ≡ true → is_left h ps d ≡ false → IsRefused h d ps
refused_when_gone h d ps has gone =
    let allow : PlaceDemand → Bool = λ p. is_none (first_refusing p.memory p.usage h d) in
    let found = any_fails allow ps (subst (λ b. (b && list_all allow ps) ≡ false) has gone) in
    let one = refused_by_one found.1 h d found.4 in
    (one.0, (found.0, found.1, found.2, found.3, one.1))

-- an answer that is no field is None
none_from : (o : Option Field) → is_none o ≡ true → o ≡ None
none_from None e = refl
none_from (Some f) e = cc

-- a domain that is left is the heap's, and nobody refuses it
pub allowed_when_left : (h : HeapFacts) (d : CoherencyDomain) (ps : List PlaceDemand) → is_left h ps d ≡ true → (has_domain h.domains d ≡ true) × All (λ p. AllowsPlace p.memory p.usage h d) ps
allowed_when_left h d ps left =
    let allow : PlaceDemand → Bool = λ p. is_none (first_refusing p.memory p.usage h d) in
    let parts = and_parts (has_domain h.domains d) (list_all allow ps) left in
    (parts.0, λ k e within. none_from _ (AllPass-from_list_all allow ps parts.1 k e within))

-- what one more participant leaves
left_more : (h : HeapFacts) (ps : List PlaceDemand) (p : PlaceDemand) (d : CoherencyDomain) → (is_left h ps d && is_none (first_refusing p.memory p.usage h d)) ≡ is_left h (ps ++ p ∷ []) d
left_more h ps p d =
    let allow : PlaceDemand → Bool = λ p. is_none (first_refusing p.memory p.usage h d) in
    and_assoc (has_domain h.domains d) (list_all allow ps) (allow p) ∙ ap (λ b. has_domain h.domains d && b) (ap (λ b. list_all allow ps && b) (sym (and-true (allow p))) ∙ sym (list_all-append allow ps (p ∷ [])))

-- the bounds leave a domain of each of the first n heaps exactly where `test` holds of it, and nothing of the others
pub record IsLeftOf (test : ℕ → HeapFacts → CoherencyDomain → Bool) (heaps : List HeapFacts) (n : ℕ) (left : MemoryBounds) : Type 0 where
  pub done : (k : ℕ) (h : HeapFacts) (d : CoherencyDomain) → k < n → slice_get heaps k ≡ Some h → has_left left k d ≡ test k h d
  pub rest : (k : ℕ) (d : CoherencyDomain) → n ≤ k → has_left left k d ≡ false

-- one more heap is put there
pub left_of_more : (test : ℕ → HeapFacts → CoherencyDomain → Bool) (heaps : List HeapFacts) (n : ℕ) (left new : MemoryBounds) (h : HeapFacts) (s : CoherencyDomains) → slice_get heaps n ≡ Some h → IsLeftOf test heaps n left
    → ((d : CoherencyDomain) → has_left new n d ≡ (has_domain s d || has_left left n d)) → ((k : ℕ) (d : CoherencyDomain) → k ≢ n → has_left new k d ≡ has_left left k d)
    → ((d : CoherencyDomain) → has_domain s d ≡ test n h d) → IsLeftOf test heaps (n + 1) new
left_of_more test heaps n left new h s here before put others told = record {
  done = λ k g d below is. below_more (λ k. (g : HeapFacts) (d : CoherencyDomain) → slice_get heaps k ≡ Some g → has_left new k d ≡ test k g d) n
      (λ k below g d is. others k d (λ e. omega (arith, e, below)) ∙ before.done k g d below is)
      (λ g d is. put d ∙ ap (λ b. has_domain s d || b) (before.rest n d (omega arith)) ∙ or-false (has_domain s d) ∙ told d ∙ ap (λ g. test n g d) (same_Some h g (sym here ∙ is))) k below g d is;
  rest = λ k d above. others k d (λ e. omega (arith, e, above)) ∙ before.rest k d (omega (arith, above));
}

-- what was left of a heap, and a participant doesn't refuse
abbrev pub still_left_of : MemoryWishes → usage.Usage → MemoryBounds → ℕ → HeapFacts → CoherencyDomain → Bool
still_left_of m u old k h d = has_left old k d && is_none (first_refusing m u h d)

-- bounds in which each heap lost what a participant refuses stand for one participant more
pub left_by_more : (old left : MemoryBounds) (heaps : List HeapFacts) (ps : List PlaceDemand) (p : PlaceDemand) (n : ℕ) → length heaps ≤ n → IsLeftOf (still_left_of p.memory p.usage old) heaps n left → AreDomainsLeft old heaps ps → AreDomainsLeft left heaps (ps ++ p ∷ [])
left_by_more old left heaps ps p n end all stands = record {
  limit = stands.limit;
  exactly = λ k h d is.
      all.done k h d (omega (arith, slice_get_within heaps k h is, end)) is ∙ ap (λ b. b && is_none (first_refusing p.memory p.usage h d)) (stands.exactly k h d is) ∙ left_more h ps p d;
}

-- a place whose domain isn't left is refused
refused_at : (left : MemoryBounds) (heaps : List HeapFacts) (ps : List PlaceDemand) (q : Place) (h : HeapFacts) → AreDomainsLeft left heaps ps → IsPlace heaps q h → has_left left q.heap q.coherency ≡ false → IsRefused h q.coherency ps
refused_at left heaps ps q h stands place gone =
    refused_when_gone h q.coherency ps place.domain (sym (stands.exactly q.heap h q.coherency place.heap) ∙ gone)

-- where no heap has a domain left, no place is left
pub no_place_left : (left : MemoryBounds) (heaps : List HeapFacts) (ps : List PlaceDemand) → ((k : ℕ) → k < length heaps → (d : CoherencyDomain) → has_left left k d ≡ false) → AreDomainsLeft left heaps ps → HasNoPlace heaps ps
no_place_left left heaps ps passed stands q h place =
    refused_at left heaps ps q h stands place (passed q.heap (slice_get_within heaps q.heap h place.heap) q.coherency)

-- the first domain of the first heap that has one left is the first place
pub first_place_left : (left : MemoryBounds) (heaps : List HeapFacts) (ps : List PlaceDemand) (n : ℕ) (s : CoherencyDomains) (d : CoherencyDomain) → n < length heaps → ((e : CoherencyDomain) → has_domain s e ≡ has_left left n e) → IsFirstDomain s d → ((k : ℕ) → k < n → (e : CoherencyDomain) → has_left left k e ≡ false) → AreDomainsLeft left heaps ps → IsFirstPlace heaps ps (record { heap = n; coherency = d })
first_place_left left heaps ps n s d within read first passed stands =
    let info = slice_get_some heaps n within in
    let allowed = allowed_when_left info.0 d ps (sym (stands.exactly n info.0 d info.1) ∙ sym (read d) ∙ first.has) in
    record {
      info = info.0;
      place = record { heap = info.1; domain = allowed.0 };
      allowed = allowed.1;
      earlier = λ q h place before. elim before [
        | inl lower ↦ refused_at left heaps ps q h stands place (passed q.heap lower q.coherency)
        | inr same ↦
            refused_at left heaps ps q h stands place (ap (λ k. has_left left k q.coherency) same.0 ∙ sym (read q.coherency) ∙ first.before q.coherency same.1)
      ];
    }

-- what holds is there for an answer that isn't there
pub if_none : {X : Type 0} (o : Option X) (P : Type 0) → P → IfNone o P
if_none None P p = p
if_none (Some x) P p = tt

-- the set has the heaps of which some domain is left
abbrev pub IsUnion : MemoryBounds → HeapSet → Type 0
IsUnion left any = (k : ℕ) → has_heap any k ≡ ((has_heap left.cpu k || has_heap left.ram k) || has_heap left.inaccessible k)

pub union_is : (left : MemoryBounds) (some any : HeapSet) → ((k : ℕ) → has_heap some k ≡ (has_heap left.cpu k || has_heap left.ram k)) → ((k : ℕ) → has_heap any k ≡ (has_heap some k || has_heap left.inaccessible k)) → IsUnion left any
union_is left some any first all k = all k ∙ ap (λ b. b || has_heap left.inaccessible k) (first k)

none_of_three : (a b c : Bool) → false ≡ ((a || b) || c) → (a ≡ false) × (b ≡ false) × (c ≡ false)
none_of_three false false c e = (refl, refl, sym e)
none_of_three false true c e = cc
none_of_three true b c e = cc

-- of a heap that isn't in the union no domain is left
pub none_outside : (left : MemoryBounds) (any : HeapSet) → IsUnion left any → (k : ℕ) → has_heap any k ≡ false → (d : CoherencyDomain) → has_left left k d ≡ false
none_outside left any union k out d =
    let three = none_of_three (has_heap left.cpu k) (has_heap left.ram k) (has_heap left.inaccessible k) (sym out ∙ union k) in
    elim d as (λ d. has_left left k d ≡ false) [ Cpu ↦ three.0 | Ram ↦ three.1 | Inaccessible ↦ three.2 ]

-- of a heap that is in the union some domain is left
pub some_inside : (left : MemoryBounds) (any : HeapSet) → IsUnion left any → (k : ℕ) → has_heap any k ≡ true → ((d : CoherencyDomain) → has_left left k d ≡ false) → ⊥
some_inside left any union k inside none =
    let out : has_heap any k ≡ false = union k ∙ ap (λ b. (b || has_heap left.ram k) || has_heap left.inaccessible k) (none Cpu) ∙ ap (λ b. b || has_heap left.inaccessible k) (none Ram) ∙ none Inaccessible in
    true≢false (sym inside ∙ out)

-- a heap that some field refuses has no domain left
pub nothing_left : (left : CoherencyDomains) (m : MemoryWishes) (u : usage.Usage) (h : HeapFacts) (r : Option Field) → ((u : usage.Usage) (d : CoherencyDomain) → r ≡ find (λ f. refuses_by f m u h d) heap_fields) → true ≡ is_some r → (d : CoherencyDomain) → has_domain (record { cpu = false; ram = false; inaccessible = false }) d ≡ (has_domain left d && is_none (first_refusing m u h d))
nothing_left left m u h r by_heap some d =
    elim d as (λ d. has_domain (record { cpu = false; ram = false; inaccessible = false }) d ≡ (has_domain left d && is_none (first_refusing m u h d))) [
      | Cpu ↦ closed left.cpu r _ (front Cpu) some
      | Ram ↦ closed left.ram r _ (front Ram) some
      | Inaccessible ↦ closed left.inaccessible r _ (front Inaccessible) some
    ]
  where
    front : (d : CoherencyDomain) → r ≡ first_refusing m u h d
    front d = find_front (λ f. refuses_by f m u h d) heap_fields domain_fields r (by_heap u d) some

    closed : (b : Bool) (r o : Option Field) → r ≡ o → true ≡ is_some r → false ≡ (b && is_none o)
    closed true None o e some = cc
    closed true (Some f) o e some = ap is_none e
    closed false r o e some = refl

-- of a heap that no field refuses each domain is left that was, and that no field refuses
pub domain_still_left : (m : MemoryWishes) (u : usage.Usage) (h : HeapFacts) (r : Option Field) → ((u : usage.Usage) (d : CoherencyDomain) → r ≡ find (λ f. refuses_by f m u h d) heap_fields) → false ≡ is_some r → (left s : CoherencyDomains) → s.cpu ≡ (left.cpu && is_none (find (λ f. refuses_by f m u h Cpu) domain_fields)) → s.ram ≡ (left.ram && is_none (find (λ f. refuses_by f m u h Ram) domain_fields)) → s.inaccessible ≡ (left.inaccessible && is_none (find (λ f. refuses_by f m u h Inaccessible) domain_fields)) → (d : CoherencyDomain) → has_domain s d ≡ (has_domain left d && is_none (first_refusing m u h d))
domain_still_left m u h r by_heap none left s cpu ram inaccessible d =
    elim d as (λ d. has_domain s d ≡ (has_domain left d && is_none (first_refusing m u h d))) [
      | Cpu ↦ cpu ∙ ap (λ o. left.cpu && is_none o) (rest Cpu)
      | Ram ↦ ram ∙ ap (λ o. left.ram && is_none o) (rest Ram)
      | Inaccessible ↦ inaccessible ∙ ap (λ o. left.inaccessible && is_none o) (rest Inaccessible)
    ]
  where
    rest : (d : CoherencyDomain) → find (λ f. refuses_by f m u h d) domain_fields ≡ first_refusing m u h d
    rest d = find_rest (λ f. refuses_by f m u h d) heap_fields domain_fields r (by_heap u d) none
