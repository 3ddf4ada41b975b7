-- Lines for the places of heaps, and for offers, from one on.
use Rattle.std.proofs.Common.{◌≡◌, ◌<◌, ◌≤◌, ℕ, zero, suc, ◌+◌, Bool, true, false, List, [], ◌∷◌, Option, Some, None, length, drop, get_or, slice_get, refl, sym, ◌∙◌, ap, subst, arith}
use Rattle.std.specs.Prelude.{◌↔◌, IsTrue, is_some, not}
use Rattle.std.specs.List.{AllZip}
use Rattle.std.proofs.lemmas.Option.{none-some}
use Rattle.sysmem_formats.specs.declared.colour_space.ColourSpace.{ColourSpace}
use Rattle.sysmem_formats.specs.declared.offer.Offer.{Offer}
use Rattle.sysmem_formats.specs.declared.offer.Pair.{Pair}
use Rattle.sysmem_formats.specs.Offers.{offers}
use Rattle.sysmem_memory.specs.declared.domain.CoherencyDomain.{CoherencyDomain}
use Rattle.sysmem_memory.specs.declared.domain.CoherencyDomain.TheVariants.{Cpu, Ram, Inaccessible}
use Rattle.sysmem_memory.specs.declared.domain.CoherencyDomains.{CoherencyDomains}
use Rattle.sysmem_memory.specs.Heap.{HeapFacts}
use Rattle.sysmem_memory.specs.Listed.{HeapPlace, put_if, places_from, places_of}
use Rattle.sysmem_memory.specs.PlaceTable.{IsPlaceLine}
use Rattle.offer_fits.specs.Demands.{place_demands}
use Rattle.sysmem_tree.specs.Shape.{Member}
use Rattle.verdict_claims.specs.Conflict.{RefusesOffer, RefusesPlace}
use Rattle.sysmem_proof.specs.EachLine.{GoesPast}
use Rattle.verdict_claims.specs.Line.{LineFacts}
use Rattle.verdict_claims.specs.Naming.{IsTrueOf}
use Rattle.sysmem_proof.proofs.Left.{front_item, drop_over, drop_there}

-- a line of a place in this heap is one of the place
pub in_heap : (ms : List Member) (heap : HeapFacts) (domain : CoherencyDomain) (p : HeapPlace) (line : LineFacts) (t : Bool) → p.heap ≡ heap → p.place.coherency ≡ domain
    → IsTrue t ↔ IsTrueOf ms line.nodes (λ ps. IsPlaceLine line.field heap domain (place_demands ps)) → IsTrue t ↔ RefusesPlace ms p line
in_heap ms heap domain p line t one two test =
    subst (λ h. IsTrue t ↔ IsTrueOf ms line.nodes (λ ps. IsPlaceLine line.field h p.place.coherency (place_demands ps))) (sym one)
    (subst (λ d. IsTrue t ↔ IsTrueOf ms line.nodes (λ ps. IsPlaceLine line.field heap d (place_demands ps))) (sym two) test)

all_dropped : {Y : Type 0} (ys : List Y) (k : ℕ) → drop k ys ≡ [] → length ys ≤ k
all_dropped [] k is = omega arith
all_dropped (y ∷ ys) zero is = absurd (cc)
all_dropped (y ∷ ys) (suc k) is = let o = all_dropped ys k is in omega (arith, o)

module _ {X : Type 0} (R : X → LineFacts → Type 0) (lines : List LineFacts) where
  -- of one that is listed
  pub past_listed : (has : Bool) (x : X) (xs : List X) (at : ℕ) (line : LineFacts) → has ≡ true → at < length lines → line ≡ get_or lines at line → R x line
      → GoesPast R (put_if has x xs) xs lines at (Some (at + 1))
  past_listed false x xs at line yes' less is true' = absurd (cc)
  past_listed true x xs at line yes' less is true' = subst (λ ls. AllZip R (x ∷ xs) ls ↔ AllZip R xs (drop (at + 1) lines)) (sym (front_item lines at line less is)) (λ zip. zip.1, λ zip. (true', zip))

  pub past_untrue : (has : Bool) (x : X) (xs : List X) (at : ℕ) (line : LineFacts) → has ≡ true → at < length lines → line ≡ get_or lines at line → ¬ (R x line)
      → GoesPast R (put_if has x xs) xs lines at None
  past_untrue false x xs at line yes' less is untrue = absurd (cc)
  past_untrue true x xs at line yes' less is untrue = subst (λ ls. ¬ (AllZip R (x ∷ xs) ls)) (sym (front_item lines at line less is)) (λ zip. untrue zip.0)

  pub past_missing : (has : Bool) (x : X) (xs : List X) (at : ℕ) → has ≡ true → length lines ≤ at → GoesPast R (put_if has x xs) xs lines at None
  past_missing false x xs at yes' over = absurd (cc)
  past_missing true x xs at yes' over = subst (λ ls. ¬ (AllZip R (x ∷ xs) ls)) (sym (drop_over lines at over)) (λ zip. zip)

  pub past_unlisted : (has : Bool) (x : X) (xs : List X) (at : ℕ) → has ≡ false → GoesPast R (put_if has x xs) xs lines at (Some at)
  past_unlisted false x xs at no' = (λ zip. zip, λ zip. zip)
  past_unlisted true x xs at no' = absurd (cc)

  -- past some, and then past others
  pub past_then : (xs ys zs : List X) (at mid : ℕ) (one two : Option ℕ) → one ≡ Some mid → GoesPast R xs ys lines at one → GoesPast R ys zs lines mid two → GoesPast R xs zs lines at two
  past_then xs ys zs at mid one two is first then' = by two (subst (GoesPast R xs ys lines at) is first) then' where
    by : (o : Option ℕ) → AllZip R xs (drop at lines) ↔ AllZip R ys (drop mid lines) → GoesPast R ys zs lines mid o → GoesPast R xs zs lines at o
    by None a b = λ zip. b (a.0 zip)
    by (Some end) a b = (λ zip. b.0 (a.0 zip), λ zip. a.1 (b.1 zip))

  pub past_stops : (xs ys zs : List X) (at : ℕ) (one : Option ℕ) → one ≡ None → GoesPast R xs ys lines at one → GoesPast R xs zs lines at None
  past_stops xs ys zs at one is first = subst (GoesPast R xs ys lines at) is first

  -- where nothing is left to want a line, none is left
  pub nothing_left : (at : ℕ) → AllZip R [] (drop at lines) ↔ (length lines ≤ at)
  nothing_left at = (λ zip. by (drop at lines) refl zip, λ over. subst (AllZip R []) (sym (drop_over lines at over)) tt) where
    by : (ls : List LineFacts) → drop at lines ≡ ls → AllZip R [] ls → length lines ≤ at
    by [] is zip = all_dropped lines at is
    by (l ∷ ls) is zip = absurd zip

-- all places of a heap, one after the other
pub heap_done : (ms : List Member) (lines : List LineFacts) (h : HeapFacts) (d : CoherencyDomains) (i : ℕ) (hs : List HeapFacts) (at cpu ram : ℕ) (one two three : Option ℕ) → d ≡ h.domains
    → one ≡ Some cpu → two ≡ Some ram
    → ((p : HeapPlace) (ps : List HeapPlace) → p.heap ≡ h → p.place.coherency ≡ Cpu → GoesPast (RefusesPlace ms) (put_if d.cpu p ps) ps lines at one)
    → ((p : HeapPlace) (ps : List HeapPlace) → p.heap ≡ h → p.place.coherency ≡ Ram → GoesPast (RefusesPlace ms) (put_if d.ram p ps) ps lines cpu two)
    → ((p : HeapPlace) (ps : List HeapPlace) → p.heap ≡ h → p.place.coherency ≡ Inaccessible → GoesPast (RefusesPlace ms) (put_if d.inaccessible p ps) ps lines ram three)
    → GoesPast (RefusesPlace ms) (places_from i (h ∷ hs)) (places_from (i + 1) hs) lines at three
heap_done ms lines h d i hs at cpu ram one two three same is_one is_two a b c =
    subst (λ e. GoesPast R (with_cpu e) last lines at three) same
    (past_then R lines (with_cpu d) (with_ram d) last at cpu one three is_one (a (in_domain Cpu) (with_ram d) refl refl)
    (past_then R lines (with_ram d) (with_inaccessible d) last cpu ram two three is_two (b (in_domain Ram) (with_inaccessible d) refl refl) (c (in_domain Inaccessible) last refl refl))) where
      R : HeapPlace → LineFacts → Type 0
      R = RefusesPlace ms

      in_domain : CoherencyDomain → HeapPlace
      in_domain domain = record { place = record { heap = i; coherency = domain }; heap = h }

      last : List HeapPlace
      last = places_from (i + 1) hs

      with_inaccessible : CoherencyDomains → List HeapPlace
      with_inaccessible e = put_if e.inaccessible (in_domain Inaccessible) last

      with_ram : CoherencyDomains → List HeapPlace
      with_ram e = put_if e.ram (in_domain Ram) (with_inaccessible e)

      with_cpu : CoherencyDomains → List HeapPlace
      with_cpu e = put_if e.cpu (in_domain Cpu) (with_ram e)

module _ (ms : List Member) (heaps : List HeapFacts) (lines : List LineFacts) where
  abbrev R : HeapPlace → LineFacts → Type 0
  R = RefusesPlace ms

  abbrev HeapsLeft : ℕ → ℕ → Type 0
  HeapsLeft k at = AllZip R (places_of heaps) lines ↔ AllZip R (places_from k (drop k heaps)) (drop at lines)

  module _ (k at : ℕ) (heap : HeapFacts) (less : k < length heaps) (is : heap ≡ get_or heaps k heap) (left : HeapsLeft k at) (o : Option ℕ)
      (past : (i : ℕ) (hs : List HeapFacts) → GoesPast R (places_from i (heap ∷ hs)) (places_from (i + 1) hs) lines at o) where
    here : GoesPast R (places_from k (drop k heaps)) (places_from (k + 1) (drop (k + 1) heaps)) lines at o
    here = subst (λ hs. GoesPast R (places_from k hs) (places_from (k + 1) (drop (k + 1) heaps)) lines at o) (sym (front_item heaps k heap less is)) (past k (drop (k + 1) heaps))

    pub heap_past : (end : ℕ) → o ≡ Some end → HeapsLeft (k + 1) end
    heap_past end some = let h = subst (GoesPast R (places_from k (drop k heaps)) (places_from (k + 1) (drop (k + 1) heaps)) lines at) some here in (λ zip. h.0 (left.0 zip), λ zip. left.1 (h.1 zip))

    pub heap_stops : o ≡ None → ¬ (AllZip R (places_of heaps) lines)
    heap_stops none zip = (subst (GoesPast R (places_from k (drop k heaps)) (places_from (k + 1) (drop (k + 1) heaps)) lines at) none here) (left.0 zip)

  pub heaps_past : (k at : ℕ) → length heaps ≤ k → HeapsLeft k at → AllZip R (places_of heaps) lines ↔ (length lines ≤ at)
  heaps_past k at over left =
      let h = subst (λ hs. AllZip R (places_of heaps) lines ↔ AllZip R (places_from k hs) (drop at lines)) (drop_over heaps k over) left in
      let n = nothing_left R lines at in (λ zip. n.0 (h.0 zip), λ o. h.1 (n.1 o))

-- offers
module _ (whole : Bool) (ms : List Member) (os : List Offer) (lines : List LineFacts) where
  abbrev OffersLeft : ℕ → Type 0
  OffersLeft k = AllZip (RefusesOffer whole ms) os lines ↔ AllZip (RefusesOffer whole ms) (drop k os) (drop k lines)

  module _ (k : ℕ) (left : OffersLeft k) where
    abbrev Both : List Offer → List LineFacts → Type 0
    Both xs ls = AllZip (RefusesOffer whole ms) os lines ↔ AllZip (RefusesOffer whole ms) xs ls

    both : (xs : List Offer) (ls : List LineFacts) → drop k os ≡ xs → drop k lines ≡ ls → Both xs ls
    both xs ls one two = subst (Both xs) two (subst (λ ys. Both ys (drop k lines)) one left)

    module _ (line : LineFacts) (less : k < length lines) (is : line ≡ get_or lines k line) where
      pub offer_past : (o : Offer) → slice_get os k ≡ Some o → RefusesOffer whole ms o line → OffersLeft (k + 1)
      offer_past o there refuses =
          let b = both (o ∷ drop (k + 1) os) (line ∷ drop (k + 1) lines) (drop_there os k o there) (front_item lines k line less is) in (λ zip. (b.0 zip).1, λ zip. b.1 (refuses, zip))

      pub offer_stops : (o : Offer) → slice_get os k ≡ Some o → ¬ (RefusesOffer whole ms o line) → ¬ (AllZip (RefusesOffer whole ms) os lines)
      offer_stops o there untrue zip = untrue ((both (o ∷ drop (k + 1) os) (line ∷ drop (k + 1) lines) (drop_there os k o there) (front_item lines k line less is)).0 zip).0

    none_there : {X : Type 0} (xs : List X) (k : ℕ) → slice_get xs k ≡ None → drop k xs ≡ []
    none_there [] zero none = refl
    none_there [] (suc k) none = refl
    none_there (x ∷ xs) zero none = absurd (none-some x (sym none))
    none_there (x ∷ xs) (suc k) none = none_there xs k none

    pub line_without : k < length lines → slice_get os k ≡ None → ¬ (AllZip (RefusesOffer whole ms) os lines)
    line_without less none zip = by (drop k lines) refl ((both [] (drop k lines) (none_there os k none) refl).0 zip) where
      by : (ls : List LineFacts) → drop k lines ≡ ls → AllZip (RefusesOffer whole ms) [] ls → ⊥
      by [] is zip = let over = all_dropped lines k is in omega (arith, less, over)
      by (l ∷ ls) is zip = zip

    pub offers_past : length lines ≤ k → slice_get os k ≡ None → AllZip (RefusesOffer whole ms) os lines
    offers_past over none = (both [] [] (none_there os k none) (drop_over lines k over)).1 tt

    pub offer_without : (o : Offer) → length lines ≤ k → slice_get os k ≡ Some o → ¬ (AllZip (RefusesOffer whole ms) os lines)
    offer_without o over some zip = (both (o ∷ drop (k + 1) os) [] (drop_there os k o some) (drop_over lines k over)).0 zip

    -- at the end of the lines, by whether an offer is left
    pub if_none : (o : Option Offer) (t : Bool) → length lines ≤ k → slice_get os k ≡ o → is_some o ≡ not t → IsTrue t ↔ AllZip (RefusesOffer whole ms) os lines
    if_none None true over none test = (λ _. offers_past over none, λ _. refl)
    if_none None false over none test = absurd (cc)
    if_none (Some o) true over some test = absurd (cc)
    if_none (Some o) false over some test = (λ is. absurd (cc), λ zip. absurd (offer_without o over some zip))

-- the offers of a platform, by its pairs and its colour spaces
pub same_offers : (ps qs : List Pair) (cs ds : List ColourSpace) (k : ℕ) (o : Option Offer) → ps ≡ qs → cs ≡ ds → o ≡ slice_get (offers ps cs) k → slice_get (offers qs ds) k ≡ o
same_offers ps qs cs ds k o one two is = ap (λ x. slice_get (offers x ds) k) (sym one) ∙ (ap (λ x. slice_get (offers ps x) k) (sym two) ∙ sym is)
