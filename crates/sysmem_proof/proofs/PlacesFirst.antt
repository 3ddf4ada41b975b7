-- The places before one of a platform.
use Rattle.std.proofs.Common.{◌≡◌, ◌≢◌, ◌<◌, ◌≤◌, ℕ, zero, suc, ◌+◌, Bool, true, false, List, [], ◌∷◌, ◌++◌, Some, length, take, get_or, slice_get, refl, sym, ◌∙◌, ap, subst, arith, append_assoc}
use Rattle.std.specs.Prelude.{All, IsTrue, MatchResult, Ok, Err, Result}
use Rattle.std.specs.List.{AllZip}
use Rattle.std.proofs.lemmas.List.{append-nil}
use Rattle.std.proofs.lemmas.Option.{same_Some}
use Rattle.std.proofs.lemmas.List.Elements.{All-nil, All-cons}
use Rattle.sysmem_memory.specs.declared.domain.CoherencyDomain.{CoherencyDomain}
use Rattle.sysmem_memory.specs.declared.domain.CoherencyDomain.TheVariants.{Cpu, Ram, Inaccessible}
use Rattle.sysmem_memory.specs.declared.domain.CoherencyDomains.{CoherencyDomains}
use Rattle.sysmem_memory.specs.declared.place.Place.{Place}
use Rattle.sysmem_memory.specs.Domain.{has_domain, rank}
use Rattle.sysmem_memory.specs.Heap.{HeapFacts}
use Rattle.sysmem_memory.specs.Listed.{HeapPlace, put_if, places_from, places_of}
use Rattle.sysmem_memory.specs.Place.{IsPlace}
use Rattle.sysmem_merge.specs.declared.settings.Settings.{Settings}
use Rattle.negotiation_inputs.specs.Platform.{PlatformFacts}
use Rattle.sysmem_tree.specs.Shape.{Member}
use Rattle.verdict_claims.specs.declared.no.No.{No}
use Rattle.verdict_claims.specs.declared.no.No.TheVariants.{Missing, WrongShape}
use Rattle.verdict_claims.specs.Certificate.{RefusePlacesBefore}
use Rattle.verdict_claims.specs.Conflict.{RefusesPlace}
use Rattle.verdict_claims.specs.Fault.{Faults, LineFaults, PlacesFault}
use Rattle.verdict_claims.specs.Line.{LineFacts}
use Rattle.sysmem_proof.specs.PlacesBefore.{AreTold, PlaceLinesFault, place_if, places_in, domains_before, places_before}
use Rattle.sysmem_proof.proofs.LineByLine.{fault_at, front_more, front_split, missing_at, split_at, told_all, told_more, too_many}

put_front : (t : Bool) (x : HeapPlace) (xs : List HeapPlace) → put_if t x xs ≡ put_if t x [] ++ xs
put_front true x xs = refl
put_front false x xs = refl

-- the places of the first heap are before those of the others
from_first : (i : ℕ) (h : HeapFacts) (hs : List HeapFacts) → places_from i (h ∷ hs) ≡ places_in i h h.domains ++ places_from (i + 1) hs
from_first i h hs =
    let cpu : HeapPlace = record { place = record { heap = i; coherency = Cpu }; heap = h } in
    let ram : HeapPlace = record { place = record { heap = i; coherency = Ram }; heap = h } in
    let no' : HeapPlace = record { place = record { heap = i; coherency = Inaccessible }; heap = h } in
    let rest = places_from (i + 1) hs in
    let d = h.domains in
    put_front d.cpu cpu _ ∙ (ap (λ xs. put_if d.cpu cpu [] ++ xs) (put_front d.ram ram _ ∙ (ap (λ xs. put_if d.ram ram [] ++ xs) (put_front d.inaccessible no' rest)
    ∙ sym (append_assoc (put_if d.ram ram []) (put_if d.inaccessible no' []) rest)))
    ∙ sym (append_assoc (put_if d.cpu cpu []) (put_if d.ram ram [] ++ put_if d.inaccessible no' []) rest))

-- those of some heaps are before those of the others
from_more : (i : ℕ) (hs ks : List HeapFacts) → places_from i (hs ++ ks) ≡ places_from i hs ++ places_from (i + length hs) ks
from_more i [] ks = let z : i ≡ i + 0 = omega arith in ap (λ n. places_from n ks) z
from_more i (h ∷ hs) ks =
    let z : (i + 1) + length hs ≡ i + suc (length hs) = omega arith in
    from_first i h (hs ++ ks)
    ∙ (ap (λ xs. places_in i h h.domains ++ xs) (from_more (i + 1) hs ks ∙ ap (λ n. places_from (i + 1) hs ++ places_from n ks) z)
    ∙ (sym (append_assoc (places_in i h h.domains) (places_from (i + 1) hs) (places_from (i + suc (length hs)) ks))
    ∙ ap (λ xs. xs ++ places_from (i + suc (length hs)) ks) (sym (from_first i h hs))))

from_start : (hs ks : List HeapFacts) → places_of (hs ++ ks) ≡ places_of hs ++ places_from (length hs) ks
from_start hs ks = let z : 0 + length hs ≡ length hs = omega arith in from_more 0 hs ks ∙ ap (λ n. places_of hs ++ places_from n ks) z

long_front : {X : Type 0} (xs : List X) (k : ℕ) (x : X) → slice_get xs k ≡ Some x → length (take k xs) ≡ k
long_front [] k x is = absurd (cc (is))
long_front (y ∷ xs) zero x is = refl
long_front (y ∷ xs) (suc k) x is = ap suc (long_front xs k x is)

-- one heap more
pub heap_more : (heaps : List HeapFacts) (k : ℕ) (h : HeapFacts) → slice_get heaps k ≡ Some h → places_of (take (k + 1) heaps) ≡ places_of (take k heaps) ++ places_in k h h.domains
heap_more heaps k h is =
    ap places_of (front_more heaps k h is) ∙ (from_start (take k heaps) (h ∷ [])
    ∙ (ap (λ n. places_of (take k heaps) ++ places_from n (h ∷ [])) (long_front heaps k h is)
    ∙ ap (λ xs. places_of (take k heaps) ++ xs) (from_first k h [] ∙ append-nil (places_in k h h.domains))))

-- those before a place begin with those of an earlier heap, and of the ones before that
pub begin_with : (heaps : List HeapFacts) (k : ℕ) (h last : HeapFacts) (place : Place) → k < place.heap → slice_get heaps k ≡ Some h
    → (more : List HeapPlace) × (places_before heaps last place ≡ (places_of (take k heaps) ++ places_in k h h.domains) ++ more)
begin_with heaps k h last place less is =
    let (rest, e) = front_split heaps k place.heap h less is in
    let own = places_in place.heap last (domains_before last.domains place.coherency) in (
      places_from (k + 1) rest ++ own,
      ap (λ xs. xs ++ own) (ap places_of e ∙ (from_start (take k heaps) (h ∷ rest)
          ∙ (ap (λ n. places_of (take k heaps) ++ places_from n (h ∷ rest)) (long_front heaps k h is)
          ∙ (ap (λ xs. places_of (take k heaps) ++ xs) (from_first k h rest) ∙ sym (append_assoc (places_of (take k heaps)) (places_in k h h.domains) (places_from (k + 1) rest))))))
          ∙ append_assoc (places_of (take k heaps) ++ places_in k h h.domains) (places_from (k + 1) rest) own,
    )

-- the places of a heap are those before one of its domains, that one, and others
in_split : (i : ℕ) (h : HeapFacts) (s : CoherencyDomains) (d : CoherencyDomain) → IsTrue (has_domain s d)
    → (behind : List HeapPlace) × (places_in i h s ≡ places_in i h (domains_before s d) ++ record { place = record { heap = i; coherency = d }; heap = h } ∷ behind)
in_split i h s Cpu has = by s.cpu has where
  by : (t : Bool) → IsTrue t → (behind : List HeapPlace) × (place_if t (record { heap = i; coherency = Cpu }) h
      ++ (place_if s.ram (record { heap = i; coherency = Ram }) h ++ place_if s.inaccessible (record { heap = i; coherency = Inaccessible }) h)
      ≡ record { place = record { heap = i; coherency = Cpu }; heap = h } ∷ behind)
  by true t = (_, refl)
  by false t = absurd (cc (t))
in_split i h s Ram has = by s.ram has where
  cpus : List HeapPlace
  cpus = place_if s.cpu (record { heap = i; coherency = Cpu }) h

  by : (t : Bool) → IsTrue t → (behind : List HeapPlace) × (cpus ++ (place_if t (record { heap = i; coherency = Ram }) h ++ place_if s.inaccessible (record { heap = i; coherency = Inaccessible }) h)
      ≡ (cpus ++ []) ++ record { place = record { heap = i; coherency = Ram }; heap = h } ∷ behind)
  by true t = (
    place_if s.inaccessible (record { heap = i; coherency = Inaccessible }) h,
    ap (λ xs. xs ++ record { place = record { heap = i; coherency = Ram }; heap = h } ∷ place_if s.inaccessible (record { heap = i; coherency = Inaccessible }) h) (sym (append-nil cpus)),
  )
  by false t = absurd (cc (t))
in_split i h s Inaccessible has = by s.inaccessible has where
  cpus : List HeapPlace
  cpus = place_if s.cpu (record { heap = i; coherency = Cpu }) h

  rams : List HeapPlace
  rams = place_if s.ram (record { heap = i; coherency = Ram }) h

  by : (t : Bool) → IsTrue t → (behind : List HeapPlace) × (cpus ++ (rams ++ place_if t (record { heap = i; coherency = Inaccessible }) h)
      ≡ (cpus ++ (rams ++ [])) ++ record { place = record { heap = i; coherency = Inaccessible }; heap = h } ∷ behind)
  by true t = (
    [],
    sym (append_assoc cpus rams (record { place = record { heap = i; coherency = Inaccessible }; heap = h } ∷ []))
        ∙ ap (λ xs. (cpus ++ xs) ++ record { place = record { heap = i; coherency = Inaccessible }; heap = h } ∷ []) (sym (append-nil rams)),
  )
  by false t = absurd (cc (t))

-- a place of a platform stands behind those before it
pub place_split : (heaps : List HeapFacts) (place : Place) (h : HeapFacts) → IsPlace heaps place h
    → (behind : List HeapPlace) × (places_of heaps ≡ places_before heaps h place ++ record { place = place; heap = h } ∷ behind)
place_split heaps place h is =
    let (rest, e) = split_at heaps place.heap h is.heap in
    let (more, f) = in_split place.heap h h.domains place.coherency is.domain in
    let front = places_of (take place.heap heaps) in
    let own = places_in place.heap h (domains_before h.domains place.coherency) in
    let one : HeapPlace = record { place = place; heap = h } in
    let later = places_from (place.heap + 1) rest in (
      more ++ later,
      ap places_of e ∙ (from_start (take place.heap heaps) (h ∷ rest)
          ∙ (ap (λ n. front ++ places_from n (h ∷ rest)) (long_front heaps place.heap h is.heap)
          ∙ (ap (λ xs. front ++ xs) (from_first place.heap h rest ∙ (ap (λ xs. xs ++ later) f ∙ append_assoc own (one ∷ more) later))
          ∙ sym (append_assoc front own (one ∷ (more ++ later)))))),
    )

all_both : {X : Type 0} (P : X → Type 0) (xs ys : List X) → All P xs → All P ys → All P (xs ++ ys)
all_both P [] ys a b k d less = b k d less
all_both P (x ∷ xs) ys a b zero d less = a zero d (omega arith)
all_both P (x ∷ xs) ys a b (suc k) d less = all_both P xs ys (λ j e w. a (suc j) e (omega (arith, w))) b k d (omega (arith, less))

all_if : (P : HeapPlace → Type 0) (t : Bool) (place : Place) (h : HeapFacts) → P (record { place = place; heap = h }) → All P (place_if t place h)
all_if P true place h p = All-cons P (record { place = place; heap = h }) [] p (All-nil P)
all_if P false place h p = All-nil P

in_all : (P : HeapPlace → Type 0) (i : ℕ) (h : HeapFacts) (s : CoherencyDomains) → ((d : CoherencyDomain) → P (record { place = record { heap = i; coherency = d }; heap = h })) → All P (places_in i h s)
in_all P i h s each = all_both P (place_if s.cpu (record { heap = i; coherency = Cpu }) h) _ (all_if P s.cpu _ h (each Cpu))
    (all_both P (place_if s.ram (record { heap = i; coherency = Ram }) h) _ (all_if P s.ram _ h (each Ram)) (all_if P s.inaccessible _ h (each Inaccessible)))

-- places of other heaps are others
earlier_heaps : (i : ℕ) (hs : List HeapFacts) (p : HeapPlace) → i + length hs ≤ p.place.heap → All (λ q. q ≢ p) (places_from i hs)
earlier_heaps i [] p over = All-nil (λ q. q ≢ p)
earlier_heaps i (h ∷ hs) p over = subst (All (λ q. q ≢ p)) (sym (from_first i h hs)) (all_both (λ q. q ≢ p) (places_in i h h.domains) (places_from (i + 1) hs)
    (in_all (λ q. q ≢ p) i h h.domains (λ d same. (let e : i ≡ p.place.heap = ap (λ (q : HeapPlace). q.place.heap) same in omega (arith, e, over)))) (earlier_heaps (i + 1) hs p (omega (arith, over))))

-- and so are those of the same heap in earlier domains
apart : (i : ℕ) (h : HeapFacts) (a b : CoherencyDomain) → rank a < rank b → (p q : HeapPlace) → p ≡ record { place = record { heap = i; coherency = a }; heap = h }
    → q ≡ record { place = record { heap = i; coherency = b }; heap = h } → p ≢ q
apart i h a b less p q one two same = let e : rank a ≡ rank b = ap (λ (x : HeapPlace). rank x.place.coherency) (sym one ∙ (same ∙ two)) in omega (arith, e, less)

earlier_domains : (i : ℕ) (h : HeapFacts) (s : CoherencyDomains) (d : CoherencyDomain) → All (λ q. q ≢ record { place = record { heap = i; coherency = d }; heap = h }) (places_in i h (domains_before s d))
earlier_domains i h s Cpu = All-nil (λ q. q ≢ record { place = record { heap = i; coherency = Cpu }; heap = h })
earlier_domains i h s Ram = all_both (λ q. q ≢ record { place = record { heap = i; coherency = Ram }; heap = h }) (place_if s.cpu (record { heap = i; coherency = Cpu }) h) []
    (all_if (λ q. q ≢ record { place = record { heap = i; coherency = Ram }; heap = h }) s.cpu _ h (apart i h Cpu Ram (omega arith) _ _ refl refl)) (All-nil (λ q. q ≢ record { place = record { heap = i; coherency = Ram }; heap = h }))
earlier_domains i h s Inaccessible =
    let P : HeapPlace → Type 0 = λ q. q ≢ record { place = record { heap = i; coherency = Inaccessible }; heap = h } in
    all_both P (place_if s.cpu (record { heap = i; coherency = Cpu }) h) _ (all_if P s.cpu _ h (apart i h Cpu Inaccessible (omega arith) _ _ refl refl))
    (all_both P (place_if s.ram (record { heap = i; coherency = Ram }) h) [] (all_if P s.ram _ h (apart i h Ram Inaccessible (omega arith) _ _ refl refl)) (All-nil P))

-- none of those before a place is it
pub before_differ : (heaps : List HeapFacts) (place : Place) (h : HeapFacts) → IsPlace heaps place h → All (λ q. q ≢ record { place = place; heap = h }) (places_before heaps h place)
before_differ heaps place h is = all_both (λ q. q ≢ record { place = place; heap = h }) (places_of (take place.heap heaps)) (places_in place.heap h (domains_before h.domains place.coherency))
    (earlier_heaps 0 (take place.heap heaps) (record { place = place; heap = h }) (let e = long_front heaps place.heap h is.heap in omega (arith, e)))
    (earlier_domains place.heap h h.domains place.coherency)

module _ (ms : List Member) (told : List HeapPlace) (lines : List LineFacts) (many : ℕ) (there : Bool) (place : Place) (h : HeapFacts) where
  -- where no place is there, nothing is to refuse it
  pub none_there : there ≡ false → AreTold ms told lines many → AreTold ms (told ++ place_if there place h) lines many
  none_there no' are = subst (λ t. AreTold ms (told ++ place_if t place h) lines many) (sym no') (subst (λ xs. AreTold ms xs lines many) (sym (append-nil told)) are)

  module _ (yes' : there ≡ true) (are : AreTold ms told lines many) where
    abbrev one : HeapPlace
    one = record { place = place; heap = h }

    abbrev faults : HeapPlace → LineFacts → Faults
    faults p line = LineFaults ms (RefusesPlace ms p line) line

    with_it : (more : List HeapPlace) → told ++ one ∷ more ≡ (told ++ place_if there place h) ++ more
    with_it more = sym (append_assoc told (one ∷ []) more) ∙ ap (λ t. (told ++ place_if t place h) ++ more) (sym yes')

    pub missing_there : length lines ≤ many → (more : List HeapPlace) → PlaceLinesFault ms ((told ++ place_if there place h) ++ more) lines Missing
    missing_there over more = subst (λ xs. PlaceLinesFault ms xs lines Missing) (with_it more) (missing_at (RefusesPlace ms) faults told lines many one more over are.each)

    pub fault_there : (line : LineFacts) (why : No) → many < length lines → line ≡ get_or lines many line → LineFaults ms (RefusesPlace ms one line) line why
        → (more : List HeapPlace) → PlaceLinesFault ms ((told ++ place_if there place h) ++ more) lines why
    fault_there line why less is f more = subst (λ xs. PlaceLinesFault ms xs lines why) (with_it more) (fault_at (RefusesPlace ms) faults told lines many one line more why less is are.each f)

    pub told_there : (line : LineFacts) → many < length lines → line ≡ get_or lines many line → RefusesPlace ms one line → AreTold ms (told ++ place_if there place h) lines (many + 1)
    told_there line less is r = subst (λ t. AreTold ms (told ++ place_if t place h) lines (many + 1)) (sym yes')
        (record { each = told_more (RefusesPlace ms) told lines many one line less is r are.each; within = omega (arith, less) })

-- lines for all places before that of settings
module _ (platform : PlatformFacts) (ms : List Member) (s : Settings) (lines : List LineFacts) (h : HeapFacts) (is : IsPlace platform.heaps s.place h) where
  pub refused_before : AllZip (RefusesPlace ms) (places_before platform.heaps h s.place) lines → RefusePlacesBefore platform ms s lines
  refused_before each = let (behind, there) = place_split platform.heaps s.place h is in record {
    at = record { place = s.place; heap = h };
    same = refl;
    each = record { before = places_before platform.heaps h s.place; behind = behind; there = there; first = before_differ platform.heaps s.place h is; each = each };
  }

  pub fails_before : (why : No) → PlaceLinesFault ms (places_before platform.heaps h s.place) lines why → PlacesFault platform ms s lines why
  fails_before why fault = let (behind, there) = place_split platform.heaps s.place h is in record {
    at = record { place = s.place; heap = h };
    same = refl;
    each = record { before = places_before platform.heaps h s.place; behind = behind; there = there; first = before_differ platform.heaps s.place h is; fault = fault };
  }

-- of both kinds of result
pub before_told : {A : Type 0} (platform : PlatformFacts) (ms : List Member) (s : Settings) (lines : List LineFacts) (heaps : List HeapFacts) (result : Result A No) → heaps ≡ platform.heaps
    → ((h : HeapFacts) → slice_get heaps s.place.heap ≡ Some h → MatchResult result (λ _. AllZip (RefusesPlace ms) (places_before heaps h s.place) lines) (PlaceLinesFault ms (places_before heaps h s.place) lines))
    → (h : HeapFacts) × IsPlace platform.heaps s.place h → MatchResult result (λ _. RefusePlacesBefore platform ms s lines) (PlacesFault platform ms s lines)
before_told {A} platform ms s lines heaps result same told (h, is) =
    by result (subst (λ hs. MatchResult result (λ _. AllZip (RefusesPlace ms) (places_before hs h s.place) lines) (PlaceLinesFault ms (places_before hs h s.place) lines)) same
    (told h (ap (λ hs. slice_get hs s.place.heap) same ∙ is.heap))) where
      by : (r : Result A No) → MatchResult r (λ _. AllZip (RefusesPlace ms) (places_before platform.heaps h s.place) lines) (PlaceLinesFault ms (places_before platform.heaps h s.place) lines)
          → MatchResult r (λ _. RefusePlacesBefore platform ms s lines) (PlacesFault platform ms s lines)
      by (Ok x) f = refused_before platform ms s lines h is f
      by (Err why) f = fails_before platform ms s lines h is why f

-- those of one place, and then others
pub more_fault : (ms : List Member) (told as' bs : List HeapPlace) (lines : List LineFacts) (why : No) → ((more : List HeapPlace) → PlaceLinesFault ms ((told ++ as') ++ more) lines why)
    → (more : List HeapPlace) → PlaceLinesFault ms ((told ++ (as' ++ bs)) ++ more) lines why
more_fault ms told as' bs lines why f more =
    subst (λ xs. PlaceLinesFault ms xs lines why) (sym (append_assoc (told ++ as') bs more) ∙ ap (λ xs. xs ++ more) (append_assoc told as' bs)) (f (bs ++ more))

module _ (ms : List Member) (told cpus rams others : List HeapPlace) (lines : List LineFacts) where
  pub first_fails : (why : No) → ((more : List HeapPlace) → PlaceLinesFault ms ((told ++ cpus) ++ more) lines why) → (more : List HeapPlace) → PlaceLinesFault ms ((told ++ (cpus ++ (rams ++ others))) ++ more) lines why
  first_fails why f = more_fault ms told cpus (rams ++ others) lines why f

  pub second_fails : (why : No) → ((more : List HeapPlace) → PlaceLinesFault ms (((told ++ cpus) ++ rams) ++ more) lines why)
      → (more : List HeapPlace) → PlaceLinesFault ms ((told ++ (cpus ++ (rams ++ others))) ++ more) lines why
  second_fails why f more = subst (λ xs. PlaceLinesFault ms (xs ++ more) lines why) (append_assoc told cpus (rams ++ others)) (more_fault ms (told ++ cpus) rams others lines why f more)

  pub last_told : (result : Result ℕ No) → MatchResult result (λ next. AreTold ms (((told ++ cpus) ++ rams) ++ others) lines next)
      (λ why. (more : List HeapPlace) → PlaceLinesFault ms ((((told ++ cpus) ++ rams) ++ others) ++ more) lines why)
      → MatchResult result (λ next. AreTold ms (told ++ (cpus ++ (rams ++ others))) lines next) (λ why. (more : List HeapPlace) → PlaceLinesFault ms ((told ++ (cpus ++ (rams ++ others))) ++ more) lines why)
  last_told result h = subst (λ xs. MatchResult result (λ next. AreTold ms xs lines next) (λ why. (more : List HeapPlace) → PlaceLinesFault ms (xs ++ more) lines why))
      (append_assoc (told ++ cpus) rams others ∙ append_assoc told cpus (rams ++ others)) h

-- one heap more
pub heap_told : (ms : List Member) (heaps : List HeapFacts) (lines : List LineFacts) (k next : ℕ) (h : HeapFacts) (domains : CoherencyDomains) → slice_get heaps k ≡ Some h → domains ≡ h.domains
    → AreTold ms (places_of (take k heaps) ++ places_in k h domains) lines next → AreTold ms (places_of (take (k + 1) heaps)) lines next
heap_told ms heaps lines k next h domains is same are = subst (λ xs. AreTold ms xs lines next) (ap (λ d. places_of (take k heaps) ++ places_in k h d) same ∙ sym (heap_more heaps k h is)) are

-- what is read of heaps
pub read_heap : (heaps : List HeapFacts) (k : ℕ) (h : HeapFacts) → h ≡ get_or heaps k h → k < length heaps → slice_get heaps k ≡ Some h
read_heap [] k h is less = absurd (omega (arith, less))
read_heap (x ∷ heaps) zero h is less = ap Some (sym is)
read_heap (x ∷ heaps) (suc k) h is less = read_heap heaps k h is (omega (arith, less))

-- all places before one in the last of some heaps
module _ (ms : List Member) (heaps : List HeapFacts) (lines : List LineFacts) (place : Place) (last : HeapFacts) (here : slice_get heaps place.heap ≡ Some last) where
  pub heap_fails : (k : ℕ) (h : HeapFacts) (domains : CoherencyDomains) (why : No) → k < place.heap → slice_get heaps k ≡ Some h → domains ≡ h.domains
      → ((more : List HeapPlace) → PlaceLinesFault ms ((places_of (take k heaps) ++ places_in k h domains) ++ more) lines why) → PlaceLinesFault ms (places_before heaps last place) lines why
  heap_fails k h domains why less is same f =
      let (more, e) = begin_with heaps k h last place less is in
      subst (λ xs. PlaceLinesFault ms xs lines why) (ap (λ d. (places_of (take k heaps) ++ places_in k h d) ++ more) same ∙ sym e) (f more)

  -- and those before it in that one
  module _ (k : ℕ) (h : HeapFacts) (domains : CoherencyDomains) (end : k ≡ place.heap) (is : slice_get heaps place.heap ≡ Some h) (up : domains ≡ domains_before h.domains place.coherency) where
    same : places_of (take k heaps) ++ places_in place.heap h domains ≡ places_before heaps last place
    same =
        let one : h ≡ last = same_Some h last (sym is ∙ here) in
        ap (λ n. places_of (take n heaps) ++ places_in place.heap h domains) end ∙ (ap (λ d. places_of (take place.heap heaps) ++ places_in place.heap h d) up
        ∙ ap (λ (x : HeapFacts). places_of (take place.heap heaps) ++ places_in place.heap x (domains_before x.domains place.coherency)) one)

    pub last_fails : (why : No) → ((more : List HeapPlace) → PlaceLinesFault ms ((places_of (take k heaps) ++ places_in place.heap h domains) ++ more) lines why)
        → PlaceLinesFault ms (places_before heaps last place) lines why
    last_fails why f = subst (λ xs. PlaceLinesFault ms xs lines why) (append-nil (places_of (take k heaps) ++ places_in place.heap h domains) ∙ same) (f [])

    pub last_all : (many : ℕ) → AreTold ms (places_of (take k heaps) ++ places_in place.heap h domains) lines many → AreTold ms (places_before heaps last place) lines many
    last_all many are = subst (λ xs. AreTold ms xs lines many) same are

  pub all_held : (many : ℕ) → length lines ≤ many → AreTold ms (places_before heaps last place) lines many → AllZip (RefusesPlace ms) (places_before heaps last place) lines
  all_held many over are = told_all (RefusesPlace ms) (places_before heaps last place) lines many over are.each

  pub one_more : (many : ℕ) → many < length lines → AreTold ms (places_before heaps last place) lines many → PlaceLinesFault ms (places_before heaps last place) lines WrongShape
  one_more many less are = too_many (RefusesPlace ms) (λ p line. LineFaults ms (RefusesPlace ms p line) line) (places_before heaps last place) lines many less are.each
