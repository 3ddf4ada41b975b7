-- Lines for one after another of a list.
use Rattle.std.proofs.Common.{◌≡◌, ◌<◌, ◌≤◌, ℕ, zero, suc, ◌+◌, ◌-◌, length, get_or, length-append, Bool, true, false, List, [], ◌∷◌, ◌++◌, Option, Some, None, drop, slice_get, refl, sym, ◌∙◌, ap, subst, append-nil, arith}
use Rattle.std.specs.Prelude.{IfNone}
use Rattle.std.specs.List.{AllZip}
use Rattle.std.proofs.lemmas.List.{append_assoc}
use Rattle.std.proofs.lemmas.Option.{same_Some, none-some, slice_get_within, slice_get-get_or}
use Rattle.sysmem_formats.specs.declared.colour_space.ColourSpace.{ColourSpace}
use Rattle.sysmem_formats.specs.declared.offer.Offer.{Offer}
use Rattle.sysmem_formats.specs.declared.offer.Pair.{Pair}
use Rattle.sysmem_formats.specs.Offers.{offers}
use Rattle.sysmem_memory.specs.Heap.{HeapFacts}
use Rattle.sysmem_memory.specs.Listed.{HeapPlace, put_if, places_from}
use Rattle.negotiation_inputs.specs.Platform.{PlatformFacts, offers_of}
use Rattle.verdict_claims.specs.Line.{LineFacts}
use Rattle.conflict_finding.specs.Refusals.{EndsAt, AreSoFar, GoOn}

module _ {X : Type 0} (R : X → LineFacts → Type 0) where
  zip_push : (xs : List X) (lines : List LineFacts) (x : X) (line : LineFacts) → AllZip R xs lines → R x line → AllZip R (xs ++ x ∷ []) (lines ++ line ∷ [])
  zip_push [] [] x line zip r = (r, tt)
  zip_push [] (l ∷ lines) x line zip r = absurd zip
  zip_push (y ∷ xs) [] x line zip r = absurd zip
  zip_push (y ∷ xs) (l ∷ lines) x line zip r = (zip.0, zip_push xs lines x line zip.1 r)

  -- before any line all are left
  pub none_yet : (xs : List X) → AreSoFar R xs [] xs
  none_yet xs = record { done = []; there = refl; each = tt }

  -- where none are left there is a line for each
  pub all_done : (xs : List X) (lines : List LineFacts) → AreSoFar R xs lines [] → AllZip R xs lines
  all_done xs lines so = subst (λ ys. AllZip R ys lines) (sym (so.there ∙ append-nil so.done)) so.each

  -- one line more
  pub one_more : (xs left : List X) (lines : List LineFacts) (x : X) (line : LineFacts) → AreSoFar R xs lines (x ∷ left) → R x line → AreSoFar R xs (lines ++ line ∷ []) left
  one_more xs left lines x line so r = record {
    done = so.done ++ x ∷ [];
    there = so.there ∙ sym (append_assoc so.done (x ∷ []) left);
    each = zip_push so.done lines x line so.each r;
  }

  module _ (End : X → Type 0) where
    -- they end at what is next
    pub end_here : (xs left : List X) (lines : List LineFacts) (x : X) → AreSoFar R xs lines (x ∷ left) → End x → EndsAt R End xs lines
    end_here xs left lines x so end = record { before = so.done; at = x; behind = left; there = so.there; each = so.each; end = end }

  -- what isn't there is passed, and what is there comes next
  pub not_there : (t : Bool) (xs left : List X) (lines : List LineFacts) (x : X) → t ≡ false → AreSoFar R xs lines (put_if t x left) → AreSoFar R xs lines left
  not_there false xs left lines x is so = so
  not_there true xs left lines x is so = absurd (cc)

  pub is_next : (t : Bool) (xs left : List X) (lines : List LineFacts) (x : X) → t ≡ true → AreSoFar R xs lines (put_if t x left) → AreSoFar R xs lines (x ∷ left)
  is_next true xs left lines x is so = so
  is_next false xs left lines x is so = absurd (cc)

  module _ (End : X → Type 0) where
    -- whether they go on
    pub they_go_on : (t : Bool) (xs left : List X) (lines : List LineFacts) → t ≡ true → GoOn R End xs lines left t → AreSoFar R xs lines left
    they_go_on true xs left lines is go = go
    they_go_on false xs left lines is go = absurd (cc)

    pub they_end : (t : Bool) (xs left : List X) (lines : List LineFacts) → t ≡ false → GoOn R End xs lines left t → EndsAt R End xs lines
    they_end false xs left lines is go = go
    they_end true xs left lines is go = absurd (cc)

-- what is said of nothing, and of something
pub of_none : {X : Type 0} (P : Type 0) (o : Option X) → o ≡ None → IfNone o P → P
of_none P None is h = h
of_none P (Some x) is h = absurd (cc)

-- what is left behind the first of some elements
pub left_at : {X : Type 0} (xs : List X) (k : ℕ) (x : X) → slice_get xs k ≡ Some x → drop k xs ≡ x ∷ drop (k + 1) xs
left_at [] k x here = absurd (none-some x here)
left_at (y ∷ xs) zero x here = ap (λ z. z ∷ xs) (same_Some y x here)
left_at (y ∷ xs) (suc k) x here = let next : suc k + 1 ≡ suc (k + 1) = omega arith in left_at xs k x here ∙ ap (λ zs. x ∷ zs) (ap (λ i. drop i (y ∷ xs)) (sym next))

-- what was pushed is the last
last_push : {X : Type 0} (xs : List X) (x : X) → slice_get (xs ++ x ∷ []) (length xs) ≡ Some x
last_push [] x = refl
last_push (y ∷ xs) x = last_push xs x

pub last_pushed : {X : Type 0} (xs new : List X) (x y : X) → new ≡ xs ++ x ∷ [] → slice_get new (length new - 1) ≡ Some y → x ≡ y
last_pushed xs new x y is at =
    let long : length (xs ++ x ∷ []) - 1 ≡ length xs = omega (arith, length-append xs (x ∷ [])) in
    let there : slice_get (xs ++ x ∷ []) (length (xs ++ x ∷ []) - 1) ≡ Some y = subst (λ zs. slice_get zs (length zs - 1) ≡ Some y) is at in
    same_Some x y (sym (last_push xs x) ∙ subst (λ n. slice_get (xs ++ x ∷ []) n ≡ Some y) long there)

-- with the last once more there is one more
pub one_longer : {X : Type 0} (old new : List X) → zero < length old → ((last : X) → slice_get old (length old - 1) ≡ Some last → new ≡ old ++ last ∷ []) → length new ≡ length old + 1
one_longer [] new some more = absurd (omega (arith, some))
one_longer (x ∷ xs) new some more =
    let inside : length (x ∷ xs) - 1 < length (x ∷ xs) = omega arith in
    let last = get_or (x ∷ xs) (length (x ∷ xs) - 1) x in
    ap length (more last (slice_get-get_or (x ∷ xs) (length (x ∷ xs) - 1) x inside)) ∙ length-append (x ∷ xs) (last ∷ [])

-- past the last none are
pub none_left : {X : Type 0} (xs : List X) (k : ℕ) → slice_get xs k ≡ None → drop k xs ≡ []
none_left [] zero past = refl
none_left [] (suc k) past = refl
none_left (y ∷ xs) zero past = absurd (cc)
none_left (y ∷ xs) (suc k) past = none_left xs k past

-- the offer at the index of the next line, or none
pub offer_read : (platform : PlatformFacts) (pairs : List Pair) (colours : List ColourSpace) → pairs ≡ platform.pairs → colours ≡ platform.colours → (k : ℕ) (lines : List LineFacts) (o : Option Offer)
    → k ≡ length lines → o ≡ slice_get (offers pairs colours) k → o ≡ slice_get (offers_of platform) (length lines)
offer_read platform pairs colours same_pairs same_colours k lines o many is =
    is ∙ (ap (slice_get (offers pairs colours)) many ∙ ap (λ os. slice_get os (length lines)) (ap (λ ps. offers ps colours) same_pairs ∙ ap (offers platform.pairs) same_colours))

-- as many lines as elements of a list were refused so far
module _ {X : Type 0} (R : X → LineFacts → Type 0) where
  pub ends_at_offer : (End : X → Type 0) (xs : List X) (lines : List LineFacts) (x : X) → slice_get xs (length lines) ≡ Some x → AreSoFar R xs lines (drop (length lines) xs) → End x → EndsAt R End xs lines
  ends_at_offer End xs lines x here so end = end_here R End xs (drop (length lines + 1) xs) lines x (subst (AreSoFar R xs lines) (left_at xs (length lines) x here) so) end

  pub one_offer : (xs : List X) (lines new : List LineFacts) (x : X) (line : LineFacts) → slice_get xs (length lines) ≡ Some x → new ≡ lines ++ line ∷ [] → AreSoFar R xs lines (drop (length lines) xs) → R x line
      → AreSoFar R xs new (drop (length new) xs)
  one_offer xs lines new x line here is so r =
      let long : length new ≡ length lines + 1 = ap length is ∙ length-append lines (line ∷ []) in
      subst (λ k. AreSoFar R xs new (drop k xs)) (sym long) (subst (λ ls. AreSoFar R xs ls (drop (length lines + 1) xs)) (sym is)
      (one_more R xs (drop (length lines + 1) xs) lines x line (subst (AreSoFar R xs lines) (left_at xs (length lines) x here) so) r))

  pub all_offers : (xs : List X) (lines : List LineFacts) → slice_get xs (length lines) ≡ None → AreSoFar R xs lines (drop (length lines) xs) → AllZip R xs lines
  all_offers xs lines past so = all_done R xs lines (subst (AreSoFar R xs lines) (none_left xs (length lines) past) so)

-- the places of the heap at an index come first, and past the last heap there are none
pub heap_first : (heaps : List HeapFacts) (k : ℕ) (h : HeapFacts) → k < length heaps → h ≡ get_or heaps k h → places_from k (drop k heaps) ≡ places_from k (h ∷ drop (k + 1) heaps)
heap_first heaps k h inside here = ap (places_from k) (left_at heaps k h (slice_get-get_or heaps k h inside ∙ ap (λ x. Some x) (sym here)))

pub no_heap : (heaps : List HeapFacts) (k : ℕ) → length heaps ≤ k → places_from k (drop k heaps) ≡ []
no_heap heaps k over = ap (places_from k) (none_left heaps k (by (slice_get heaps k) refl)) where
  by : (o : Option HeapFacts) → slice_get heaps k ≡ o → o ≡ None
  by None is = refl
  by (Some h) is = let inside = slice_get_within heaps k h is in absurd (omega (arith, inside, over))

pub next_heap : (R : HeapPlace → LineFacts → Type 0) (xs : List HeapPlace) (heaps given : List HeapFacts) (lines : List LineFacts) (k : ℕ) (h : HeapFacts) → given ≡ heaps → k < length given → h ≡ get_or given k h
    → AreSoFar R xs lines (places_from k (drop k heaps)) → AreSoFar R xs lines (places_from k (h ∷ drop (k + 1) heaps))
next_heap R xs heaps given lines k h same inside here so =
    subst (AreSoFar R xs lines) (heap_first heaps k h (subst (λ hs. k < length hs) same inside) (subst (λ hs. h ≡ get_or hs k h) same here)) so

-- the heap at an index of a list that is the platform's
pub heap_at : (heaps given : List HeapFacts) (k : ℕ) (h : HeapFacts) → given ≡ heaps → k < length given → h ≡ get_or given k h → slice_get heaps k ≡ Some h
heap_at heaps given k h same inside here = subst (λ hs. slice_get hs k ≡ Some h) same (slice_get-get_or given k h inside ∙ ap (λ x. Some x) (sym here))
