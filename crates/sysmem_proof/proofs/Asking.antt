-- What the participants among nodes ask, one by one and all together.
use Rattle.std.proofs.Common.{◌≡◌, ◌<◌, ◌≤◌, ℕ, zero, suc, ◌+◌, Bool, true, false, List, [], ◌∷◌, ◌++◌, Option, Some, None, length, take, drop, get_or, slice_get, refl, sym, ◌∙◌, ap, subst, arith, append_assoc}
use Rattle.std.specs.Prelude.{◌↔◌, ◌||◌, All, IfSome, IsPermutation, IsTrue, option_and_then}
use Rattle.std.specs.List.{cons_option, list_any}
use Rattle.std.proofs.lemmas.List.{take_more, take_all, take-append-drop, map-append}
use Rattle.std.proofs.lemmas.List.Elements.{All-nil, All-cons, All-head, All-tail, filter_map-append}
use Rattle.std.proofs.lemmas.List.Sorted.{All-permutation, IsPermutation-sym, IsPermutation-map}
use Rattle.list_lemmas.proofs.CallerLemmas.{slice_get_some, some_in_order}
use Rattle.sysmem_counts.proofs.CallerLemmas.{counted_some}
use Rattle.sysmem_counts.specs.Counts.{IsCounted}
use Rattle.sysmem_counts.specs.declared.constraints.CountConstraints.{CountConstraints}
use Rattle.offer_fits.specs.Demands.{counts_asked}
use Rattle.negotiation_inputs.specs.Participant.{Participant}
use Rattle.sysmem_tree.specs.Node.{NodeFacts}
use Rattle.sysmem_tree.specs.Nodes.{HasNode}
use Rattle.verdict_claims.specs.Asked.{asks_at, asked_in}

-- what a node that is there was told to ask
pub told : (nodes : List NodeFacts) (n : ℕ) (o : Option Participant) → n < length nodes → IfSome (slice_get nodes n) (λ x. o ≡ x.constraints) → o ≡ asks_at nodes n
told nodes n o there is = by (slice_get nodes n) (slice_get_some nodes n there).1 is where
  by : (u : Option NodeFacts) → u ≡ Some (slice_get_some nodes n there).0 → IfSome u (λ x. o ≡ x.constraints) → o ≡ option_and_then (λ (x : NodeFacts). x.constraints) u
  by None e is = absurd (cc)
  by (Some x) e is = is

-- one node more
pub asked_more : (nodes : List NodeFacts) (ns : List ℕ) (k n : ℕ) (o : Option Participant) → k < length ns → All (HasNode nodes) ns → n ≡ get_or ns k n
    → IfSome (slice_get nodes n) (λ x. o ≡ x.constraints) → asked_in nodes (take (k + 1) ns) ≡ asked_in nodes (take k ns) ++ cons_option o []
asked_more nodes ns k n o less there at is =
    ap (asked_in nodes) (take_more ns k n less ∙ ap (λ x. take k ns ++ x ∷ []) (sym at))
    ∙ (filter_map-append (asks_at nodes) (take k ns) (n ∷ [])
    ∙ ap (λ u. asked_in nodes (take k ns) ++ cons_option u []) (sym (told nodes n o (subst (λ x. x < length nodes) (sym at) (there k n less)) is)))

pub asked_whole : (nodes : List NodeFacts) (ns : List ℕ) (k : ℕ) → length ns ≤ k → asked_in nodes (take k ns) ≡ asked_in nodes ns
asked_whole nodes ns k over = ap (asked_in nodes) (take_all k ns over)

-- what one more asks of counts and of an offer
pub counted_more : (ps : List CountConstraints) (xs ys zs : List Participant) → zs ≡ xs ++ ys → (ps ++ counts_asked xs) ++ counts_asked ys ≡ ps ++ counts_asked zs
counted_more ps xs ys zs is = append_assoc ps (counts_asked xs) (counts_asked ys) ∙ ap (λ cs. ps ++ cs) (sym (ap counts_asked is ∙ map-append (λ p. p.counts) xs ys))

-- all that both have
pub both_have : {X : Type 0} (P : X → Type 0) (xs ys : List X) → All P xs → All P ys → All P (xs ++ ys)
both_have P [] ys a b k d less = b k d less
both_have P (x ∷ xs) ys a b zero d less = a zero d (omega arith)
both_have P (x ∷ xs) ys a b (suc k) d less = both_have P xs ys (λ j e w. a (suc j) e (omega (arith, w))) b k d (omega (arith, less))

pub front_has : {X : Type 0} (P : X → Type 0) (xs ys : List X) → All P (xs ++ ys) → All P xs
front_has P [] ys a k d less = absurd (omega (arith, less))
front_has P (x ∷ xs) ys a zero d less = a zero d (omega arith)
front_has P (x ∷ xs) ys a (suc k) d less = front_has P xs ys (λ j e w. a (suc j) e (omega (arith, w))) k d (omega (arith, less))

pub rest_has : {X : Type 0} (P : X → Type 0) (xs ys : List X) → All P (xs ++ ys) → All P ys
rest_has P [] ys a = a
rest_has P (x ∷ xs) ys a = rest_has P xs ys (λ j e w. a (suc j) e (omega (arith, w)))

-- one more that has it, and one that lacks it
pub have_more : (P : Participant → Type 0) (zs xs : List Participant) (o : Option Participant) (t : Bool) → zs ≡ xs ++ cons_option o [] → t ≡ true → IsTrue t ↔ All P (cons_option o [])
    → All P xs → All P zs
have_more P zs xs o t is yes' test all = subst (All P) (sym is) (both_have P xs (cons_option o []) all (test.0 yes'))

pub one_lacks : (P : Participant → Type 0) (nodes : List NodeFacts) (ns : List ℕ) (k : ℕ) (o : Option Participant) (b : Bool) → b ≡ false → IsTrue b ↔ All P (cons_option o [])
    → asked_in nodes (take (k + 1) ns) ≡ asked_in nodes (take k ns) ++ cons_option o [] → All P (asked_in nodes ns) → ⊥
one_lacks P nodes ns k o b no' test is all =
    let whole : asked_in nodes ns ≡ asked_in nodes (take (k + 1) ns) ++ asked_in nodes (drop (k + 1) ns) =
    ap (asked_in nodes) (sym (take-append-drop (k + 1) ns)) ∙ filter_map-append (asks_at nodes) (take (k + 1) ns) (drop (k + 1) ns) in
    let front = front_has P (asked_in nodes (take (k + 1) ns)) (asked_in nodes (drop (k + 1) ns)) (subst (All P) whole all) in
    by b no' (test.1 (rest_has P (asked_in nodes (take k ns)) (cons_option o []) (subst (All P) is front))) where
      by : (b : Bool) → b ≡ false → IsTrue b → ⊥
      by true e t = absurd (cc)
      by false e t = absurd (cc)

-- what is asked by two lists of nodes
pub asked_both : (nodes : List NodeFacts) (xs ys : List ℕ) → asked_in nodes (xs ++ ys) ≡ asked_in nodes xs ++ asked_in nodes ys
asked_both nodes xs ys = filter_map-append (asks_at nodes) xs ys

pub counts_both : (nodes : List NodeFacts) (xs ys : List ℕ) → counts_asked (asked_in nodes xs) ++ counts_asked (asked_in nodes ys) ≡ counts_asked (asked_in nodes (xs ++ ys))
counts_both nodes xs ys = sym (ap counts_asked (asked_both nodes xs ys) ∙ map-append (λ p. p.counts) (asked_in nodes xs) (asked_in nodes ys))

-- a test finds the same in any order
none_found : {X : Type 0} (p : X → Bool) (xs : List X) → list_any p xs ≡ false → All (λ x. p x ≡ false) xs
none_found p [] is = All-nil (λ x. p x ≡ false)
none_found {X} p (x ∷ xs) is = by (none_found p xs) (p x) refl is where
  by : (list_any p xs ≡ false → All (λ x. p x ≡ false) xs) → (t : Bool) → p x ≡ t → (t || list_any p xs) ≡ false → All (λ (x : X). p x ≡ false) (x ∷ xs)
  by rest true e h = absurd (cc (h))
  by rest false e h = All-cons (λ x. p x ≡ false) x xs e (rest h)

finds_none : {X : Type 0} (p : X → Bool) (xs : List X) → All (λ x. p x ≡ false) xs → list_any p xs ≡ false
finds_none p [] all = refl
finds_none p (x ∷ xs) all = rw (All-head (λ x. p x ≡ false) x xs all) (finds_none p xs (All-tail (λ x. p x ≡ false) x xs all))

pub any_in_order : {X : Type 0} (p : X → Bool) (xs ys : List X) → IsPermutation xs ys → list_any p xs ≡ list_any p ys
any_in_order p xs ys order = by (list_any p xs) (list_any p ys) refl refl where
  move : (us vs : List _) → IsPermutation us vs → list_any p us ≡ false → list_any p vs ≡ false
  move us vs o is = finds_none p vs (All-permutation (λ x. p x ≡ false) us vs o (none_found p us is))

  by : (s t : Bool) → list_any p xs ≡ s → list_any p ys ≡ t → list_any p xs ≡ list_any p ys
  by true true a b = a ∙ sym b
  by false t a b = a ∙ sym (move xs ys order a)
  by true false a b = let h = move ys xs (IsPermutation-sym xs ys order) b in absurd (cc (h, a))

-- counts suit in any order
pub counted_in_order : (ps qs : List Participant) (n : ℕ) → IsPermutation ps qs → IsCounted (counts_asked qs) n → IsCounted (counts_asked ps) n
counted_in_order ps qs n order is = counted_some (counts_asked ps) (counts_asked qs) n (some_in_order (counts_asked ps) (counts_asked qs) (IsPermutation-map (λ p. p.counts) ps qs order)) is
