-- What the first nodes of a list ask, one by one.
use Rattle.std.proofs.Common.{◌≡◌, ◌<◌, ◌≤◌, ℕ, zero, suc, ◌+◌, Bool, true, false, List, [], ◌∷◌, ◌++◌, Option, Some, None, length, take, drop, get_or, slice_get, sym, ◌∙◌, ap, subst, arith, append_assoc, length-append}
use Rattle.std.specs.Prelude.{◌↔◌, All, IfSome, IsTrue, option_and_then}
use Rattle.std.specs.List.{cons_option}
use Rattle.std.proofs.lemmas.List.{take_more, take_all, take-append-drop, map-append}
use Rattle.std.proofs.lemmas.List.Elements.{filter_map-append}
use Rattle.list_lemmas.proofs.CallerLemmas.{slice_get_some}
use Rattle.sysmem_counts.specs.declared.constraints.CountConstraints.{CountConstraints}
use Rattle.offer_fits.specs.Demands.{counts_asked}
use Rattle.negotiation_inputs.specs.Participant.{Participant}
use Rattle.verdict_claims.specs.Asked.{asks_at, asked_in}
use Rattle.sysmem_tree.specs.Node.{NodeFacts}

-- what a node that is there was told to ask
pub told : (nodes : List NodeFacts) (n : ℕ) (o : Option Participant) → n < length nodes → IfSome (slice_get nodes n) (λ x. o ≡ x.constraints) → o ≡ asks_at nodes n
told nodes n o there is = by (slice_get nodes n) (slice_get_some nodes n there).1 is where
  by : (u : Option NodeFacts) → u ≡ Some (slice_get_some nodes n there).0 → IfSome u (λ x. o ≡ x.constraints) → o ≡ option_and_then (λ (x : NodeFacts). x.constraints) u
  by None e is = absurd (cc)
  by (Some x) e is = is

-- one node more
pub asked_more : (nodes : List NodeFacts) (ns : List ℕ) (k n : ℕ) (o : Option Participant) → k < length ns → All (λ i. i < length nodes) ns → n ≡ get_or ns k n
    → IfSome (slice_get nodes n) (λ x. o ≡ x.constraints) → asked_in nodes (take (k + 1) ns) ≡ asked_in nodes (take k ns) ++ cons_option o []
asked_more nodes ns k n o less there at is =
    ap (asked_in nodes) (take_more ns k n less ∙ ap (λ x. take k ns ++ x ∷ []) (sym at))
    ∙ (filter_map-append (asks_at nodes) (take k ns) (n ∷ [])
    ∙ ap (λ u. asked_in nodes (take k ns) ++ cons_option u []) (sym (told nodes n o (subst (λ x. x < length nodes) (sym at) (there k n less)) is)))

pub asked_whole : (nodes : List NodeFacts) (ns : List ℕ) (k : ℕ) → length ns ≤ k → asked_in nodes (take k ns) ≡ asked_in nodes ns
asked_whole nodes ns k over = ap (asked_in nodes) (take_all k ns over)

-- what all of both have, all have of each
pub both_have : {X : Type 0} (P : X → Type 0) (xs ys : List X) → All P xs → All P ys → All P (xs ++ ys)
both_have P [] ys a b k d less = b k d less
both_have P (x ∷ xs) ys a b zero d less = a zero d (omega arith)
both_have P (x ∷ xs) ys a b (suc k) d less = both_have P xs ys (λ j e w. a (suc j) e (omega (arith, w))) b k d (omega (arith, less))

pub front_has : {X : Type 0} (P : X → Type 0) (xs ys : List X) → All P (xs ++ ys) → All P xs
front_has P [] ys a k d less = absurd (omega (arith, less))
front_has P (x ∷ xs) ys a zero d less = a zero d (omega arith)
front_has P (x ∷ xs) ys a (suc k) d less = front_has P xs ys (λ j e w. a (suc j) e (omega (arith, w))) k d (omega (arith, less))

pub rest_has : {X : Type 0} (P : X → Type 0) (xs ys : List X) → All P (xs ++ ys) → All P ys
rest_has P [] ys a = a
rest_has P (x ∷ xs) ys a = rest_has P xs ys (λ j e w. a (suc j) e (omega (arith, w)))

-- one that doesn't have it is missed by all
pub refused : (P : Participant → Type 0) (nodes : List NodeFacts) (ns : List ℕ) (k : ℕ) (o : Option Participant) (b : Bool) → b ≡ false → IsTrue b ↔ All P (cons_option o [])
    → asked_in nodes (take (k + 1) ns) ≡ asked_in nodes (take k ns) ++ cons_option o [] → All P (asked_in nodes ns) → ⊥
refused P nodes ns k o b no' test is all =
    let whole : asked_in nodes ns ≡ asked_in nodes (take (k + 1) ns) ++ asked_in nodes (drop (k + 1) ns) =
    ap (asked_in nodes) (sym (take-append-drop (k + 1) ns)) ∙ filter_map-append (asks_at nodes) (take (k + 1) ns) (drop (k + 1) ns) in
    let front = front_has P (asked_in nodes (take (k + 1) ns)) (asked_in nodes (drop (k + 1) ns)) (subst (All P) whole all) in
    by b no' (test.1 (rest_has P (asked_in nodes (take k ns)) (cons_option o []) (subst (All P) is front))) where
      by : (b : Bool) → b ≡ false → IsTrue b → ⊥
      by true e t = absurd (cc)
      by false e t = absurd (cc)

-- counts of one more
pub counted_more : (ps : List CountConstraints) (xs ys zs : List Participant) → zs ≡ xs ++ ys → (ps ++ counts_asked xs) ++ counts_asked ys ≡ ps ++ counts_asked zs
counted_more ps xs ys zs is = append_assoc ps (counts_asked xs) (counts_asked ys) ∙ ap (λ cs. ps ++ cs) (sym (ap counts_asked is ∙ map-append (λ p. p.counts) xs ys))

-- two tests, of which the first passed
pub both_told : {A B : Type 0} (r a : Bool) → a ≡ true → IsTrue a ↔ A → IsTrue r ↔ B → IsTrue r ↔ (A × B)
both_told r a yes' one two = (λ is. (one.0 yes', two.0 is), λ p. two.1 p.1)

-- at most one more
pub long_more : (zs xs : List Participant) (o : Option Participant) → zs ≡ xs ++ cons_option o [] → (length zs ≡ length xs + length (cons_option o [])) × (length (cons_option o []) ≤ 1)
long_more zs xs None is = (ap length is ∙ length-append xs [], omega arith)
long_more zs xs (Some p) is = (ap length is ∙ length-append xs (p ∷ []), omega arith)

-- at most as many participants as nodes
pub few_asked_of : (nodes : List NodeFacts) (ns : List ℕ) → length (asked_in nodes ns) ≤ length ns
few_asked_of nodes [] = omega arith
few_asked_of nodes (n ∷ ns) = by (asks_at nodes n) (few_asked_of nodes ns) where
  by : (o : Option Participant) → length (asked_in nodes ns) ≤ length ns → length (cons_option o (asked_in nodes ns)) ≤ length (n ∷ ns)
  by None h = omega (arith, h)
  by (Some p) h = omega (arith, h)
