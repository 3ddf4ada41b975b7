-- Nodes that are marked by their numbers: who is told of them all, and
-- which paths lead to some of them.
use Rattle.std.proofs.Common.{◌≡◌, ◌<◌, ℕ, zero, suc, ◌+◌, Bool, true, false, List, [], ◌∷◌, ◌++◌, Option, Some, None, length, get_or, slice_get, eqb-true, eq-eqb, refl, sym, ◌∙◌, ap, subst, arith, inl, inr}
use Rattle.std.specs.Prelude.{◌==◌, ◌||◌, ◌⊎◌, if◌then◌else◌, option_and_then}
use Rattle.std.specs.List.{cons_option, filter_map, list_any}
use Rattle.std.proofs.lemmas.Bool.{cases_eq}
use Rattle.std.proofs.lemmas.List.{map-append}
use Rattle.std.proofs.lemmas.List.Elements.{filter_map-append}
use Rattle.std.proofs.lemmas.Option.{slice_get_within}
use Rattle.sysmem_counts.specs.declared.field.Field.{Field}
use Rattle.sysmem_counts.specs.declared.field.Field.TheVariants.{UnnamedPixelFormat, UnnamedPixelFormatModifier, UnnamedColorSpace}
use Rattle.sysmem_formats.specs.declared.offer.Offer.{Offer}
use Rattle.sysmem_image.specs.Entries.{first_match}
use Rattle.offer_fits.specs.Demands.{OfferDemand, offer_demand, offer_demands}
use Rattle.offer_fits.specs.Offers.{names_format, names_modifier, names_colour}
use Rattle.sysmem_merge.specs.Reasons.{IsUnnamedLine}
use Rattle.negotiation_inputs.specs.Participant.{Participant}
use Rattle.sysmem_tree.specs.Node.{NodeFacts}
use Rattle.verdict_claims.specs.Roll.{RollFacts, asked_on, numbers_on}
use Rattle.verdict_claims.specs.Asked.{asks_at}

-- the numbers below one
abbrev pub below : ℕ → List ℕ
below zero = []
below (suc k) = below k ++ k ∷ []

-- what one more is asked
pub asked_below : (roll : RollFacts) (k : ℕ) (o : Option Participant) → o ≡ asked_on roll k
    → offer_demands (filter_map (asked_on roll) (below k)) ++ offer_demands (cons_option o []) ≡ offer_demands (filter_map (asked_on roll) (below (k + 1)))
asked_below roll k o is =
    let next : suc k ≡ k + 1 = omega arith in
    let all : filter_map (asked_on roll) (below (suc k)) ≡ filter_map (asked_on roll) (below k) ++ cons_option o [] =
    filter_map-append (asked_on roll) (below k) (k ∷ []) ∙ ap (λ u. filter_map (asked_on roll) (below k) ++ cons_option u []) (sym is) in
    sym (ap (λ n. offer_demands (filter_map (asked_on roll) (below n))) (sym next) ∙ (ap offer_demands all ∙ map-append offer_demand (filter_map (asked_on roll) (below k)) (cons_option o [])))

-- one of a list
abbrev In : {X : Type 0} → X → List X → Type 0
In x [] = ⊥
In x (y ∷ ys) = (y ≡ x) ⊎ In x ys

any_in : {X : Type 0} (f : X → Bool) (xs : List X) → list_any f xs ≡ true → (x : X) × In x xs × (f x ≡ true)
any_in f [] h = absurd (cc)
any_in f (y ∷ ys) h = by (f y) refl h (any_in f ys) where
  by : (t : Bool) → f y ≡ t → (t || list_any f ys) ≡ true → (list_any f ys ≡ true → (x : _) × In x ys × (f x ≡ true)) → (x : _) × In x (y ∷ ys) × (f x ≡ true)
  by true is h rest = (y, inl refl, is)
  by false is h rest = let (x, there, yes') = rest h in (x, inr there, yes')

in_any : {X : Type 0} (f : X → Bool) (x : X) (xs : List X) → In x xs → f x ≡ true → list_any f xs ≡ true
in_any f x [] h yes' = absurd h
in_any f x (y ∷ ys) (inl same) yes' = ap (λ b. b || list_any f ys) (ap f same ∙ yes')
in_any f x (y ∷ ys) (inr there) yes' = by (f y) (in_any f x ys there yes') where
  by : (t : Bool) → list_any f ys ≡ true → (t || list_any f ys) ≡ true
  by true h = refl
  by false h = h

in_front : {X : Type 0} (x : X) (xs ys : List X) → In x xs → In x (xs ++ ys)
in_front x [] ys h = absurd h
in_front x (y ∷ xs) ys (inl same) = inl same
in_front x (y ∷ xs) ys (inr h) = inr (in_front x xs ys h)

in_back : {X : Type 0} (x : X) (xs ys : List X) → In x ys → In x (xs ++ ys)
in_back x [] ys h = h
in_back x (y ∷ xs) ys h = inr (in_back x xs ys h)

in_below : (n j : ℕ) → j < n → In j (below n)
in_below zero j less = absurd (omega (arith, less))
in_below (suc n) j less = elim (cases_eq n j) [
  | inl same ↦ in_back j (below n) (n ∷ []) (inl same)
  | inr other ↦ in_front j (below n) (n ∷ []) (in_below n j (omega (arith, less, other)))
]

same_test : (a b : Bool) → (a ≡ true → b ≡ true) → (b ≡ true → a ≡ true) → a ≡ b
same_test true b on back = sym (on refl)
same_test false true on back = back refl
same_test false false on back = refl

-- a test of what is asked, if anything is
abbrev tested : (Participant → Bool) → Option Participant → Bool
tested p None = false
tested p (Some x) = p x

any_asked : {X : Type 0} (p : Participant → Bool) (f : X → Option Participant) (xs : List X) → list_any p (filter_map f xs) ≡ list_any (λ j. tested p (f j)) xs
any_asked p f [] = refl
any_asked p f (x ∷ xs) = by (f x) (any_asked p f xs) where
  by : (o : Option Participant) → list_any p (filter_map f xs) ≡ list_any (λ j. tested p (f j)) xs → list_any p (cons_option o (filter_map f xs)) ≡ (tested p o || list_any (λ j. tested p (f j)) xs)
  by None h = h
  by (Some q) h = ap (λ b. p q || b) h

module _ (roll : RollFacts) (p : Participant → Bool) where
  asks : ℕ → Option Participant
  asks j = asks_at roll.nodes j

  on : (t : Bool) (o : Option Participant) → tested p (if t then o else None) ≡ true → (t ≡ true) × (tested p o ≡ true)
  on true o h = (refl, h)
  on false o h = absurd (cc)

  within : (j : ℕ) → tested p (asks_at roll.nodes j) ≡ true → j < length roll.nodes
  within j h = by (slice_get roll.nodes j) refl h where
    by : (o : Option NodeFacts) → slice_get roll.nodes j ≡ o → tested p (option_and_then (λ (n : NodeFacts). n.constraints) o) ≡ true → j < length roll.nodes
    by None at h = absurd (cc)
    by (Some n) at h = slice_get_within roll.nodes j n at

  -- the same is told of all in the order of their numbers and in another order
  pub any_number : list_any p (filter_map (asked_on roll) (below (length roll.nodes))) ≡ list_any p (filter_map (asks_at roll.nodes) (numbers_on roll))
  any_number = any_asked p (asked_on roll) (below (length roll.nodes))
      ∙ (same_test (list_any (λ j. tested p (asked_on roll j)) (below (length roll.nodes))) (list_any (λ j. tested p (asks_at roll.nodes j)) (numbers_on roll))
      (λ h.
      let (j, there, yes') = any_in (λ j. tested p (asked_on roll j)) (below (length roll.nodes)) h in
      let (marked, asked) = on (list_any (λ i. i == j) (numbers_on roll)) (asks_at roll.nodes j) yes' in
      let (i, listed', same) = any_in (λ i. i == j) (numbers_on roll) marked in
      in_any (λ j. tested p (asks_at roll.nodes j)) j (numbers_on roll) (subst (λ k. In k (numbers_on roll)) (eqb-true i j same) listed') asked)
      (λ h.
      let (j, there, yes') = any_in (λ j. tested p (asks_at roll.nodes j)) (numbers_on roll) h in
      let marked : list_any (λ i. i == j) (numbers_on roll) ≡ true = in_any (λ i. i == j) j (numbers_on roll) there (eq-eqb j j refl) in
      in_any (λ j. tested p (asked_on roll j)) j (below (length roll.nodes)) (in_below (length roll.nodes) j (within j yes'))
      (ap (λ t. tested p (if t then asks_at roll.nodes j else None)) marked ∙ yes'))
      ∙ sym (any_asked p (asks_at roll.nodes) (numbers_on roll)))

any_demand : (q : OfferDemand → Bool) (ps : List Participant) → list_any q (offer_demands ps) ≡ list_any (λ p. q (offer_demand p)) ps
any_demand q [] = refl
any_demand q (p ∷ ps) = ap (λ b. q (offer_demand p) || b) (any_demand q ps)

-- what nobody names of an offer is told by whom there is, in any order
module _ (ps qs : List Participant) (same : (p : Participant → Bool) → list_any p ps ≡ list_any p qs) where
  named_too : (q : OfferDemand → Bool) → list_any q (offer_demands ps) ≡ false → list_any q (offer_demands qs) ≡ false
  named_too q none = any_demand q qs ∙ (sym (same (λ p. q (offer_demand p))) ∙ (sym (any_demand q ps) ∙ none))

  pub unnamed_too : (field : Field) (o : Offer) → IsUnnamedLine field o (offer_demands ps) → IsUnnamedLine field o (offer_demands qs)
  unnamed_too UnnamedPixelFormat o line = (line.0, named_too (λ d. names_format (first_match o d.entries)) line.1)
  unnamed_too UnnamedPixelFormatModifier o line = (line.0, named_too (λ d. names_modifier (first_match o d.entries)) line.1)
  unnamed_too UnnamedColorSpace o line = (line.0, named_too (λ d. names_colour o (first_match o d.entries)) line.1)
  unnamed_too _ o line = line

-- marks of some numbers, then of others
or_assoc : (a b c : Bool) → ((a || b) || c) ≡ (a || (b || c))
or_assoc true b c = refl
or_assoc false b c = refl

any_join : (f : ℕ → Bool) (xs ys : List ℕ) → list_any f (xs ++ ys) ≡ (list_any f xs || list_any f ys)
any_join f [] ys = refl
any_join f (x ∷ xs) ys = ap (λ b. f x || b) (any_join f xs ys) ∙ sym (or_assoc (f x) (list_any f xs) (list_any f ys))

-- those marked before and these are all
pub both_marked : (marks old : List Bool) (ns ms : List ℕ) → ((k : ℕ) → get_or marks k false ≡ (list_any (λ j. j == k) ns || get_or old k false))
    → ((k : ℕ) → get_or old k false ≡ list_any (λ j. j == k) ms) → (k : ℕ) → get_or marks k false ≡ list_any (λ j. j == k) (ns ++ ms)
both_marked marks old ns ms all before k = all k ∙ (ap (λ b. list_any (λ j. j == k) ns || b) (before k) ∙ sym (any_join (λ j. j == k) ns ms))
