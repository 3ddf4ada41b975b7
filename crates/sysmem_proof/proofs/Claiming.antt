-- What is tested of a claim is that it is true.
use Rattle.std.proofs.Common.{◌≡◌, ◌<◌, ◌≤◌, inl, inr, arith, Bool, true, false, ℕ, List, [], ◌∷◌, Option, refl, subst}
use Rattle.std.specs.Prelude.{◌↔◌, IfOk, IsOk, IsTrue, MatchResult, Ok, Err, Result, option_map}
use Rattle.std.proofs.lemmas.Bool.{cases_lt}
use Rattle.negotiation_inputs.specs.Platform.{PlatformFacts}
use Rattle.sysmem_tree.specs.Forest.{Forest, count}
use Rattle.sysmem_tree.specs.Node.{NodeFacts}
use Rattle.sysmem_tree.specs.Shape.{Member, shape_of}
use Rattle.verdict_claims.specs.declared.certificate.Claim.{Claim as AClaim}
use Rattle.verdict_claims.specs.declared.no.No.{No}
use Rattle.verdict_claims.specs.Base.{BaseFacts, Terms, terms_of}
use Rattle.verdict_claims.specs.Check.{RefutationPasses, VerdictPasses}
use Rattle.verdict_claims.specs.Claim.{IsTrueClaim}
use Rattle.verdict_claims.specs.Fault.{AreFew, AreMany, EmptyFaults, RefutationFaults, VerdictFaults}
use Rattle.verdict_claims.specs.Certificate.{Refutes}
use Rattle.verdict_claims.specs.Conflict.{IsConflictFor}
use Rattle.verdict_claims.specs.declared.refutation.Item.{Item}
use Rattle.verdict_claims.specs.Laws.{FaultsAreFirst, TestsAreExact}

module _ (platform : PlatformFacts) (nodes : List NodeFacts) (domain : ℕ) (base : Option BaseFacts) (claim : AClaim) where
  abbrev terms : Option Terms
  terms = option_map (terms_of nodes) base

  abbrev forest : Forest Member
  forest = shape_of nodes domain

  -- what is told of the claim
  abbrev pub Told : {A : Type 0} → Result A No → Type 0
  Told result = MatchResult result (λ _. VerdictPasses platform terms forest claim.verdict claim.proof) (VerdictFaults platform terms forest claim.verdict claim.proof)

  -- a claim that passes is true
  pub passes_true : {A : Type 0} → TestsAreExact → (result : Result A No) → Told result → IfOk result (λ _. IsTrueClaim platform nodes domain base claim)
  passes_true law (Ok x) told = let both = ((law platform terms forest).verdict claim.verdict claim.proof).0 told in record { optimal = both.0; proved = both.1 }
  passes_true law (Err why) told = tt

  -- and a true claim passes
  pub true_passes : {A : Type 0} → TestsAreExact → FaultsAreFirst → (result : Result A No) → Told result → IsTrueClaim platform nodes domain base claim → IsOk result
  true_passes law first (Ok x) told is = refl
  true_passes law first (Err why) told is =
      absurd ((first platform terms forest).verdict claim.verdict claim.proof why told (((law platform terms forest).verdict claim.verdict claim.proof).1 (is.optimal, is.proved)))

-- that nothing is met, where there are few enough selections
pub empty_told : {A : Type 0} (platform : PlatformFacts) (terms : Option Terms) (d : Forest Member) (given items : List Item) (result : Result A No) → given ≡ items → AreFew d
    → MatchResult result (λ _. Refutes (IsConflictFor platform terms) given (d ∷ [])) (RefutationFaults platform terms given (d ∷ []))
    → MatchResult result (λ _. RefutationPasses platform terms d items) (EmptyFaults platform terms d items)
empty_told {A} platform terms d given items result same few told = by result
    (subst (λ xs. MatchResult result (λ _. Refutes (IsConflictFor platform terms) xs (d ∷ [])) (RefutationFaults platform terms xs (d ∷ []))) same told) where
      by : (r : Result A No) → MatchResult r (λ _. Refutes (IsConflictFor platform terms) items (d ∷ [])) (RefutationFaults platform terms items (d ∷ []))
          → MatchResult r (λ _. RefutationPasses platform terms d items) (EmptyFaults platform terms d items)
      by (Ok x) h = (few, h)
      by (Err why) h = inr (few, h)

-- selections are few or many
pub few_or_many : (d : Forest Member) (t : Bool) → IsTrue t ↔ AreFew d → t ≡ false → AreMany d
few_or_many d t test no' = elim (cases_lt 4096 (count d)) as (λ _. 4096 < count d) [
  | inl many ↦ many
  | inr not ↦ (let few : count d ≤ 4096 = omega (arith, not) in let yes' : t ≡ true = test.1 few in absurd (clash t yes' no'))
] where
  clash : (t : Bool) → t ≡ true → t ≡ false → ⊥
  clash true a b = absurd (cc (b))
  clash false a b = absurd (cc (a))

pub few_not_many : (d : Forest Member) → AreFew d → ¬ (AreMany d)
few_not_many d few many = omega (arith, few, many)
