-- What is told of the lines of a conflict in an initial domain is told of the conflict.
use Rattle.std.proofs.Common.{◌≡◌, ◌∷◌, [], ℕ, Bool, true, false, List, None, length, inl, inr, arith, refl, subst}
use Rattle.std.specs.Prelude.{All, MatchResult, Result, is_none}
use Rattle.std.specs.List.{AllZip}
use Rattle.sysmem_counts.specs.declared.field.Field.{Field}
use Rattle.sysmem_memory.specs.Listed.{places_of}
use Rattle.negotiation_inputs.specs.Platform.{PlatformFacts, offers_of}
use Rattle.sysmem_tree.specs.Forest.{Forest, choices, settled}
use Rattle.sysmem_tree.specs.Shape.{Member}
use Rattle.verdict_claims.specs.declared.conflict.Conflict.TheVariants.{Places, Offers, Fixed}
use Rattle.verdict_claims.specs.declared.no.No.{No}
use Rattle.verdict_claims.specs.declared.no.No.TheVariants.{WrongNode, NoConflict}
use Rattle.verdict_claims.specs.Conflict.{IsConflict, RefusesOffer, RefusesPlace}
use Rattle.sysmem_proof.specs.EachLine.{LinesOfItem}
use Rattle.verdict_claims.specs.Fault.{AreNamed, ConflictFaults, Fails, First}
use Rattle.verdict_claims.specs.Line.{LineFacts}
use Rattle.sysmem_proof.proofs.Numbering.{one_all}

-- so many lines, which name participants, and aren't all true
pub untrue_lines : (many : ℕ) (ms : List Member) (True : Type 0) (lines : List LineFacts) (t : Bool) → length lines ≡ many → All (λ line. AreNamed ms line.nodes) lines → t ≡ false → (True → t ≡ true)
    → LinesOfItem many ms True lines NoConflict
untrue_lines many ms True lines t long named no' yes' = inr (long, inr (named, ((λ is. (let y = yes' is in absurd (cc))), refl)))

module _ {A : Type 0} (r : Result A No) (d : Forest Member) where
  abbrev OfPlaces : PlatformFacts → List Member → List LineFacts → Type 0
  OfPlaces p ms lines = MatchResult r (λ _. AllZip (RefusesPlace ms) (places_of p.heaps) lines)
      (LinesOfItem (length (places_of p.heaps)) ms (AllZip (RefusesPlace ms) (places_of p.heaps) lines) lines)

  pub of_places : (p platform : PlatformFacts) (ms : List Member) (given lines : List LineFacts) → p ≡ platform → given ≡ lines → ms ≡ settled d → OfPlaces p ms given
      → MatchResult r (λ _. IsConflict platform d (Places lines)) (ConflictFaults platform None d (Places lines))
  of_places p platform ms given lines one two is told = subst (λ q. OfPlaces q (settled d) lines) one (subst (λ xs. OfPlaces p xs lines) is (subst (OfPlaces p ms) two told))

  abbrev OfOffers : PlatformFacts → Bool → List Member → List LineFacts → Type 0
  OfOffers p whole ms lines = MatchResult r (λ _. AllZip (RefusesOffer whole ms) (offers_of p) lines)
      (LinesOfItem (length (offers_of p)) ms (AllZip (RefusesOffer whole ms) (offers_of p) lines) lines)

  pub of_offers : (p platform : PlatformFacts) (whole : Bool) (ms : List Member) (given lines : List LineFacts) → p ≡ platform → given ≡ lines → ms ≡ settled d → whole ≡ is_none (choices d) → OfOffers p whole ms given
      → MatchResult r (λ _. IsConflict platform d (Offers lines)) (ConflictFaults platform None d (Offers lines))
  of_offers p platform whole ms given lines one two is all told =
      subst (λ q. OfOffers q (is_none (choices d)) (settled d) lines) one (subst (λ w. OfOffers p w (settled d) lines) all (subst (λ xs. OfOffers p whole xs lines) is (subst (OfOffers p whole ms) two told)))

-- a field without settings
pub of_field : (platform : PlatformFacts) (ms : List Member) (field : Field) (path : List ℕ) (why : No) (d : Forest Member) → ms ≡ settled d
    → First (AreNamed ms (path ∷ [])) (Fails (AreNamed ms (path ∷ [])) WrongNode) (Fails ⊥ NoConflict) why → ConflictFaults platform None d (Fixed field path) why
of_field platform ms field path why d is told = by (subst (λ xs. First (AreNamed xs (path ∷ [])) (Fails (AreNamed xs (path ∷ [])) WrongNode) (Fails ⊥ NoConflict) why) is told) where
  by : First (AreNamed (settled d) (path ∷ [])) (Fails (AreNamed (settled d) (path ∷ [])) WrongNode) (Fails ⊥ NoConflict) why → ConflictFaults platform None d (Fixed field path) why
  by (inl f) = inr (tt, inl ((λ all. f.0 (all 0 (record { field = field; nodes = path ∷ [] }) (omega arith))), f.1))
  by (inr f) = inr (tt, inr (one_all (λ line. AreNamed (settled d) line.nodes) (record { field = field; nodes = path ∷ [] }) f.0, f.1))
