-- What is true of verdicts, whoever works them out.
use Rattle.std.specs.Prelude.{◌≡◌, ◌↔◌, ◌<◌, ◌++◌, ℕ, List, [], ◌∷◌, Option, Some, None}
use Rattle.std.specs.Prelude.{length, take, slice_get}
use Rattle.std.specs.List.{AllZip, flat_map}
use Rattle.sysmem_counts.specs.Counts.{IsLeastCount}
use Rattle.sysmem_merge.specs.declared.settings.Settings.{Settings}
use Rattle.offer_fits.specs.Demands.{counts_asked, offer_demands}
use Rattle.sysmem_merge.specs.Fit.{fit_of}
use Rattle.offer_fits.specs.Fit.{IsBestFit}
use Rattle.sysmem_merge.specs.Settings.{Meets}
use Rattle.negotiation_inputs.specs.Participant.{Participant}
use Rattle.negotiation_inputs.specs.Platform.{PlatformFacts}
use Rattle.sysmem_tree.specs.Domain.{HasDomain}
use Rattle.sysmem_tree.specs.Forest.{Forest, choices, settled}
use Rattle.sysmem_tree.specs.Node.{NodeFacts}
use Rattle.sysmem_tree.specs.Nodes.{IsTree}
use Rattle.sysmem_tree.specs.Selection.{after, IsSelection, IsEarlierSelection}
use Rattle.sysmem_tree.specs.Shape.{Member}
use Rattle.verdict_claims.specs.declared.verdict.Verdict.{Verdict}
use Rattle.verdict_claims.specs.declared.verdict.Verdict.TheVariants as verdicts
use Rattle.verdict_claims.specs.Base.{BaseFacts, Terms, IsGivenBase}
use Rattle.verdict_claims.specs.declared.refutation.Item.{Item}
use Rattle.verdict_claims.specs.CertificateFacts.{CertificateFacts}
use Rattle.verdict_claims.specs.Certificate.{IsCertificate, IsRefutation, RefutesEarlier}
use Rattle.verdict_claims.specs.declared.certificate.Proof.{Proof}
use Rattle.verdict_claims.specs.declared.refutation.Item.TheVariants.{Split}
use Rattle.verdict_claims.specs.Check.{ChoicePasses, RefutationPasses}
use Rattle.verdict_claims.specs.Check.{VerdictPasses, IsLeastAt, IsProof}
use Rattle.verdict_claims.specs.Chosen.{ChosenFacts}
use Rattle.verdict_claims.specs.Claim.{IsProofIn}
use Rattle.verdict_claims.specs.declared.conflict.Conflict.{Conflict}
use Rattle.verdict_claims.specs.Conflict.{IsConflictFor}
use Rattle.verdict_claims.specs.declared.no.No.{No}
use Rattle.verdict_claims.specs.Fault.{ChoiceFaults, EmptyFaults, VerdictFaults}
use Rattle.verdict_claims.specs.Verdict.{IsForestUnmet, MeetsFor, MeetsLooselyFor, MeetsSettled}
use Rattle.verdict_claims.specs.Verdict.{IsOptimal, IsOptimalIn, IsSameAnswer}

-- two optimal verdicts of one domain on the same terms are equal in kind, selection and settings
abbrev pub OneAnswer : Type 0
OneAnswer = (platform : PlatformFacts) (terms : Option Terms) (d : Forest Member) (v w : Verdict)
    → IsOptimal platform terms d v → IsOptimal platform terms d w → IsSameAnswer v w

-- cuts lose nothing: where nothing meets what is settled, but for the names of an image, nothing
-- meets a selection that goes on from there
abbrev pub CutsLoseNothing : Type 0
CutsLoseNothing = (platform : PlatformFacts) (terms : Option Terms) (d : Forest Member)
    → ((t : Settings) → ¬ (MeetsLooselyFor platform terms (settled d) t))
    → IsForestUnmet (MeetsFor platform terms) d

-- choices that lead to f begin with one of these, and go on from there as a selection
pub record BeginsWith {A : Type 0} (es : List (Forest A)) (cs : List ℕ)
    (f : Forest A) : Type 0 where
  pub choice : ℕ
  pub rest : List ℕ
  pub is : cs ≡ choice ∷ rest
  pub left : Forest A
  pub here : slice_get es choice ≡ Some left
  pub goes_on : IsSelection left rest f

-- the selections of a forest: of no choices where it has no group, else those
-- of its choices for the first group
pub record SelectionsOf (d : Forest Member) : Type 0 where
  pub whole : choices d ≡ None → (cs : List ℕ) (f : Forest Member)
      → IsSelection d cs f ↔ ((cs ≡ []) × (d ≡ f))
  pub split : (es : List (Forest Member)) → choices d ≡ Some es → (cs : List ℕ) (f : Forest Member)
      → IsSelection d cs f ↔ BeginsWith es cs f

abbrev pub SelectionsSplit : Type 0
SelectionsSplit = (d : Forest Member) → SelectionsOf d

-- up to a group the choices are those of a selection, and there they take a smaller child, to a
-- forest that the selection passes over
pub record GoesBy (d : Forest Member) (other selection : List ℕ) (f : Forest Member) : Type 0 where
  pub same : List ℕ
  pub lower : ℕ
  pub higher : ℕ
  pub rest : List ℕ
  pub more : List ℕ
  pub this : other ≡ same ++ lower ∷ rest
  pub that : selection ≡ same ++ higher ∷ more
  pub less : lower < higher
  pub passed : Forest Member
  pub leads : after d (same ++ lower ∷ []) ≡ Some passed
  pub goes_on : IsSelection passed rest f

-- what is earlier than a selection goes by a forest that the selection passes over
abbrev pub EarlierGoesBy : Type 0
EarlierGoesBy = (d e f : Forest Member) (selection other : List ℕ) → IsSelection d selection e
    → IsSelection d other f → IsEarlierSelection other selection → GoesBy d other selection f

-- a conflict is true: no settings meet a selection that goes on from where it
-- stands, nor what is settled there
pub record IsTrueConflict (platform : PlatformFacts) (terms : Option Terms)
    (d : Forest Member) : Type 0 where
  pub unmet : IsForestUnmet (MeetsFor platform terms) d
  pub none : (t : Settings) → ¬ (MeetsSettled platform terms d t)

abbrev pub ConflictsAreTrue : Type 0
ConflictsAreTrue = (platform : PlatformFacts) (terms : Option Terms) (d : Forest Member)
    (c : Conflict) → IsConflictFor platform terms d c → IsTrueConflict platform terms d

-- what is tested of a choice, and of a refutation, holds exactly where the
-- verdict is optimal and proved by it
pub record AreExactTests (platform : PlatformFacts) (terms : Option Terms)
    (d : Forest Member) : Type 0 where
  pub chosen : (chosen : ChosenFacts) (certificate : CertificateFacts)
      → ChoicePasses platform terms d chosen.selection chosen.settings certificate
      ↔ (IsOptimal platform terms d (verdicts.Chosen chosen)
      × IsCertificate platform terms d chosen.selection chosen.settings certificate)
  pub empty : (items : List Item) → RefutationPasses platform terms d items
      ↔ (IsOptimal platform terms d verdicts.IntersectionEmpty
      × IsRefutation platform terms d items)
  pub verdict : (v : Verdict) (proof : Proof)
      → VerdictPasses platform terms d v proof
      ↔ (IsOptimal platform terms d v × IsProof platform terms d v proof)

abbrev pub TestsAreExact : Type 0
TestsAreExact = (platform : PlatformFacts) (terms : Option Terms) (d : Forest Member)
    → AreExactTests platform terms d

-- what fails a test of a choice doesn't pass, and the first test that it fails
-- is one; the same of a refutation
pub record HaveFirstFault (platform : PlatformFacts) (terms : Option Terms)
    (d : Forest Member) : Type 0 where
  pub choice : (selection : List ℕ) (s : Settings) (certificate : CertificateFacts) (why : No)
      → ChoiceFaults platform terms d selection s certificate why
      → ¬ (ChoicePasses platform terms d selection s certificate)
  pub one_of_choice : (selection : List ℕ) (s : Settings) (certificate : CertificateFacts)
      (a b : No) → ChoiceFaults platform terms d selection s certificate a
      → ChoiceFaults platform terms d selection s certificate b → a ≡ b
  pub empty : (items : List Item) (why : No) → EmptyFaults platform terms d items why
      → ¬ (RefutationPasses platform terms d items)
  pub one_of_empty : (items : List Item) (a b : No) → EmptyFaults platform terms d items a
      → EmptyFaults platform terms d items b → a ≡ b
  pub verdict : (v : Verdict) (proof : Proof) (why : No)
      → VerdictFaults platform terms d v proof why → ¬ (VerdictPasses platform terms d v proof)
  pub one_of_verdict : (v : Verdict) (proof : Proof) (a b : No)
      → VerdictFaults platform terms d v proof a → VerdictFaults platform terms d v proof b → a ≡ b

abbrev pub FaultsAreFirst : Type 0
FaultsAreFirst = (platform : PlatformFacts) (terms : Option Terms) (d : Forest Member)
    → HaveFirstFault platform terms d

-- refutations of each choice, behind a split, refute the forest; and refutations of the choices
-- before one, followed by those of what is earlier after it, refute what is earlier from here on
pub record RefutationsGrow (platform : PlatformFacts) (terms : Option Terms)
    (d : Forest Member) : Type 0 where
  pub split : (es : List (Forest Member)) (rs : List (List Item)) → choices d ≡ Some es
      → AllZip (IsRefutation platform terms) es rs
      → IsRefutation platform terms d (Split (length es) ∷ flat_map (λ items. items) rs)
  pub earlier : (e : Forest Member) (es : List (Forest Member)) (c : ℕ) (cs : List ℕ)
      (rs : List (List Item)) (rss : List (List (List Item))) → choices d ≡ Some es
      → slice_get es c ≡ Some e → AllZip (IsRefutation platform terms) (take c es) rs
      → RefutesEarlier (IsConflictFor platform terms) e cs rss
      → RefutesEarlier (IsConflictFor platform terms) d (c ∷ cs) (rs ∷ rss)

abbrev pub AllRefutationsGrow : Type 0
AllRefutationsGrow = (platform : PlatformFacts) (terms : Option Terms) (d : Forest Member)
    → RefutationsGrow platform terms d

-- settings that meet participants are the least of their offer in their place exactly where they
-- are those of the offer's best fit and the least count
abbrev pub LeastIsComputed : Type 0
LeastIsComputed = (platform : PlatformFacts) (ps : List Participant) (s r : Settings)
    → r.place ≡ s.place → Meets platform ps s → IsBestFit s.offer (offer_demands ps) (fit_of r)
    → IsLeastCount (counts_asked ps) r.count → (s ≡ r) ↔ IsLeastAt platform ps s

-- for each optimal verdict on a domain of a tree, initial or attached on its
-- base, there is a proof that proves it
abbrev pub OptimalHasProof : Type 0
OptimalHasProof = (platform : PlatformFacts) (nodes : List NodeFacts) (domain : ℕ)
    (base : Option BaseFacts) (v : Verdict) → IsTree nodes → HasDomain nodes domain
    → IsGivenBase platform nodes domain base → IsOptimalIn platform nodes domain base v
    → (proof : Proof) × IsProofIn platform nodes domain base v proof
