-- What a checker tests of a verdict and its certificate.
use Rattle.std.specs.Prelude.{◌≡◌, ℕ, ◌<◌, ◌≤◌, List, Option, Some, None}
use Rattle.sysmem_merge.specs.declared.settings.Settings.{Settings}
use Rattle.sysmem_merge.specs.Best.{IsNoBetter}
use Rattle.sysmem_merge.specs.Settings.{Meets}
use Rattle.negotiation_inputs.specs.Participant.{Participant}
use Rattle.negotiation_inputs.specs.Platform.{PlatformFacts}
use Rattle.sysmem_tree.specs.Forest.{Forest, settled, count}
use Rattle.sysmem_tree.specs.Selection.{IsSelection}
use Rattle.sysmem_tree.specs.Shape.{Member}
use Rattle.verdict_claims.specs.declared.certificate.Proof.{Proof}
use Rattle.verdict_claims.specs.declared.certificate.Proof.TheVariants as proves
use Rattle.verdict_claims.specs.declared.verdict.TheConstants.{MOST_SELECTIONS}
use Rattle.verdict_claims.specs.declared.verdict.Verdict.{Verdict}
use Rattle.verdict_claims.specs.declared.verdict.Verdict.TheVariants as verdicts
use Rattle.verdict_claims.specs.Base.{Terms}
use Rattle.verdict_claims.specs.declared.refutation.Item.{Item}
use Rattle.verdict_claims.specs.CertificateFacts.{CertificateFacts}
use Rattle.verdict_claims.specs.Certificate.{IsCertificate, IsRefutation}
use Rattle.verdict_claims.specs.Members.{participants}
use Rattle.verdict_claims.specs.Verdict.{Meeting, MeetsFixed}

-- settings that meet participants, and than which no others that do, of the same
-- offer in the same place, are better
pub record IsLeastAt (platform : PlatformFacts) (ps : List Participant)
    (s : Settings) : Type 0 where
  pub meets : Meets platform ps s
  pub least : (t : Settings) → t.offer ≡ s.offer → t.place ≡ s.place → Meets platform ps t
      → IsNoBetter platform t s

-- of an attached domain: settings that meet its members
abbrev pub IsLeastFor : PlatformFacts → Option Terms → Meeting
IsLeastFor platform None ms s = IsLeastAt platform (participants ms) s
IsLeastFor platform (Some terms) ms s = MeetsFixed platform terms ms s

-- the choices are a selection, for whose members the settings are the least
pub record IsFit (platform : PlatformFacts) (terms : Option Terms) (d : Forest Member)
    (selection : List ℕ) (s : Settings) : Type 0 where
  pub members : Forest Member
  pub selects : IsSelection d selection members
  pub least : IsLeastFor platform terms (settled members) s

-- a choice passes: there are few enough selections, its settings are the
-- least, and its certificate is one
abbrev pub ChoicePasses : PlatformFacts → Option Terms → Forest Member → List ℕ → Settings
    → CertificateFacts → Type 0
ChoicePasses platform terms d selection s certificate =
    (count d ≤ MOST_SELECTIONS) × IsFit platform terms d selection s
    × IsCertificate platform terms d selection s certificate

-- that nothing is met passes: there are few enough selections, and the items refute the forest
abbrev pub RefutationPasses : PlatformFacts → Option Terms → Forest Member → List Item → Type 0
RefutationPasses platform terms d items =
    (count d ≤ MOST_SELECTIONS) × IsRefutation platform terms d items

-- a verdict passes with what proves it: more selections than a decision goes through need no proof,
-- and what failed or wanted memory never does
abbrev pub VerdictPasses : PlatformFacts → Option Terms → Forest Member → Verdict → Proof → Type 0
VerdictPasses platform terms d (verdicts.Chosen chosen) (proves.Choice certificate) =
    ChoicePasses platform terms d chosen.selection chosen.settings certificate
VerdictPasses platform terms d verdicts.IntersectionEmpty (proves.Empty items) =
    RefutationPasses platform terms d items
VerdictPasses platform terms d verdicts.TooMany proves.Nothing = MOST_SELECTIONS < count d
VerdictPasses platform terms d v proof = ⊥

-- what proves a verdict of its kind
abbrev pub IsProof : PlatformFacts → Option Terms → Forest Member → Verdict → Proof → Type 0
IsProof platform terms d (verdicts.Chosen chosen) (proves.Choice certificate) =
    IsCertificate platform terms d chosen.selection chosen.settings certificate
IsProof platform terms d verdicts.IntersectionEmpty (proves.Empty items) =
    IsRefutation platform terms d items
IsProof platform terms d verdicts.TooMany proves.Nothing = Unit {0}
IsProof platform terms d v proof = ⊥
