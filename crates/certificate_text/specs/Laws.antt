-- What is written is read back.
use Rattle.std.specs.Prelude.{◌≡◌, ℕ, All, IsUtf8, List, map, Option, Some}
use Rattle.serde_json.specs.Data.{Data, array}
use Rattle.serde_json.specs.Read.{read}
use Rattle.serde_json.specs.View.{items_of}
use Rattle.negotiation_inputs.specs.Platform.{PlatformFacts, IsHeap, IsPlatform}
use Rattle.sysmem_tree.specs.Node.{NodeFacts}
use Rattle.sysmem_tree.specs.Nodes.{IsTree}
use Rattle.sysmem_tree.specs.Path.{path_of}
use Rattle.verdict_claims.specs.declared.certificate.Claim.{Claim}
use Rattle.verdict_claims.specs.declared.certificate.Proof.{Proof}
use Rattle.verdict_claims.specs.declared.verdict.Verdict.{Verdict}
use Rattle.verdict_claims.specs.Base.{BaseFacts}
use Rattle.verdict_claims.specs.Claim.{IsTrueClaim}
use Rattle.certificate_text.specs.CanBeRead.{HasSteps, CanBeRead, IsReadableDecision}
use Rattle.certificate_text.specs.CanBeRead.{HasHeapIds, IsReadableBase}
use Rattle.certificate_text.specs.Certificate.{certificate_text}
use Rattle.certificate_text.specs.Said.{node_said, claim_said}
use Rattle.certificate_text.specs.Told.{path_data, claim_data, decision_data}

-- a path is read of its text
abbrev pub PathsReadBack : Type 0
PathsReadBack = (path : List ℕ) → HasSteps path → node_said (path_data path) ≡ Some path

-- a claim that can be read is read of what is told of it
abbrev pub ClaimsReadBack : Type 0
ClaimsReadBack = (platform : PlatformFacts) (path : List ℕ) (verdict : Verdict) (proof : Proof)
    → IsPlatform platform.heaps platform.pairs platform.colours → HasSteps path
    → CanBeRead platform verdict proof
    → claim_said platform (claim_data platform path verdict proof)
    ≡ Some (path, record { verdict = verdict; proof = proof })

-- the path of a node of a tree can be read
abbrev pub NodePathsCanBeRead : Type 0
NodePathsCanBeRead = (nodes : List NodeFacts) (i : ℕ) → IsTree nodes → HasSteps (path_of nodes i)

-- a claim that is true of a domain of a tree can be read; of an attached one, where the settings
-- that it is decided on can be read
abbrev pub TrueClaimsCanBeRead : Type 0
TrueClaimsCanBeRead = (platform : PlatformFacts) (nodes : List NodeFacts) (domain : ℕ)
    → (base : Option BaseFacts) (claim : Claim) → HasHeapIds platform → IsTree nodes
    → IsReadableBase platform base → IsTrueClaim platform nodes domain base claim
    → CanBeRead platform claim.verdict claim.proof

-- a text is UTF-8, and JSON that is read as the data
pub record IsTextOf (d : Data) (text : List ℕ) : Type 0 where
  pub utf8 : IsUtf8 text
  pub spelled : read text ≡ Some d

-- the text of a certificate is that of the list of its decisions' objects, where they can be read
abbrev pub TextsReadBack : Type 0
TextsReadBack = (platform : PlatformFacts) (decisions : List (List ℕ × Option Claim))
    → All IsHeap platform.heaps
    → All (λ c. IsReadableDecision platform c.0 c.1) decisions
    → IsTextOf (array (items_of (map (λ c. decision_data platform c.0 c.1) decisions)))
    (certificate_text (map (λ c. decision_data platform c.0 c.1) decisions))
