-- Which claims can be read of their text: what they say fits its types, and
-- their settings are the platform's.
use Rattle.std.specs.Prelude.{◌≡◌, ℕ, ◌-◌, ◌^◌, ◌≤◌, List, [], ◌∷◌, length, All, Contains}
use Rattle.std.specs.Prelude.{IfSome, Option, Some, None}
use Rattle.sysmem_formats.specs.declared.offer.Offer.TheVariants.{NoImage}
use Rattle.sysmem_image.specs.Bounds.{IsInRange, IsOwn}
use Rattle.sysmem_counts.specs.Bounds.{most_number}
use Rattle.sysmem_memory.specs.Heap.{HeapFacts}
use Rattle.sysmem_memory.specs.Place.{IsPlace}
use Rattle.sysmem_merge.specs.declared.settings.Settings.{Settings}
use Rattle.negotiation_inputs.specs.Platform.{PlatformFacts, offers_of}
use Rattle.sysmem_tree.specs.declared.tree.TheConstants.{MOST_NODES}
use Rattle.verdict_claims.specs.declared.certificate.Claim.{Claim}
use Rattle.verdict_claims.specs.declared.certificate.Proof.{Proof}
use Rattle.verdict_claims.specs.declared.certificate.Proof.TheVariants as proves
use Rattle.verdict_claims.specs.declared.conflict.Conflict.{Conflict}
use Rattle.verdict_claims.specs.declared.conflict.Conflict.TheVariants.{Count, Places, Offers}
use Rattle.verdict_claims.specs.declared.conflict.Conflict.TheVariants.{Fixed}
use Rattle.verdict_claims.specs.declared.refutation.Item.{Item}
use Rattle.verdict_claims.specs.declared.refutation.Item.TheVariants.{Split, Leaf}
use Rattle.verdict_claims.specs.declared.verdict.Verdict.{Verdict}
use Rattle.verdict_claims.specs.declared.verdict.Verdict.TheVariants as verdicts
use Rattle.verdict_claims.specs.Base.{BaseFacts}
use Rattle.verdict_claims.specs.CertificateFacts.{CertificateFacts}
use Rattle.verdict_claims.specs.Chosen.{ChosenFacts}
use Rattle.verdict_claims.specs.Line.{LineFacts}

-- ordinals of 32 bits
abbrev pub HasSteps : List ℕ → Type 0
HasSteps [] = Unit {0}
HasSteps (n ∷ path) = (n ≤ most_number) × HasSteps path

-- a line that names nodes by such paths
abbrev pub NamesNodes : LineFacts → Type 0
NamesNodes line = All HasSteps line.nodes

abbrev pub IsReadableConflict : Conflict → Type 0
IsReadableConflict (Count line) = NamesNodes line
IsReadableConflict (Fixed field node) = HasSteps node
IsReadableConflict (Places lines) = All NamesNodes lines
IsReadableConflict (Offers lines) = All NamesNodes lines

-- a split of a number of 64 bits, or such a conflict
abbrev pub IsReadableItem : Item → Type 0
IsReadableItem (Split n) = n ≤ 2 ^ 64 - 1
IsReadableItem (Leaf conflict) = IsReadableConflict conflict

abbrev pub IsReadableRefutation : List Item → Type 0
IsReadableRefutation items = All IsReadableItem items

pub record IsReadableCertificate (certificate : CertificateFacts) : Type 0 where
  pub earlier : All (λ refutations. All IsReadableRefutation refutations) certificate.earlier
  pub offers : All NamesNodes certificate.offers
  pub places : All NamesNodes certificate.places

-- the platform's offer in one of its places, and numbers that fit; without an image
-- the bounds are those of no entry
pub record AreReadableSettings (platform : PlatformFacts) (s : Settings) : Type 0 where
  pub count : s.count ≤ most_number
  pub size_bytes : s.size_bytes ≤ 2 ^ 64 - 1
  pub offer : Contains (offers_of platform) s.offer
  pub heap : HeapFacts
  pub place : IsPlace platform.heaps s.place heap
  pub id : heap.heap.id ≤ 2 ^ 64 - 1
  pub bounds : IsInRange s.bounds
  pub own : s.offer ≡ NoImage → IsOwn NoImage s.bounds

-- at most 128 choices, each of one of at most 256 children
pub record IsReadableChoice (platform : PlatformFacts) (chosen : ChosenFacts)
    (certificate : CertificateFacts) : Type 0 where
  pub few : length chosen.selection ≤ MOST_NODES
  pub choices : All (λ n. n ≤ 255) chosen.selection
  pub settings : AreReadableSettings platform chosen.settings
  pub certified : IsReadableCertificate certificate

-- a verdict and a proof of its kind, where what they say can be read
abbrev pub CanBeRead : PlatformFacts → Verdict → Proof → Type 0
CanBeRead platform (verdicts.Chosen chosen) (proves.Choice certificate) =
    IsReadableChoice platform chosen certificate
CanBeRead platform verdicts.IntersectionEmpty (proves.Empty items) = IsReadableRefutation items
CanBeRead platform verdicts.TooMany proves.Nothing = Unit {0}
CanBeRead platform verdicts.NoMemory proves.Nothing = Unit {0}
CanBeRead platform verdict proof = ⊥

-- what was decided of the domain at a path, where it can be read: a
-- claim, or that memory was refused
pub record IsReadableDecision (platform : PlatformFacts) (path : List ℕ)
    (claim : Option Claim) : Type 0 where
  pub steps : HasSteps path
  pub claimed : IfSome claim (λ c. CanBeRead platform c.verdict c.proof)

-- each heap's id is of 64 bits, as its type has it
abbrev pub HasHeapIds : PlatformFacts → Type 0
HasHeapIds platform = All (λ h. h.heap.id ≤ 2 ^ 64 - 1) platform.heaps

-- the settings of the host's domain, where an attached domain is decided on them, can be read
abbrev pub IsReadableBase : PlatformFacts → Option BaseFacts → Type 0
IsReadableBase platform None = Unit {0}
IsReadableBase platform (Some base) = AreReadableSettings platform base.settings
