-- A claim is read of what is told of it.
use Rattle.std.proofs.Common.{◌≡◌, ℕ, ◌≤◌, List, length, All, AllPairs, false, Some, codes, refl, le-leb}
use Rattle.serde_json.specs.Data.{Data, string}
use Rattle.serde_json.specs.Find.{get, as_str}
use Rattle.sysmem_memory.specs.Heap.{same_heap}
use Rattle.negotiation_inputs.specs.Platform.{PlatformFacts}
use Rattle.verdict_claims.specs.declared.certificate.Claim.{Claim}
use Rattle.verdict_claims.specs.declared.certificate.Proof.{Proof}
use Rattle.verdict_claims.specs.declared.certificate.Proof.TheVariants as proves
use Rattle.verdict_claims.specs.declared.refutation.Item.{Item}
use Rattle.verdict_claims.specs.declared.verdict.Verdict.{Verdict}
use Rattle.verdict_claims.specs.declared.verdict.Verdict.TheVariants as verdicts
use Rattle.verdict_claims.specs.CertificateFacts.{CertificateFacts}
use Rattle.verdict_claims.specs.Chosen.{ChosenFacts}
use Rattle.certificate_text.specs.Bounds.{count_data}
use Rattle.certificate_text.specs.CanBeRead.{HasSteps, IsReadableRefutation, IsReadableCertificate, IsReadableChoice, CanBeRead}
use Rattle.certificate_text.specs.Reading.{number_to, list_said, at_key}
use Rattle.certificate_text.specs.Said.{node_said, line_said, refutation_said, earlier_said, certificate_said, unless_many, selection_said, chosen_said, empty_said, claim_by, claim_said}
use Rattle.certificate_text.specs.SettingsSaid.{settings_said}
use Rattle.certificate_text.specs.Told.{list_data, path_data, lines_data, refutation_data, earlier_data, settings_data, claim_data}
use Rattle.certificate_text.proofs.PathsBack.{path_back}
use Rattle.certificate_text.proofs.RefutationsBack.{first, at_back, each_back, number_back, lines_back, refutation_back, earlier_back}
use Rattle.certificate_text.proofs.SettingsBack.{settings_back}

selection_back : (selection : List ℕ) → length selection ≤ 128 → All (λ n. n ≤ 255) selection → selection_said (list_data count_data selection) ≡ Some selection
selection_back selection few choices =
    first (list_said (number_to 255) (list_data count_data selection)) selection unless_many _
    (each_back count_data (number_to 255) (λ n. n ≤ 255) (λ n fits. number_back 255 n fits) selection choices) (rw (le-leb (length selection) 128 few) refl)

-- what stands in an object at the three keys of a certificate
certificate_back : (d : Data) (certificate : CertificateFacts) → IsReadableCertificate certificate → get (codes "earlier") d ≡ Some (list_data earlier_data certificate.earlier)
    → get (codes "offers") d ≡ Some (lines_data certificate.offers) → get (codes "places") d ≡ Some (lines_data certificate.places) → certificate_said d ≡ Some certificate
certificate_back d certificate can earlier offers places =
    first (at_key (codes "earlier") (list_said earlier_said) d) certificate.earlier _ _
    (at_back (codes "earlier") (list_said earlier_said) d (list_data earlier_data certificate.earlier) certificate.earlier earlier
    (each_back earlier_data earlier_said (λ refutations. All IsReadableRefutation refutations) earlier_back certificate.earlier can.earlier))
    (first (at_key (codes "offers") (list_said line_said) d) certificate.offers _ _
    (at_back (codes "offers") (list_said line_said) d (lines_data certificate.offers) certificate.offers offers (lines_back certificate.offers can.offers))
    (first (at_key (codes "places") (list_said line_said) d) certificate.places _ _
    (at_back (codes "places") (list_said line_said) d (lines_data certificate.places) certificate.places places (lines_back certificate.places can.places)) refl))

chosen_back : (platform : PlatformFacts) (path : List ℕ) (chosen : ChosenFacts) (certificate : CertificateFacts) → AllPairs (λ a b. same_heap a.heap b.heap ≡ false) platform.heaps
    → IsReadableChoice platform chosen certificate
    → chosen_said platform (claim_data platform path (verdicts.Chosen chosen) (proves.Choice certificate)) ≡ Some (record { verdict = verdicts.Chosen chosen; proof = proves.Choice certificate })
chosen_back platform path chosen certificate distinct can =
    let d : Data = claim_data platform path (verdicts.Chosen chosen) (proves.Choice certificate) in
    first (certificate_said d) certificate _ _ (certificate_back d certificate can.certified refl refl refl)
    (first (at_key (codes "selection") selection_said d) chosen.selection _ _
    (at_back (codes "selection") selection_said d (list_data count_data chosen.selection) chosen.selection refl (selection_back chosen.selection can.few can.choices))
    (first (at_key (codes "settings") (settings_said platform) d) chosen.settings _ _
    (at_back (codes "settings") (settings_said platform) d (settings_data platform chosen.settings) chosen.settings refl (settings_back platform chosen.settings distinct can.settings)) refl))

empty_back : (platform : PlatformFacts) (path : List ℕ) (items : List Item) → IsReadableRefutation items
    → empty_said (claim_data platform path verdicts.IntersectionEmpty (proves.Empty items)) ≡ Some (record { verdict = verdicts.IntersectionEmpty; proof = proves.Empty items })
empty_back platform path items can =
    let d : Data = claim_data platform path verdicts.IntersectionEmpty (proves.Empty items) in
    first (at_key (codes "refutation") refutation_said d) items _ _ (at_back (codes "refutation") refutation_said d (refutation_data items) items refl (refutation_back items can)) refl

-- a claim about the domain at a path, of which the path, the verdict's name and the claim are read
parts_back : (platform : PlatformFacts) (d : Data) (path name : List ℕ) (claim : Claim) → HasSteps path → get (codes "domain") d ≡ Some (path_data path)
    → get (codes "verdict") d ≡ Some (string name) → claim_by platform name d ≡ Some claim → claim_said platform d ≡ Some (path, claim)
parts_back platform d path name claim steps at_domain at_verdict is =
    first (at_key (codes "domain") node_said d) path _ _ (at_back (codes "domain") node_said d (path_data path) path at_domain (path_back path steps))
    (first (at_key (codes "verdict") as_str d) name _ _ (at_back (codes "verdict") as_str d (string name) name at_verdict refl)
    (first (claim_by platform name d) claim _ _ is refl))

pub claim_back : (platform : PlatformFacts) (path : List ℕ) (verdict : Verdict) (proof : Proof) → AllPairs (λ a b. same_heap a.heap b.heap ≡ false) platform.heaps → HasSteps path
    → CanBeRead platform verdict proof → claim_said platform (claim_data platform path verdict proof) ≡ Some (path, record { verdict = verdict; proof = proof })
claim_back platform path (verdicts.Chosen chosen) (proves.Choice certificate) distinct steps can =
    parts_back platform (claim_data platform path (verdicts.Chosen chosen) (proves.Choice certificate)) path (codes "chosen") _ steps refl refl
    (chosen_back platform path chosen certificate distinct can)
claim_back platform path verdicts.IntersectionEmpty (proves.Empty items) distinct steps can =
    parts_back platform (claim_data platform path verdicts.IntersectionEmpty (proves.Empty items)) path (codes "empty") _ steps refl refl (empty_back platform path items can)
claim_back platform path verdicts.TooMany proves.Nothing distinct steps can =
    parts_back platform (claim_data platform path verdicts.TooMany proves.Nothing) path (codes "too_many") _ steps refl refl refl
claim_back platform path verdicts.NoMemory proves.Nothing distinct steps can =
    parts_back platform (claim_data platform path verdicts.NoMemory proves.Nothing) path (codes "no_memory") _ steps refl refl refl
claim_back platform path (verdicts.Chosen chosen) (proves.Empty items) distinct steps can = absurd can
claim_back platform path (verdicts.Chosen chosen) proves.Nothing distinct steps can = absurd can
claim_back platform path verdicts.IntersectionEmpty (proves.Choice certificate) distinct steps can = absurd can
claim_back platform path verdicts.IntersectionEmpty proves.Nothing distinct steps can = absurd can
claim_back platform path verdicts.TooMany (proves.Choice certificate) distinct steps can = absurd can
claim_back platform path verdicts.TooMany (proves.Empty items) distinct steps can = absurd can
claim_back platform path verdicts.NoMemory (proves.Choice certificate) distinct steps can = absurd can
claim_back platform path verdicts.NoMemory (proves.Empty items) distinct steps can = absurd can
claim_back platform path verdicts.Failed proof distinct steps can = absurd can
