-- What is tested of a choice behind its form.
use Rattle.std.specs.Prelude.{ℕ, List, Option}
use Rattle.sysmem_merge.specs.declared.settings.Settings.{Settings}
use Rattle.negotiation_inputs.specs.Platform.{PlatformFacts}
use Rattle.sysmem_tree.specs.Forest.{Forest}
use Rattle.sysmem_tree.specs.Shape.{Member}
use Rattle.verdict_claims.specs.declared.no.No.TheVariants.{WrongShape}
use Rattle.verdict_claims.specs.Base.{Terms}
use Rattle.verdict_claims.specs.Certificate.{IsCertificate, RefutesEarlier}
use Rattle.verdict_claims.specs.CertificateFacts.{CertificateFacts}
use Rattle.verdict_claims.specs.Check.{IsFit}
use Rattle.verdict_claims.specs.Conflict.{IsConflictFor}
use Rattle.verdict_claims.specs.Fault.{AreFew, EarlierFaults, Fails, Faults, First, HasFittingLines}
use Rattle.verdict_claims.specs.Fault.{IsSelected, LinesFaults, MembersFault, SettingsFaults}

-- its form
abbrev pub FormFaults : Option Terms → Forest Member → List ℕ → CertificateFacts → Faults
FormFaults terms d selection certificate = First (AreFew d) (Fails (AreFew d) WrongShape)
    (First (IsSelected d selection) (Fails (IsSelected d selection) WrongShape)
    (Fails (HasFittingLines terms certificate) WrongShape))

-- its settings are the least for its members, and its certificate is one
abbrev pub SelectedPasses : PlatformFacts → Option Terms → Forest Member → List ℕ → Settings
    → CertificateFacts → Type 0
SelectedPasses platform terms d selection s certificate =
    IsFit platform terms d selection s × IsCertificate platform terms d selection s certificate

abbrev pub SelectedFaults : PlatformFacts → Option Terms → Forest Member → List ℕ → Settings
    → CertificateFacts → Faults
SelectedFaults platform terms d selection s certificate = MembersFault d selection
    (λ ms. SettingsFaults platform terms ms s
    (First (RefutesEarlier (IsConflictFor platform terms) d selection certificate.earlier)
    (EarlierFaults platform terms d selection certificate.earlier)
    (LinesFaults platform terms ms s certificate)))
