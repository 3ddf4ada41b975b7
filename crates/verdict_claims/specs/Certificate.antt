-- What proves that a verdict is optimal.
use Rattle.std.specs.Prelude.{◌≡◌, ◌≢◌, ℕ, true, All, List, [], ◌∷◌, ◌++◌, Option, Some, None}
use Rattle.std.specs.Prelude.{length, take, IsSomeAnd, slice_get}
use Rattle.std.specs.List.{AllZip}
use Rattle.sysmem_memory.specs.Listed.{HeapPlace, places_of}
use Rattle.sysmem_merge.specs.declared.settings.Settings.{Settings}
use Rattle.negotiation_inputs.specs.Platform.{PlatformFacts, offers_of}
use Rattle.sysmem_tree.specs.Forest.{Forest, choices, settled}
use Rattle.sysmem_tree.specs.Selection.{IsSelection}
use Rattle.sysmem_tree.specs.Shape.{Member}
use Rattle.verdict_claims.specs.declared.refutation.Item.{Item}
use Rattle.verdict_claims.specs.declared.refutation.Item.TheVariants.{Split, Leaf}
use Rattle.verdict_claims.specs.Base.{Terms}
use Rattle.verdict_claims.specs.CertificateFacts.{CertificateFacts}
use Rattle.verdict_claims.specs.Line.{LineFacts}
use Rattle.verdict_claims.specs.declared.conflict.Conflict.{Conflict}
use Rattle.verdict_claims.specs.Conflict.{RefusesPlace, RefusesOffer, IsConflictFor}

-- what the conflicts of a forest are differs between initial and attached domains
abbrev pub Conflicts : Type 1
Conflicts = Forest Member → Conflict → Type 0

-- the items refute each of these forests in turn
abbrev pub Refutes : Conflicts → List Item → List (Forest Member) → Type 0
Refutes L [] [] = Unit {0}
Refutes L [] (d ∷ ds) = ⊥
Refutes L (item ∷ items) [] = ⊥
Refutes L (Leaf conflict ∷ items) (d ∷ ds) = L d conflict × Refutes L items ds
Refutes L (Split n ∷ items) (d ∷ ds) =
    IsSomeAnd (choices d) (λ es. (length es ≡ n) × Refutes L items (es ++ ds))

-- for each of the choices in turn, refutations of the choices before it
abbrev pub RefutesEarlier : Conflicts → Forest Member → List ℕ → List (List (List Item)) → Type 0
RefutesEarlier L d [] [] = Unit {0}
RefutesEarlier L d [] (rs ∷ rss) = ⊥
RefutesEarlier L d (c ∷ cs) [] = ⊥
RefutesEarlier L d (c ∷ cs) (rs ∷ rss) = IsSomeAnd (choices d) (λ es.
    AllZip (λ e items. Refutes L items (e ∷ [])) (take c es) rs
    × IsSomeAnd (slice_get es c) (λ e. RefutesEarlier L e cs rss))

-- R holds of a line for each of xs before the first x
pub record HoldBefore {X : Type 0} (R : X → LineFacts → Type 0) (xs : List X) (x : X)
    (lines : List LineFacts) : Type 0 where
  pub before : List X
  pub behind : List X
  pub there : xs ≡ before ++ x ∷ behind
  pub first : All (λ y. y ≢ x) before
  pub each : AllZip R before lines

-- each place before that of the settings is refused to the members by its line
pub record RefusePlacesBefore (platform : PlatformFacts) (ms : List Member) (s : Settings)
    (lines : List LineFacts) : Type 0 where
  pub at : HeapPlace
  pub same : at.place ≡ s.place
  pub each : HoldBefore (RefusesPlace ms) (places_of platform.heaps) at lines

-- each offer and each place is
pub record RefuseBefore (platform : PlatformFacts) (ms : List Member) (s : Settings)
    (certificate : CertificateFacts) : Type 0 where
  pub offers : HoldBefore (RefusesOffer true ms) (offers_of platform) s.offer certificate.offers
  pub places : RefusePlacesBefore platform ms s certificate.places

-- the settings of an attached domain are given, so that it has no lines
pub record HasNoLines (certificate : CertificateFacts) : Type 0 where
  pub offers : certificate.offers ≡ []
  pub places : certificate.places ≡ []

-- of both kinds of domain
abbrev pub RefuseBeforeFor : PlatformFacts → Option Terms → List Member → Settings
    → CertificateFacts → Type 0
RefuseBeforeFor platform None ms s certificate = RefuseBefore platform ms s certificate
RefuseBeforeFor platform (Some terms) ms s certificate = HasNoLines certificate

-- the choices are a selection, all before it is refuted, and so is each offer and
-- place before those of the settings
pub record IsCertificate (platform : PlatformFacts) (terms : Option Terms) (d : Forest Member)
    (selection : List ℕ) (s : Settings) (certificate : CertificateFacts) : Type 0 where
  pub members : Forest Member
  pub selects : IsSelection d selection members
  pub earlier : RefutesEarlier (IsConflictFor platform terms) d selection certificate.earlier
  pub before : RefuseBeforeFor platform terms (settled members) s certificate

-- the items refute a domain's forest
abbrev pub IsRefutation : PlatformFacts → Option Terms → Forest Member → List Item → Type 0
IsRefutation platform terms d items = Refutes (IsConflictFor platform terms) items (d ∷ [])
