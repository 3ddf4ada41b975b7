-- The first test that a verdict and its certificate fail.
use Rattle.std.specs.Prelude.{◌≡◌, ◌≢◌, ◌⊎◌, ℕ, zero, suc, ◌<◌, ◌≤◌, true, List, [], ◌∷◌, ◌++◌}
use Rattle.std.specs.Prelude.{Option, Some, None, All, MatchOption, length, take, slice_get}
use Rattle.std.specs.List.{AllZip}
use Rattle.sysmem_memory.specs.Listed.{HeapPlace, places_of}
use Rattle.sysmem_merge.specs.declared.settings.Settings.{Settings}
use Rattle.negotiation_inputs.specs.Participant.{Participant}
use Rattle.negotiation_inputs.specs.Platform.{PlatformFacts, offers_of}
use Rattle.sysmem_tree.specs.Forest.{Forest, choices, settled, count}
use Rattle.sysmem_tree.specs.Selection.{IsSelection}
use Rattle.sysmem_tree.specs.Shape.{Member}
use Rattle.verdict_claims.specs.declared.no.No.{No}
use Rattle.verdict_claims.specs.declared.no.No.TheVariants.{WrongShape, WrongNode, NoConflict}
use Rattle.verdict_claims.specs.declared.no.No.TheVariants.{NotMet, Missing, NotLeast}
use Rattle.verdict_claims.specs.declared.certificate.Proof.{Proof}
use Rattle.verdict_claims.specs.declared.certificate.Proof.TheVariants as proves
use Rattle.verdict_claims.specs.declared.verdict.TheConstants.{MOST_SELECTIONS}
use Rattle.verdict_claims.specs.declared.verdict.Verdict.{Verdict}
use Rattle.verdict_claims.specs.declared.verdict.Verdict.TheVariants as verdicts
use Rattle.verdict_claims.specs.Base.{Terms}
use Rattle.verdict_claims.specs.declared.refutation.Item.{Item}
use Rattle.verdict_claims.specs.declared.refutation.Item.TheVariants.{Split, Leaf}
use Rattle.verdict_claims.specs.CertificateFacts.{CertificateFacts}
use Rattle.verdict_claims.specs.Certificate.{Refutes, RefutesEarlier, HoldBefore, HasNoLines}
use Rattle.verdict_claims.specs.Check.{IsLeastAt}
use Rattle.verdict_claims.specs.Line.{LineFacts}
use Rattle.verdict_claims.specs.declared.conflict.Conflict.{Conflict}
use Rattle.verdict_claims.specs.declared.conflict.Conflict.TheVariants.{Count, Places, Offers}
use Rattle.verdict_claims.specs.declared.conflict.Conflict.TheVariants.{Fixed}
use Rattle.verdict_claims.specs.Conflict.{RefusesPlace, RefusesOffer, IsConflictFor}
use Rattle.verdict_claims.specs.Members.{participants}
use Rattle.verdict_claims.specs.Naming.{Names}
use Rattle.verdict_claims.specs.Verdict.{MeetsFor}

-- which numbers a test, or a walk over tests, fails with
abbrev pub Faults : Type 1
Faults = No → Type 0

-- what fails first where one test comes before others: it does, or it
-- holds and one of the others does
abbrev pub First : Type 0 → Faults → Faults → Faults
First Holds faults others why = faults why ⊎ (Holds × others why)

-- a single test with its number
abbrev pub Fails : Type 0 → No → Faults
Fails Holds number why = (¬ Holds) × (why ≡ number)

-- a test with its number, and what fails where it holds
abbrev pub Tested : Type 0 → No → Faults → Faults
Tested Holds number others = First Holds (Fails Holds number) others

-- no test is left
abbrev pub NoFault : Faults
NoFault why = ⊥

-- the paths name participants, each once
abbrev pub AreNamed : List Member → List (List ℕ) → Type 0
AreNamed ms paths = (ps : List Participant) × Names ms paths ps

-- a line's nodes are named, and then it is true
abbrev pub LineFaults : List Member → Type 0 → LineFacts → Faults
LineFaults ms True line = Tested (AreNamed ms line.nodes) WrongNode (Fails True NoConflict)

-- the lines of a conflict
abbrev pub lines_of : Conflict → List LineFacts
lines_of (Count line) = line ∷ []
lines_of (Places lines) = lines
lines_of (Offers lines) = lines
lines_of (Fixed field node) = record { field = field; nodes = node ∷ [] } ∷ []

-- it has a line for each place, or for each offer
abbrev pub HasEachLine : PlatformFacts → Conflict → Type 0
HasEachLine platform (Places lines) = length lines ≡ length (places_of platform.heaps)
HasEachLine platform (Offers lines) = length lines ≡ length (offers_of platform)
HasEachLine platform c = Unit {0}

-- whom a conflict may name: what is settled, and for a count of an
-- attached domain those accepted before
abbrev pub namable : Option Terms → List Member → Conflict → List Member
namable (Some terms) ms (Count line) = terms.accepted ++ ms
namable terms ms c = ms

-- a conflict as one item: its form, then all whom it names, then whether it is true
abbrev pub ConflictFaults : PlatformFacts → Option Terms → Forest Member → Conflict → Faults
ConflictFaults platform terms d c = Tested (HasEachLine platform c) WrongShape
    (Tested (All (λ line. AreNamed (namable terms (settled d) c) line.nodes) (lines_of c)) WrongNode
    (Fails (IsConflictFor platform terms d c) NoConflict))

-- the items of a refutation as they are listed
abbrev pub RefutationFaults : PlatformFacts → Option Terms → List Item → List (Forest Member)
    → Faults
RefutationFaults platform terms [] [] why = ⊥
RefutationFaults platform terms [] (d ∷ ds) why = why ≡ Missing
RefutationFaults platform terms (item ∷ items) [] why = why ≡ WrongShape
RefutationFaults platform terms (Leaf c ∷ items) (d ∷ ds) why =
    First (IsConflictFor platform terms d c) (ConflictFaults platform terms d c)
    (RefutationFaults platform terms items ds) why
RefutationFaults platform terms (Split n ∷ items) (d ∷ ds) why =
    MatchOption (choices d) (why ≡ WrongShape)
    (λ es. Tested (length es ≡ n) WrongShape (RefutationFaults platform terms items (es ++ ds)) why)

-- something for each of a list: one after the other; where one is
-- missing, and where one is too many
abbrev pub EachFaults : {X Y : Type 0} → (X → Y → Type 0) → (X → Y → Faults) → List X → List Y
    → Faults
EachFaults R faults [] [] why = ⊥
EachFaults R faults [] (y ∷ ys) why = why ≡ WrongShape
EachFaults R faults (x ∷ xs) [] why = why ≡ Missing
EachFaults R faults (x ∷ xs) (y ∷ ys) why =
    First (R x y) (faults x y) (EachFaults R faults xs ys) why

-- a group without its list: a refutation is missing, if there should be one
abbrev pub no_list : ℕ → No
no_list zero = WrongShape
no_list (suc c) = Missing

-- the refutations of what is earlier, group by group
abbrev pub EarlierFaults : PlatformFacts → Option Terms → Forest Member → List ℕ
    → List (List (List Item)) → Faults
EarlierFaults platform terms d [] [] why = ⊥
EarlierFaults platform terms d [] (rs ∷ rss) why = why ≡ WrongShape
EarlierFaults platform terms d (c ∷ cs) [] why = why ≡ no_list c
EarlierFaults platform terms d (c ∷ cs) (rs ∷ rss) why = MatchOption (choices d) ⊥ (λ es.
    First (AllZip (λ e items. Refutes (IsConflictFor platform terms) items (e ∷ [])) (take c es) rs)
    (EachFaults (λ e items. Refutes (IsConflictFor platform terms) items (e ∷ []))
    (λ e items. RefutationFaults platform terms items (e ∷ [])) (take c es) rs)
    (λ why. MatchOption (slice_get es c) ⊥ (λ e. EarlierFaults platform terms e cs rss why)) why)

-- a line for each of xs before x, as they are listed
pub record LinesFault {X : Type 0} (R : X → LineFacts → Type 0) (ms : List Member) (xs : List X)
    (x : X) (lines : List LineFacts) (why : No) : Type 0 where
  pub before : List X
  pub behind : List X
  pub there : xs ≡ before ++ x ∷ behind
  pub first : All (λ y. y ≢ x) before
  pub fault : EachFaults R (λ y line. LineFaults ms (R y line) line) before lines why

-- the places before that of the settings
pub record PlacesFault (platform : PlatformFacts) (ms : List Member) (s : Settings)
    (lines : List LineFacts) (why : No) : Type 0 where
  pub at : HeapPlace
  pub same : at.place ≡ s.place
  pub each : LinesFault (RefusesPlace ms) ms (places_of platform.heaps) at lines why

-- the lines of a choice, first those for offers; an attached domain has none
abbrev pub LinesFaults : PlatformFacts → Option Terms → List Member → Settings → CertificateFacts
    → Faults
LinesFaults platform None ms s certificate =
    First (HoldBefore (RefusesOffer true ms) (offers_of platform) s.offer certificate.offers)
    (LinesFault (RefusesOffer true ms) ms (offers_of platform) s.offer certificate.offers)
    (PlacesFault platform ms s certificate.places)
LinesFaults platform (Some terms) ms s certificate = NoFault

-- an attached domain's choice has no lines
abbrev pub HasFittingLines : Option Terms → CertificateFacts → Type 0
HasFittingLines None certificate = Unit {0}
HasFittingLines (Some terms) certificate = HasNoLines certificate

-- the settings are met, and of an initial domain the least of their
-- offer in their place; then the others
abbrev pub SettingsFaults : PlatformFacts → Option Terms → List Member → Settings → Faults → Faults
SettingsFaults platform None ms s others = Tested (MeetsFor platform None ms s) NotMet
    (Tested (IsLeastAt platform (participants ms) s) NotLeast others)
SettingsFaults platform (Some terms) ms s others =
    Tested (MeetsFor platform (Some terms) ms s) NotMet others

-- what fails where the choices are a selection with these members
pub record MembersFault (d : Forest Member) (selection : List ℕ) (faults : List Member → Faults)
    (why : No) : Type 0 where
  pub members : Forest Member
  pub selects : IsSelection d selection members
  pub fault : faults (settled members) why

-- the choices are a selection
abbrev pub IsSelected : Forest Member → List ℕ → Type 0
IsSelected d selection = (members : Forest Member) × IsSelection d selection members

-- there are few enough selections
abbrev pub AreFew : Forest Member → Type 0
AreFew d = count d ≤ MOST_SELECTIONS

-- a choice with its certificate: its form, its settings, what is earlier, the lines
abbrev pub ChoiceFaults : PlatformFacts → Option Terms → Forest Member → List ℕ → Settings
    → CertificateFacts → Faults
ChoiceFaults platform terms d selection s certificate =
    Tested (AreFew d) WrongShape
    (Tested (IsSelected d selection) WrongShape
    (Tested (HasFittingLines terms certificate) WrongShape
    (MembersFault d selection (λ ms. SettingsFaults platform terms ms s
    (First (RefutesEarlier (IsConflictFor platform terms) d selection certificate.earlier)
    (EarlierFaults platform terms d selection certificate.earlier)
    (LinesFaults platform terms ms s certificate))))))

-- that nothing is met, with its refutation
abbrev pub EmptyFaults : PlatformFacts → Option Terms → Forest Member → List Item → Faults
EmptyFaults platform terms d items =
    Tested (AreFew d) WrongShape (RefutationFaults platform terms items (d ∷ []))

-- more selections than a decision goes through
abbrev pub AreMany : Forest Member → Type 0
AreMany d = MOST_SELECTIONS < count d

-- a verdict with what proves it. One with a proof of another kind has the wrong shape, and so
-- has what failed or wanted memory.
abbrev pub VerdictFaults : PlatformFacts → Option Terms → Forest Member → Verdict → Proof → Faults
VerdictFaults platform terms d (verdicts.Chosen chosen) (proves.Choice certificate) why =
    ChoiceFaults platform terms d chosen.selection chosen.settings certificate why
VerdictFaults platform terms d verdicts.IntersectionEmpty (proves.Empty items) why =
    EmptyFaults platform terms d items why
VerdictFaults platform terms d verdicts.TooMany proves.Nothing why =
    Fails (AreMany d) WrongShape why
VerdictFaults platform terms d v proof why = why ≡ WrongShape
