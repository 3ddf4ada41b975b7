-- Refutations that end where they can, by the conflict that comes first there: no choice is gone on
-- with after which nothing meets what is settled.
use Rattle.std.specs.Prelude.{ℕ, List, [], ◌∷◌, ◌++◌, IfSome, slice_get, take}
use Rattle.std.specs.List.{AllZip}
use Rattle.verdict_claims.specs.CertificateFacts.{CertificateFacts}
use Rattle.verdict_claims.specs.Certificate.{Conflicts}
use Rattle.verdict_claims.specs.FirstConflict.{IsFirstConflictFor}
use Rattle.verdict_claims.specs.Matter.{Matter, forest, terms}
use Rattle.verdict_claims.specs.Verdict.{Meeting}
use Rattle.verdict_claims.specs.declared.certificate.Proof.{Proof}
use Rattle.verdict_claims.specs.declared.certificate.Proof.TheVariants as proves
use Rattle.verdict_claims.specs.declared.refutation.Item.{Item}
use Rattle.verdict_claims.specs.declared.refutation.Item.TheVariants.{Split, Leaf}
use Rattle.verdict_claims.specs.declared.verdict.Verdict.{Verdict}
use Rattle.verdict_claims.specs.declared.verdict.Verdict.TheVariants as verdicts
use Rattle.search_questions.specs.Live.{SomeMeet}
use Rattle.search_questions.specs.Question.{MeetsSoFar}
use Rattle.sysmem_tree.specs.Forest.{Forest, choices}
use Rattle.sysmem_tree.specs.Shape.{Member}

-- of items that refute forests in turn: each split stands where some settings meet what is settled,
-- and each leaf has the conflict that comes first
abbrev pub AreFirstItems : Meeting → Conflicts → List Item → List (Forest Member) → Type 0
AreFirstItems Met First [] ds = Unit {0}
AreFirstItems Met First (item ∷ items) [] = Unit {0}
AreFirstItems Met First (Leaf conflict ∷ items) (d ∷ ds) =
    First d conflict × AreFirstItems Met First items ds
AreFirstItems Met First (Split n ∷ items) (d ∷ ds) =
    SomeMeet Met d × IfSome (choices d) (λ es. AreFirstItems Met First items (es ++ ds))

-- of items that refute a forest
abbrev pub IsCut : Matter → Forest Member → List Item → Type 0
IsCut m d items =
    AreFirstItems (MeetsSoFar m) (IsFirstConflictFor m.platform (terms m)) items (d ∷ [])

-- of items that refute, for each of the choices in turn, the choices before it
abbrev pub AreCut : Matter → Forest Member → List ℕ → List (List (List Item)) → Type 0
AreCut m d [] rss = Unit {0}
AreCut m d (c ∷ cs) [] = Unit {0}
AreCut m d (c ∷ cs) (rs ∷ rss) = IfSome (choices d)
    (λ es. AllZip (IsCut m) (take c es) rs × IfSome (slice_get es c) (λ e. AreCut m e cs rss))

-- of a certificate of a verdict that chose
abbrev pub IsCutFor : Matter → Verdict → CertificateFacts → Type 0
IsCutFor m (verdicts.Chosen chosen) certificate =
    AreCut m (forest m) chosen.selection certificate.earlier
IsCutFor m verdict certificate = Unit {0}

-- of what proves a verdict
abbrev pub IsCutProof : Matter → Verdict → Proof → Type 0
IsCutProof m verdict (proves.Choice certificate) = IsCutFor m verdict certificate
IsCutProof m verdict (proves.Empty items) = IsCut m (forest m) items
IsCutProof m verdict proves.Nothing = Unit {0}
