-- What is true of legal histories.
use Rattle.std.specs.Prelude.{◌≡◌, ◌↔◌, ◌≤◌, ◌++◌, ℕ, true, List, ◌∷◌, length, Option}
use Rattle.std.specs.Prelude.{Some, map, option_map}
use Rattle.std.specs.List.{Contains}
use Rattle.verdict_claims.specs.declared.certificate.Claim.{Claim}
use Rattle.verdict_claims.specs.declared.certificate.Proof.{Proof}
use Rattle.verdict_claims.specs.declared.verdict.Verdict.{Verdict}
use Rattle.verdict_claims.specs.Base.{BaseFacts, IsGivenBase, terms_of}
use Rattle.verdict_claims.specs.Claim.{IsTrueClaim}
use Rattle.verdict_claims.specs.Verdict.{IsOptimalIn, IsSameAnswer}
use Rattle.negotiation_inputs.specs.Platform.{PlatformFacts}
use Rattle.sysmem_tree.specs.Domain.{HasDomain, decision_of, is_ready, is_undecided}
use Rattle.sysmem_tree.specs.Laws.{AreStill, SameInitial, SameReady, IsSameDomain}
use Rattle.sysmem_tree.specs.Node.{NodeFacts}
use Rattle.sysmem_tree.specs.Path.{at_path}
use Rattle.sysmem_tree.specs.Step.{IsInitial}
use Rattle.sysmem_tree.specs.History.{log_at}
use Rattle.sysmem_alloc.specs.Book.{BookFacts, book_of}
use Rattle.sysmem_alloc.specs.Claims.{HasProof, IsRightClaim}
use Rattle.sysmem_alloc.specs.Decision.{DomainVerdict, decision_for}
use Rattle.sysmem_alloc.specs.Entry.{BookEntry, Decided, tree_entry}
use Rattle.sysmem_alloc.specs.Frozen.{FrozenFacts, IsStill}
use Rattle.sysmem_alloc.specs.History.{AreActions, IsLegal, NoEarlyClose, SameCalls, replay}
use Rattle.sysmem_alloc.specs.Sound.{AgreesWithTree, IsSoundState}
use Rattle.sysmem_alloc.specs.State.{State, next_ready, base_of, verdict_of}

-- the state of each legal history is sound
abbrev pub LegalIsSound : Type 0
LegalIsSound = (platform : PlatformFacts) (es : List BookEntry) → IsLegal platform es
    → IsSoundState (replay es)

-- the decisions of each legal history agree with its tree
abbrev pub LegalAgrees : Type 0
LegalAgrees = (platform : PlatformFacts) (es : List BookEntry) → IsLegal platform es
    → AgreesWithTree platform (replay es)

-- each domain that is ready and undecided waits
abbrev pub ReadyWaits : Type 0
ReadyWaits = (platform : PlatformFacts) (es : List BookEntry) (r : ℕ) → IsLegal platform es
    → HasDomain (replay es).tree.nodes r → is_ready (replay es).tree r ≡ true
    → is_undecided (decision_of (replay es).tree.domains r) ≡ true → Contains (replay es).waiting r

-- what the domain that is to be decided next is decided on is a base for it, and there is
-- one exactly for an attached domain
abbrev pub BaseIsGiven : Type 0
BaseIsGiven = (platform : PlatformFacts) (es : List BookEntry) (r : ℕ) → IsLegal platform es
    → next_ready (replay es) ≡ Some r
    → IsGivenBase platform (replay es).tree.nodes r (base_of (replay es) r)

-- a history has at most 639 entries: 127 nodes are made, each of the 128 has at most three further
-- actions, and as many domains are decided
abbrev pub FewEntries : Type 0
FewEntries = (platform : PlatformFacts) (es : List BookEntry) → IsLegal platform es
    → length es ≤ 639

-- the initial domain's shape, and whether its nodes are complete, are one function of the actions
-- at its own paths, whatever the platforms are
abbrev pub InitialShape : Type 0
InitialShape = (p q : PlatformFacts) (es fs : List BookEntry) → IsLegal p es → IsLegal q fs
    → ((path : List ℕ) → IsInitial (at_path (replay es).tree.nodes) path
    → log_at (map tree_entry es) path ≡ log_at (map tree_entry fs) path)
    → SameInitial (replay es).tree (replay fs).tree

-- two histories end with the initial domain ready in both or in neither, and of one shape; where
-- both decided it with a verdict, the answer is the same
pub record AreConfluent (es fs : List BookEntry) : Type 0 where
  pub ready : SameReady (replay es).tree (replay fs).tree
  pub answer : (d e : DomainVerdict) (v w : Verdict) → decision_for (replay es).decisions 0 ≡ Some d
      → decision_for (replay fs).decisions 0 ≡ Some e → d.verdict ≡ Some v → e.verdict ≡ Some w
      → IsSameAnswer v w

abbrev pub Confluence : Type 0
Confluence = (platform : PlatformFacts) (es fs : List BookEntry) → IsLegal platform es
    → IsLegal platform fs → SameCalls es fs → NoEarlyClose es → NoEarlyClose fs → AreConfluent es fs

-- each node keeps its number, and with it its path, its parent and its domain, and each
-- domain its root, whatever is entered
abbrev pub NumbersStay : Type 0
NumbersStay = (platform : PlatformFacts) (es fs : List BookEntry) → IsLegal platform (es ++ fs)
    → AreStill (replay es).tree.nodes (replay (es ++ fs)).tree.nodes

-- a domain that has a verdict keeps it, whatever is entered after it
abbrev pub VerdictStays : Type 0
VerdictStays = (platform : PlatformFacts) (es fs : List BookEntry) (r : ℕ) (v : Verdict)
    → IsLegal platform (es ++ fs) → HasDomain (replay es).tree.nodes r
    → verdict_of (replay es) r ≡ Some v → verdict_of (replay (es ++ fs)) r ≡ Some v

-- the domain that is to be decided next stays so, with its forest, what it is decided on and its
-- terms; and each verdict that is optimal for it stays so, and each claim that is true of it
pub record StaysNext (old new : State) (r : ℕ) : Type 0 where
  pub next : next_ready new ≡ Some r
  pub domain : IsSameDomain old.tree.nodes new.tree.nodes r
  pub base : base_of new r ≡ base_of old r
  pub terms : option_map (terms_of new.tree.nodes) (base_of new r)
      ≡ option_map (terms_of old.tree.nodes) (base_of old r)
  pub optimal : (platform : PlatformFacts) (v : Verdict)
      → IsOptimalIn platform old.tree.nodes r (base_of old r) v
      → IsOptimalIn platform new.tree.nodes r (base_of new r) v
  pub claims : (platform : PlatformFacts) (c : Claim)
      → IsTrueClaim platform old.tree.nodes r (base_of old r) c
      → IsTrueClaim platform new.tree.nodes r (base_of new r) c

-- actions, however many, change neither which domain is to be decided next nor its forest or what
-- it is decided on, and leave each verdict optimal that is optimal for it, and each claim true
abbrev pub NextStays : Type 0
NextStays = (platform : PlatformFacts) (es fs : List BookEntry) (r : ℕ)
    → IsLegal platform (es ++ fs) → AreActions fs → next_ready (replay es) ≡ Some r
    → StaysNext (replay es) (replay (es ++ fs)) r

-- what was frozen and still is what a book has stays so through actions, however many
abbrev pub FitStays : Type 0
FitStays = (platform : PlatformFacts) (es fs : List BookEntry) (f : FrozenFacts)
    → IsLegal platform (es ++ fs) → AreActions fs → IsStill (book_of platform es) f
    → IsStill (book_of platform (es ++ fs)) f

-- a claim that is true of what was frozen, or right for it, is so for each book that still has it
pub record FitsClaim (b : BookFacts) (f : FrozenFacts) (c : Claim) : Type 0 where
  pub proved : IsTrueClaim f.platform f.tree.nodes f.domain f.base c
      → IsTrueClaim b.platform b.state.tree.nodes f.domain (base_of b.state f.domain) c
  pub right : IsRightClaim f.platform f.tree.nodes f.domain f.base c
      → IsRightClaim b.platform b.state.tree.nodes f.domain (base_of b.state f.domain) c

abbrev pub FitIsRight : Type 0
FitIsRight = (b : BookFacts) (f : FrozenFacts) (c : Claim) → IsStill b f → FitsClaim b f c

-- a claim is true exactly where it is right and has its proof
abbrev pub ProvedClaimsAreTrue : Type 0
ProvedClaimsAreTrue = (platform : PlatformFacts) (nodes : List NodeFacts) (domain : ℕ)
    (base : Option BaseFacts) (claim : Claim)
    → IsTrueClaim platform nodes domain base claim
    ↔ (IsRightClaim platform nodes domain base claim × HasProof claim)

-- each verdict that a legal history decided has a certificate: with some proof it is a true claim
-- of its domain as it stood then, on what it was decided on, whether or not it was entered with one
abbrev pub DecisionsHaveProofs : Type 0
DecisionsHaveProofs = (platform : PlatformFacts) (es fs : List BookEntry) (r : ℕ) (c : Claim)
    → IsLegal platform (es ++ Decided (record { domain = r; claim = Some c }) ∷ fs)
    → (proof : Proof)
    × IsTrueClaim platform (replay es).tree.nodes r (base_of (replay es) r)
    (record { verdict = c.verdict; proof = proof })
