-- What follows from audits that said yes.
use Rattle.std.specs.Prelude.{◌≡◌, ◌<◌, ℕ, false, List, Some, IfSome, IsSomeAnd, length, slice_get}
use Rattle.std.specs.Prelude.{slice_index_or}
use Rattle.std.specs.List.{AllByRecursion}
use Rattle.sysmem_alloc.specs.Book.{BookFacts, IsBook}
use Rattle.sysmem_alloc.specs.Decision.{IsDecision}
use Rattle.sysmem_alloc.specs.Headline.{HasNegotiated}
use Rattle.sysmem_alloc.specs.History.{NoEarlyClose}
use Rattle.sysmem_alloc.specs.State.{verdict_of}
use Rattle.verdict_claims.specs.declared.verdict.Verdict.{Verdict}
use Rattle.verdict_claims.specs.Verdict.{IsSameAnswer}
use Rattle.sysmem_room.specs.declared.outcome.Outcome.TheVariants as outcomes
use Rattle.sysmem_room.specs.Ruling.{RulingFacts}
use Rattle.negotiation_inputs.specs.Platform.{PlatformFacts}
use Rattle.sysmem_tree.specs.ActionKind.{kind_of}
use Rattle.sysmem_tree.specs.History.{is_close}
use Rattle.sysmem_tree.specs.Laws.{SameReady}
use Rattle.sysmem_participants.specs.declared.faults.Audit.{Audit}
use Rattle.sysmem_participants.specs.Audit.{AgreesWith, AreFor, AreRead, HasAt, IsAudited}
use Rattle.sysmem_participants.specs.Held.{Left}

-- a stub has the path and the calls of another
pub record IsLike (s t : Left) : Type 0 where
  pub path : t.path ≡ s.path
  pub deeds : t.deeds ≡ s.deeds

-- each of these stubs has one like it among those
abbrev pub AreAmong : List Left → List Left → Type 0
AreAmong ss ts = (k : ℕ) (d : Left) → k < length ss
    → (j : ℕ) × (j < length ts)
    × ((e : Left) → IsLike (slice_index_or ss k d) (slice_index_or ts j e))

-- the stubs of two collections have the same calls at each path
pub record HaveSameCalls (ss ts : List Left) : Type 0 where
  pub first : AreAmong ss ts
  pub second : AreAmong ts ss

-- a stub of the initial domain
abbrev pub IsInitial : BookFacts → Left → Type 0
IsInitial b s = HasAt b s (λ i. IfSome (slice_get b.state.tree.nodes i) (λ n. n.domain ≡ 0))

-- one verdict for the initial domains of two collections: both are ready or neither is, and of one
-- shape; where both were decided, with memory, the answer is the same, and so is what two stubs
-- know of it
pub record GotOneVerdict (b c : BookFacts) (ss ts : List Left) : Type 0 where
  pub ready : SameReady b.state.tree c.state.tree
  pub answer : (v w : Verdict) → verdict_of b.state 0 ≡ Some v → verdict_of c.state 0 ≡ Some w
      → IsDecision v → IsDecision w → IsSameAnswer v w
  pub known : (k j : ℕ) (d e : Left) (r q : RulingFacts) → k < length ss → j < length ts
      → IsInitial b (slice_index_or ss k d) → IsInitial c (slice_index_or ts j e)
      → (slice_index_or ss k d).known ≡ Some (outcomes.Decided r)
      → (slice_index_or ts j e).known ≡ Some (outcomes.Decided q)
      → IsDecision r.claim.verdict → IsDecision q.claim.verdict
      → IsSameAnswer r.claim.verdict q.claim.verdict

-- two collections for one platform, whose stubs agree with their books and have the same calls at
-- each path, and in which no node was closed before the initial domain's decision, got one verdict
-- for that domain, where both decided it
abbrev pub AuditsAgree : Type 0
AuditsAgree = (b c : BookFacts) (ss ts : List Left) (a x : Audit) → IsBook b → IsBook c
    → b.platform ≡ c.platform → IsAudited b ss a → IsAudited c ts x → HaveSameCalls ss ts
    → NoEarlyClose b.history → NoEarlyClose c.history → GotOneVerdict b c ss ts

-- the stub's node was not closed
abbrev pub IsOpen : Left → Type 0
IsOpen s = AllByRecursion (λ deed. is_close (kind_of deed) ≡ false) s.deeds

-- no stub's node was closed
abbrev pub AreOpen : List Left → Type 0
AreOpen ss = (k : ℕ) (d : Left) → k < length ss → IsOpen (slice_index_or ss k d)

-- where none of the stubs was closed that agree with a book, once their cells were read, no node of
-- it was closed before its initial domain's decision
abbrev pub NoneClosed : Type 0
NoneClosed = (b : BookFacts) (ss read : List Left) (a : Audit) → IsBook b → AreRead ss read
    → IsAudited b read a → AreOpen ss → NoEarlyClose b.history

-- two audits that said yes, of collections for one platform with the same calls at each path: the
-- books that they saw, in which no node was closed before the initial domain's decision, got one
-- verdict for that domain, where both decided it
abbrev pub TwoAuditsAgree : Type 0
TwoAuditsAgree = (platform : PlatformFacts) (b c : BookFacts) (ss ts : List Left) (a x : Audit)
    → IsBook b → IsBook c → AgreesWith b ss a → AgreesWith c ts x
    → AreFor platform ss → AreFor platform ts → HaveSameCalls ss ts
    → NoEarlyClose b.history → NoEarlyClose c.history → GotOneVerdict b c ss ts

-- the domain of the stub's node has this verdict by a decision of the book's history, which is
-- negotiated as the headline says
abbrev pub IsNegotiatedAt : BookFacts → Left → Verdict → Type 0
IsNegotiatedAt b s v = HasAt b s (λ i. IsSomeAnd (slice_get b.state.tree.nodes i)
    (λ n. HasNegotiated b.platform b.history n.domain v))

-- what a stub knows of its domain's verdict, where an audit of it and others said yes, is so
-- negotiated in the book that the audit saw, unless the domain failed or memory was wanted
abbrev pub KnownAreNegotiated : Type 0
KnownAreNegotiated = (b : BookFacts) (ss : List Left) (a : Audit) (k : ℕ) (d : Left)
    (r : RulingFacts) → IsBook b → AgreesWith b ss a → k < length ss
    → (slice_index_or ss k d).known ≡ Some (outcomes.Decided r) → IsDecision r.claim.verdict
    → IsNegotiatedAt b (slice_index_or ss k d) r.claim.verdict
