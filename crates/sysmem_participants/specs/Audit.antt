-- What stubs and a book say of one another.
use Rattle.std.specs.Prelude.{◌≡◌, ◌<◌, ◌+◌, ◌⊎◌, ℕ, List, [], ◌∷◌, Some, IfSome, codes, length}
use Rattle.std.specs.Prelude.{slice_index_or, sum_by}
use Rattle.sysmem_alloc.specs.Book.{BookFacts}
use Rattle.sysmem_alloc.specs.Entry.{BookEntry, Acted, Decided}
use Rattle.negotiation_inputs.specs.Platform.{PlatformFacts}
use Rattle.sysmem_room.specs.Agreeing.{AgreesAt, IsKnown, book_log}
use Rattle.sysmem_room.specs.Counting.{actions_in}
use Rattle.sysmem_tree.specs.Path.{node_at}
use Rattle.sysmem_participants.specs.declared.faults.Audit.{Audit}
use Rattle.sysmem_participants.specs.declared.faults.AuditFault.{AuditFault}
use Rattle.sysmem_participants.specs.declared.faults.AuditFault.TheVariants as faults
use Rattle.sysmem_participants.specs.Held.{Left}

-- a stub is of node i: it has the path, the actions in their order, and, if it knows a verdict,
-- that of the node's domain
abbrev pub IsOf : BookFacts → Left → ℕ → Type 0
IsOf b s i = AgreesAt b s.path s.deeds s.known i

-- one of the first stubs is of node i
abbrev pub IsAmong : BookFacts → List Left → ℕ → ℕ → Type 0
IsAmong b stubs many i = (k : ℕ) × (k < many) × ((d : Left) → IsOf b (slice_index_or stubs k d) i)

-- how many decisions a history has
abbrev pub decisions_in : List BookEntry → ℕ
decisions_in [] = 0
decisions_in (Acted i deed ∷ es) = decisions_in es
decisions_in (Decided c ∷ es) = 1 + decisions_in es

-- stubs and a book agree: each stub is of a node, each node has a stub, and there are as many of
-- one as of the other
pub record IsAudited (b : BookFacts) (stubs : List Left) (a : Audit) : Type 0 where
  pub each : (k : ℕ) (d : Left) → k < length stubs → (i : ℕ) × IsOf b (slice_index_or stubs k d) i
  pub all : (i : ℕ) → i < length b.state.tree.nodes → IsAmong b stubs (length stubs) i
  pub many : length stubs ≡ length b.state.tree.nodes
  pub nodes : a.nodes ≡ length stubs
  pub actions : a.actions ≡ actions_in b.history
  pub decisions : a.decisions ≡ decisions_in b.history

-- the node at the stub's path, of which this is true
abbrev pub HasAt : BookFacts → Left → (ℕ → Type 0) → Type 0
HasAt b s P = (i : ℕ) × (node_at b.state.tree.nodes s.path ≡ Some i) × P i

-- one of the first stubs is at node i
abbrev pub IsAmongPaths : BookFacts → List Left → ℕ → ℕ → Type 0
IsAmongPaths b stubs many i = (k : ℕ) × (k < many)
    × ((d : Left) → node_at b.state.tree.nodes (slice_index_or stubs k d).path ≡ Some i)

-- there is one stub for each node: each is at a node, each node has one, and there are as many of
-- one as of the other
pub record AreMatched (b : BookFacts) (stubs : List Left) : Type 0 where
  pub each : (k : ℕ) (d : Left) → k < length stubs
      → HasAt b (slice_index_or stubs k d) (λ _. Unit {0})
  pub all : (i : ℕ) → i < length b.state.tree.nodes → IsAmongPaths b stubs (length stubs) i
  pub many : length stubs ≡ length b.state.tree.nodes

-- each stub has the calls of its node
abbrev pub HaveCalls : BookFacts → List Left → Type 0
HaveCalls b stubs = (k : ℕ) (d : Left) → k < length stubs
    → HasAt b (slice_index_or stubs k d)
    (λ i. book_log b.history i ≡ (slice_index_or stubs k d).deeds)

-- each stub has the verdict of its node's domain, where it knows one
abbrev pub HaveVerdicts : BookFacts → List Left → Type 0
HaveVerdicts b stubs = (k : ℕ) (d : Left) → k < length stubs
    → HasAt b (slice_index_or stubs k d) (λ i. IsKnown b i (slice_index_or stubs k d).known)

-- a fault is told exactly where it is there and none that comes before it is
abbrev pub IsFirstFault : BookFacts → List Left → AuditFault → Type 0
IsFirstFault b stubs faults.Stubs = AreMatched b stubs → ⊥
IsFirstFault b stubs faults.Calls = AreMatched b stubs × (HaveCalls b stubs → ⊥)
IsFirstFault b stubs faults.Verdicts =
    AreMatched b stubs × HaveCalls b stubs × (HaveVerdicts b stubs → ⊥)
IsFirstFault b stubs faults.NoMemory = ⊥

-- a stub once its cell was read: what it knew it still knows
pub record IsRead (old new : Left) : Type 0 where
  pub path : new.path ≡ old.path
  pub deeds : new.deeds ≡ old.deeds
  pub cell : new.cell ≡ old.cell
  pub known : IfSome old.known (λ o. new.known ≡ Some o)
  pub platform : new.platform ≡ old.platform

-- stubs once their cells were read
pub record AreRead (old new : List Left) : Type 0 where
  pub many : length new ≡ length old
  pub each : (k : ℕ) (d : Left) → k < length old
      → IsRead (slice_index_or old k d) (slice_index_or new k d)

-- the stubs are of collections for this platform
abbrev pub AreFor : PlatformFacts → List Left → Type 0
AreFor platform stubs = (k : ℕ) (d : Left) → k < length stubs
    → (slice_index_or stubs k d).platform ≡ platform

-- a book and the stubs of its collection agree, once the stubs' cells were read: it is for their
-- platform, and has as many actions as they have together
pub record AgreesWith (b : BookFacts) (stubs : List Left) (a : Audit) : Type 0 where
  pub platform : AreFor b.platform stubs
  pub counted : sum_by (λ (s : Left). length s.deeds) stubs ≡ actions_in b.history
  pub audited : (read : List Left) × AreRead stubs read × IsAudited b read a

-- the first fault of a book and the stubs of its collection: the stubs are for another platform, or
-- for the book's, and of these the fault is the first one
abbrev pub IsFaultOf : BookFacts → List Left → AuditFault → Type 0
IsFaultOf b stubs fault = ((fault ≡ faults.Stubs) × (AreFor b.platform stubs → ⊥))
    ⊎ (AreFor b.platform stubs × IsFirstFault b stubs fault)

-- faults as the program prints them; a want of memory is told as that refusal
abbrev pub fault_text : AuditFault → List ℕ
fault_text faults.Stubs = codes "A1"
fault_text faults.Calls = codes "A3"
fault_text faults.Verdicts = codes "A4"
fault_text faults.NoMemory = codes "E1 NoMemory"
