-- For private clauses: how the calls of a history are told.
use Rattle.std.specs.Prelude.{◌≡◌, ℕ, List, [], ◌∷◌, Ok, IfSome}
use Rattle.std.specs.List.{AllByRecursion}
use Rattle.live_book.specs.Snapshot.{SnapshotFacts}
use Rattle.live_script.specs.Script.{asked_by, calls_told, nodes_then}
use Rattle.record_laws.specs.Sparse.{participant_written}
use Rattle.record_reading.specs.Reading.{participant_of}
use Rattle.script_writing.specs.Script.{Begun, HasTaken}
use Rattle.sysmem_alloc.specs.Entry.{BookEntry, Acted, Decided}
use Rattle.sysmem_tree.specs.Domain.{HasDomain}
use Rattle.sysmem_tree.specs.Node.{NodeFacts}
use Rattle.sysmem_tree.specs.Nodes.{HasNode}

-- the record of the constraints that an action sets is read as them
abbrev pub IsRead : BookEntry → Type 0
IsRead (Acted k deed) = IfSome (asked_by deed) (λ p. participant_of (participant_written p) ≡ Ok p)
IsRead (Decided c) = Unit {0}

-- the node of an action is one of the tree's
abbrev pub HasItsNode : List NodeFacts → BookEntry → Type 0
HasItsNode nodes (Acted k deed) = HasNode nodes k
HasItsNode nodes (Decided c) = Unit {0}

-- the domain of a decision is
abbrev pub HasItsDomain : List NodeFacts → BookEntry → Type 0
HasItsDomain nodes (Acted k deed) = Unit {0}
HasItsDomain nodes (Decided c) = HasDomain nodes c.domain

-- how many nodes there are behind an entry
abbrev pub nodes_behind : ℕ → BookEntry → ℕ
nodes_behind n (Acted k deed) = nodes_then n deed
nodes_behind n (Decided c) = n

-- behind entries
abbrev pub nodes_behind_all : ℕ → List BookEntry → ℕ
nodes_behind_all n [] = n
nodes_behind_all n (e ∷ es) = nodes_behind_all (nodes_behind n e) es

-- a script has the calls of these entries of a history, behind which there are so many nodes
pub record IsToldOf (s : SnapshotFacts) (begun : Begun) (nodes : ℕ) (es : List BookEntry) : Type 0 where
  pub taken : HasTaken begun s.platform (calls_told s.names 1 es)
  pub nodes_are : nodes ≡ nodes_behind_all 1 es
  pub read : AllByRecursion IsRead es
