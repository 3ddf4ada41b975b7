-- How a script stands: its collection, and what its names stand for.
use Rattle.std.specs.Prelude.{◌≡◌, ℕ, ◌++◌, List, [], ◌∷◌, Bool, false, Option, Some}
use Rattle.std.specs.Prelude.{None, slice_get, unwrap_or}
use Rattle.sysmem_alloc.specs.Entry.{BookEntry}
use Rattle.sysmem_alloc.specs.History.{after_entry}
use Rattle.sysmem_alloc.specs.State.{State as BookState}
use Rattle.sysmem_alloc.specs.State as books
use Rattle.negotiation_inputs.specs.Platform.{PlatformFacts}
use Rattle.sysmem_tree.specs.Domain.{TreeFacts}
use Rattle.sysmem_tree.specs.Node.{NodeFacts}
use Rattle.sysmem_tree.specs.Nodes.{HasNode}
use Rattle.script_reading.specs.Call.{ActFacts, name_made}
use Rattle.script_reading.specs.Script.{CallFacts}

-- the platform; how the collection stands, without what proves its decisions; for each name, in the
-- order of the calls that make one, the node that it names, or None where that call was not made;
-- and whether memory was refused so far
pub record RunState : Type 0 where
  pub platform : PlatformFacts
  pub book : BookState
  pub names : List (Option ℕ)
  pub starved : Bool

-- the tree of its collection
abbrev pub collection_tree : RunState → TreeFacts
collection_tree s = s.book.tree

-- a new collection, with the root token under its name
abbrev pub first_run_state : PlatformFacts → RunState
first_run_state platform =
    record { platform = platform; book = books.first_state; names = Some 0 ∷ []; starved = false }

-- the node that the call's name stands for, or None where the call that makes it was not made
abbrev pub node_named : RunState → CallFacts → Option ℕ
node_named s r = unwrap_or (slice_get s.names r.place) None

-- what the name that an act makes stands for, if it makes one
abbrev pub if_named : Option (List ℕ) → Option ℕ → List (Option ℕ)
if_named (Some name) made = made ∷ []
if_named None made = []

abbrev pub names_given : ActFacts → Option ℕ → List (Option ℕ)
names_given act made = if_named (name_made act) made

-- a call was not made: the name that it would have given stands for no node
abbrev pub unmade : RunState → ActFacts → RunState
unmade s act = record s { names = s.names ++ names_given act None }

-- an accepted action was entered, and its name stands for this node
abbrev pub acted : RunState → ActFacts → BookEntry → ℕ → RunState
acted s act entry made =
    record s { book = after_entry s.book entry; names = s.names ++ names_given act (Some made) }

-- each name that stands for a node stands for one of the tree's
abbrev pub AreThere : List NodeFacts → List (Option ℕ) → Type 0
AreThere nodes names = (place k : ℕ) → slice_get names place ≡ Some (Some k) → HasNode nodes k
