-- How the calls of names end.
use Rattle.std.specs.Prelude.{◌≡◌, ◌<◌, ◌≤◌, ℕ, List, length, Option, Some, IsUtf8}
use Rattle.caller_buffers.specs.Filled.{Fits}
use Rattle.live_book.specs.declared.naming.Misnamed.{Misnamed}
use Rattle.live_book.specs.declared.naming.Misnamed.TheVariants.{NoNode, Unnamed as of}
use Rattle.live_book.specs.declared.object.Object.{Object}
use Rattle.live_book.specs.declared.object.Object.TheVariants.{Collection}
use Rattle.live_book.specs.Collection.{CollectionFacts, with_names}
use Rattle.live_book.specs.Naming.{IsMisnamed}
use Rattle.live_calls.specs.Behind.{IsNoCollection}
use Rattle.node_names.specs.Names.{name_of, with_name}
use Rattle.node_names.specs.declared.names.Unnamed.TheVariants.{NoMemory, NoName, Taken}

-- the status of why a node isn't given a name
abbrev pub misname_status : Misnamed → ℕ
misname_status NoNode = 2
misname_status (of NoName) = 3
misname_status (of Taken) = 6
misname_status (of NoMemory) = 4

-- how many nodes a collection has had
abbrev pub nodes_in : CollectionFacts → ℕ
nodes_in c = length c.book.state.tree.nodes

-- node k of what lies behind a handle, which isn't the root, is given a name; or it isn't, and then
-- nothing has changed: for a reason of the names, since the name is no text, or since that is no
-- collection
pub data SetsName (k : ℕ) (name : List ℕ) (before after : Option Object) : ℕ → Type 0 where
  sets_name : (c : CollectionFacts) → before ≡ Some (Collection c) → 1 ≤ k → k < nodes_in c
      → after ≡ Some (Collection (with_names c (with_name c.names k name)))
      → SetsName k name before after 0
  misnames : (c : CollectionFacts) (why : Misnamed) → before ≡ Some (Collection c)
      → IsMisnamed c k name why → after ≡ before → SetsName k name before after (misname_status why)
  is_no_text : ¬ IsUtf8 name → after ≡ before → SetsName k name before after 3
  set_name_misused : IsNoCollection before → after ≡ before → SetsName k name before after 2

-- what node k of what lies behind a handle is called is told; or there is no such node or no
-- collection (2), and then nothing is written; or memory is refused (4)
pub data TellsName (k : ℕ) (behind : Option Object) (before after : List ℕ)
    (old_size size : ℕ) : ℕ → Type 0 where
  tells_name : (c : CollectionFacts) (r : ℕ) → behind ≡ Some (Collection c) → k < nodes_in c
      → Fits (name_of c.names k) before after size r → TellsName k behind before after old_size size r
  name_starves : (c : CollectionFacts) → behind ≡ Some (Collection c) → k < nodes_in c
      → size ≡ 0 → after ≡ before → TellsName k behind before after old_size size 4
  has_no_node : (c : CollectionFacts) → behind ≡ Some (Collection c) → nodes_in c ≤ k
      → size ≡ old_size → after ≡ before → TellsName k behind before after old_size size 2
  name_misused : IsNoCollection behind → size ≡ old_size → after ≡ before
      → TellsName k behind before after old_size size 2
