-- Where in a history the actions on each node are.
use Rattle.std.specs.Prelude.{◌≡◌, ◌≤◌, ◌<◌, ◌++◌, ℕ, List, Some, get_or, length, replicate, slice_get, take}
use Rattle.sysmem_alloc.specs.Entry.{BookEntry, Acted}
use Rattle.sysmem_tree.specs.ActionKind.{Deed, duplicates}
use Rattle.sysmem_room.specs.declared.places.Places.{Places}
use Rattle.sysmem_room.specs.Agreeing.{book_log}
use Rattle.sysmem_tree.specs.declared.tree.TheConstants.{MOST_NODES}

-- the first p entries have all actions on node i that the entries have
pub record HasAllOf (es : List BookEntry) (i p : ℕ) : Type 0 where
  pub within : p ≤ length es
  pub log : book_log (take p es) i ≡ book_log es i

-- what the entries have on node i is what the first p of them have, and then so many duplicates
pub record EndsWith (es : List BookEntry) (i p many : ℕ) : Type 0 where
  pub within : p ≤ length es
  pub few : many ≤ length es
  pub log : book_log es i ≡ book_log (take p es) i ++ replicate many duplicates

-- up to the last place of a node a history has all actions on it, and up to the place before an
-- action all earlier ones on the action's node; after the place of the last action that is no
-- duplicate there are as many duplicates as are counted
pub record ArePlaces (es : List BookEntry) (places : Places) : Type 0 where
  pub nodes : length places.last ≡ MOST_NODES
  pub entries : length places.before ≡ 640
  pub others : length places.other ≡ MOST_NODES
  pub counts : length places.duplicates ≡ MOST_NODES
  pub last : (i : ℕ) → i < MOST_NODES → HasAllOf es i (get_or places.last i 0)
  pub before : (k i : ℕ) (deed : Deed) → slice_get es k ≡ Some (Acted i deed)
      → HasAllOf (take k es) i (get_or places.before k 0)
  pub end : (i : ℕ) → i < MOST_NODES
      → EndsWith es i (get_or places.other i 0) (get_or places.duplicates i 0)
