-- How calls that ask a collection end.
use Rattle.std.specs.Prelude.{◌≡◌, ℕ, List, Option, Some, Ok, Err}
use Rattle.caller_buffers.specs.Filled.{Fits}
use Rattle.flat_negotiation.specs.declared.flat.FlatSettings.{FlatSettings}
use Rattle.live_book.specs.declared.object.Object.{Object}
use Rattle.live_book.specs.declared.object.Object.TheVariants.{Collection}
use Rattle.live_book.specs.Checked.{selection_at_node, settings_at_node}
use Rattle.live_book.specs.Collection.{CollectionFacts}
use Rattle.live_calls.specs.Behind.{IsNoCollection}
use Rattle.live_calls.specs.Numbers.{status_of}
use Rattle.live_calls.specs.Settings.{IsShown}
use Rattle.sysmem_merge.specs.declared.settings.Settings.{Settings}
use Rattle.sysmem_tree.specs.declared.refusal.Refusal.{Refusal}

-- node k of what lies behind a handle is told its settings, or why it has none
pub data Checks (k : ℕ) (behind : Option Object) (old new : FlatSettings) : ℕ → Type 0 where
  shows : (c : CollectionFacts) (s : Settings) → behind ≡ Some (Collection c)
      → settings_at_node c.book.state k ≡ Ok s
      → IsShown c.book.platform old.struct_size s new → Checks k behind old new 0
  check_denies : (c : CollectionFacts) (refusal : Refusal) → behind ≡ Some (Collection c)
      → settings_at_node c.book.state k ≡ Err refusal → new ≡ old
      → Checks k behind old new (status_of refusal)
  check_misused : IsNoCollection behind → new ≡ old → Checks k behind old new 2

-- the choices of the selection that was chosen for the domain of node k are told, or why there are
-- none, and then nothing is written
pub data TellsSelection (k : ℕ) (behind : Option Object) (before after : List ℕ)
    (old_size size : ℕ) : ℕ → Type 0 where
  tells_selection : (c : CollectionFacts) (choices : List ℕ) (r : ℕ)
      → behind ≡ Some (Collection c)
      → selection_at_node c.book.state k ≡ Ok choices → Fits choices before after size r
      → TellsSelection k behind before after old_size size r
  selection_denies : (c : CollectionFacts) (refusal : Refusal) → behind ≡ Some (Collection c)
      → selection_at_node c.book.state k ≡ Err refusal → size ≡ old_size → after ≡ before
      → TellsSelection k behind before after old_size size (status_of refusal)
  selection_misused : IsNoCollection behind → size ≡ old_size → after ≡ before
      → TellsSelection k behind before after old_size size 2
