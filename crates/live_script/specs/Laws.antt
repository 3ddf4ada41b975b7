-- What is true of the scripts of collections.
use Rattle.std.specs.Prelude.{◌≡◌, ℕ, List, true}
use Rattle.live_book.specs.Collection.{CollectionFacts}
use Rattle.live_book.specs.Snapshot.{IsCopyOf, IsSettled, SnapshotFacts}
use Rattle.live_script.specs.Recurring.{Recurs}
use Rattle.live_script.specs.Refusing.{asked_of, is_told}
use Rattle.live_script.specs.Script.{AreCallsOf}
use Rattle.script_reading.specs.Script.{CallFacts}
use Rattle.sysmem_alloc.specs.Book.{IsBook}
use Rattle.sysmem_merge.specs.Best.{IsUnmet}

-- calls that are the actions of a settled history come to what it is of
abbrev pub SettledCallsRecur : Type 0
SettledCallsRecur = (s : SnapshotFacts) (calls : List CallFacts) → IsSettled s.platform s.history
    → AreCallsOf s.names s.history calls → Recurs s calls

-- of a copy of a collection: no settings meet the list of what is asked in a domain of which it is
-- told who is in the way
abbrev pub ToldAreUnmet : Type 0
ToldAreUnmet = (c : CollectionFacts) (s : SnapshotFacts) (r : ℕ) → IsBook c.book → IsCopyOf c s
    → is_told s r ≡ true → IsUnmet true s.platform (asked_of s r)
