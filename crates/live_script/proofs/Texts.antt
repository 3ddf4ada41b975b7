-- How it ends that there is no text.
use Rattle.std.proofs.Common.{◌≡◌, ℕ, List, Option, Some, refl, subst, sym}
use Rattle.live_book.specs.Snapshot.{SnapshotFacts}
use Rattle.live_book.specs.declared.object.Object.{Object}
use Rattle.live_book.specs.declared.object.Object.TheVariants.{Snapshot}
use Rattle.live_script.specs.Texts.{Writes, writes_none, write_starves}
use Rattle.live_script.specs.declared.script.Unwritten.{Unwritten}
use Rattle.live_script.specs.declared.script.Unwritten.TheVariants.{TooLong, NoMemory}

pub not_written : (IsOf : SnapshotFacts → List ℕ → Type 0) (LacksOne : SnapshotFacts → Type 0) (behind : Option Object) (text : List ℕ) (old size : ℕ) (s : SnapshotFacts) (why : Unwritten) (r : ℕ) → behind ≡ Some (Snapshot s)
    → (why ≡ TooLong → LacksOne s) → (why ≡ TooLong → r ≡ 3) → (why ≡ NoMemory → r ≡ 4) → size ≡ 0 → Writes IsOf LacksOne behind text text old size r
not_written IsOf LacksOne behind text old size s TooLong r is lacks none starves zero = subst (Writes IsOf LacksOne behind text text old size) (sym (none refl)) (writes_none s is (lacks refl) zero refl)
not_written IsOf LacksOne behind text old size s NoMemory r is lacks none starves zero = subst (Writes IsOf LacksOne behind text text old size) (sym (starves refl)) (write_starves s is zero refl)
