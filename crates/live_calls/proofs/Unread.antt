-- How it ends that a record is read.
use Rattle.std.proofs.Common.{◌≡◌, ℕ, inl, inr, List, Option, Result, Ok, Err, refl, subst, sym}
use Rattle.live_book.specs.declared.object.Object.{Object}
use Rattle.live_calls.specs.declared.reading.Unread.{Unread}
use Rattle.live_calls.specs.declared.reading.Unread.TheVariants.{Faulty, NoJson, NoMemory}
use Rattle.live_calls.specs.Reading.{Reads, reads, read_refuses, read_starves, spells_nothing}
use Rattle.live_calls.specs.Unread.{IsRead, IsUnread, TellsUnread}
use Rattle.live_calls.proofs.Endings.{Put}
use Rattle.record_reading.specs.declared.fault.Fault.{Fault}
use Rattle.serde_json.specs.Data.{Data}

pub read_by : {A : Type 0} (stated : Data → Result A Fault) (IsPut : A → Type 0) (bytes : List ℕ) (old new : Option Object) (code : ℕ) (a : A) (r : ℕ) → IsRead stated bytes a → Put r (IsPut a) old new
    → Reads stated IsPut bytes old new code code r
read_by stated IsPut bytes old new code a r (value, (spells, is)) (inl put) = subst (λ k. Reads stated IsPut bytes old new code code k) (sym put.0) (reads value a spells is put.1 refl)
read_by stated IsPut bytes old new code a r is (inr kept) = subst (λ k. Reads stated IsPut bytes old new code code k) (sym kept.0) (read_starves refl kept.1)

pub unread_by : {A : Type 0} (stated : Data → Result A Fault) (IsPut : A → Type 0) (bytes : List ℕ) (held : Option Object) (before after : ℕ) (u : Unread) (r : ℕ) → IsUnread stated bytes u → TellsUnread u before after r
    → Reads stated IsPut bytes held held before after r
unread_by stated IsPut bytes held before after NoMemory r is told = subst (λ k. Reads stated IsPut bytes held held before after k) (sym told.0) (read_starves told.1 refl)
unread_by stated IsPut bytes held before after NoJson r is told = subst (λ k. Reads stated IsPut bytes held held before after k) (sym told.0) (spells_nothing is told.1 refl)
unread_by stated IsPut bytes held before after (Faulty fault) r (value, (spells, is)) told =
    subst (λ k. Reads stated IsPut bytes held held before after k) (sym told.0) (read_refuses value fault spells is told.1 refl)
