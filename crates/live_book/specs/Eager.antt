-- Histories in which no step is made while a domain waits for a decision.
use Rattle.std.specs.Prelude.{◌≡◌, List, [], ◌∷◌, None}
use Rattle.sysmem_alloc.specs.Entry.{BookEntry, Acted, Decided}
use Rattle.sysmem_alloc.specs.History.{after_entry}
use Rattle.sysmem_alloc.specs.State.{State, first_state, next_ready}

-- an action is entered where no domain waits
abbrev pub IsPrompt : State → BookEntry → Type 0
IsPrompt s (Acted i deed) = next_ready s ≡ None
IsPrompt s (Decided c) = Unit {0}

-- so is each from this state on
abbrev pub ArePrompt : State → List BookEntry → Type 0
ArePrompt s [] = Unit {0}
ArePrompt s (e ∷ es) = IsPrompt s e × ArePrompt (after_entry s e) es

-- each decision stands right behind what made its domain ready, or behind the decisions before it
abbrev pub IsEager : List BookEntry → Type 0
IsEager es = ArePrompt first_state es
