-- What a book keeps.
use Rattle.std.specs.Prelude.{◌≡◌, ◌++◌, ℕ, Bool, false, List, [], ◌∷◌, map, filter, get_or}
use Rattle.std.specs.List.{filter_map}
use Rattle.negotiation_inputs.specs.Platform.{PlatformFacts}
use Rattle.book_events.specs.declared.entry.Entry.{Entry}
use Rattle.sysmem_alloc.specs.Entry.{BookEntry, entry_in, decision_in}
use Rattle.sysmem_alloc.specs.History.{IsLegal, after_entry, replay}
use Rattle.sysmem_alloc.specs.State.{State, first_state, chosen_in, kept_for, open_in}
use Rattle.sysmem_tree.specs.Domain.{TreeFacts}

-- the platform for which it decides, its history, the oldest entry first, and its state
pub record BookFacts : Type 0 where
  pub platform : PlatformFacts
  pub history : List BookEntry
  pub state : State

-- the history is legal, and leads to the state
pub record IsBook (b : BookFacts) : Type 0 where
  pub legal : IsLegal b.platform b.history
  pub replayed : b.state ≡ replay b.history

-- a new book
abbrev pub new_book : PlatformFacts → BookFacts
new_book platform = record { platform = platform; history = []; state = first_state }

-- the book of a history
abbrev pub book_of : PlatformFacts → List BookEntry → BookFacts
book_of platform es = record { platform = platform; history = es; state = replay es }

-- a book with one more entry
abbrev pub entered : BookFacts → BookEntry → BookFacts
entered b e =
    record { platform = b.platform; history = b.history ++ e ∷ []; state = after_entry b.state e }

-- what stands for a book: the tree, the entries as they are kept, the domains that wait, and, as
-- long as one does, which nodes were open when the accepted participants were taken for the first
-- of them; while none waits, those are accepted who are open in the tree
abbrev pub kept_book : PlatformFacts → TreeFacts → List Entry → List ℕ → List Bool → BookFacts
kept_book platform t raw waiting were_open = record {
  platform = platform;
  history = map (entry_in t.nodes) raw;
  state = record {
    tree = t;
    decisions = filter_map decision_in raw;
    waiting = waiting;
    accepted = kept_for waiting
        (filter (λ i. get_or were_open i false) (chosen_in t.nodes (filter_map decision_in raw)))
        (open_in t.nodes (filter_map decision_in raw));
  };
}
