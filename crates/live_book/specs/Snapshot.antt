-- A copy of a collection.
use Rattle.std.specs.Prelude.{◌≡◌, ◌++◌, List, [], ◌∷◌, None}
use Rattle.std.specs.List.{AllByRecursion}
use Rattle.book_events.specs.declared.entry.Entry.{Entry}
use Rattle.book_events.specs.declared.entry.Entry.TheVariants as entries
use Rattle.node_names.specs.Names.{NamedNode}
use Rattle.sysmem_alloc.specs.Book.{BookFacts}
use Rattle.sysmem_alloc.specs.Entry.{BookEntry, Acted, Decided}
use Rattle.sysmem_alloc.specs.History.{IsLegal, replay}
use Rattle.sysmem_alloc.specs.State.{next_ready}
use Rattle.negotiation_inputs.specs.Platform.{PlatformFacts}
use Rattle.sysmem_tree.specs.Domain.{TreeFacts}
use Rattle.live_book.specs.Collection.{CollectionFacts}
use Rattle.live_book.specs.Eager.{IsEager}

-- the platform, the tree, the history, the oldest entry first, and the names
pub record SnapshotFacts : Type 0 where
  pub platform : PlatformFacts
  pub tree : TreeFacts
  pub history : List BookEntry
  pub names : List NamedNode

-- a legal history in which no action was made while a domain waited, and behind which none waits
pub record IsSettled (platform : PlatformFacts) (es : List BookEntry) : Type 0 where
  pub legal : IsLegal platform es
  pub eager : IsEager es
  pub idle : next_ready (replay es) ≡ None

-- a tree is that to which a history has led, with what was entered later
pub record HasLedTo (platform : PlatformFacts) (es : List BookEntry) (t : TreeFacts) : Type 0 where
  pub later : List BookEntry
  pub legal : IsLegal platform (es ++ later)
  pub is : t ≡ (replay (es ++ later)).tree

-- what is true of each copy of a collection
pub record IsSnapshot (platform : PlatformFacts) (t : TreeFacts) (es : List BookEntry) : Type 0 where
  pub settled : IsSettled platform es
  pub led : HasLedTo platform es t

abbrev pub IsDecision : BookEntry → Type 0
IsDecision (Acted k deed) = ⊥
IsDecision (Decided c) = Unit {0}

-- at most one action, and decisions behind it
abbrev pub IsOneCall : List BookEntry → Type 0
IsOneCall [] = Unit {0}
IsOneCall (e ∷ es) = AllByRecursion IsDecision es

-- of a book the history as of the last moment when no domain waited: while one waits, it lacks the
-- last action and the decisions behind that
pub record IsSettledPart (b : BookFacts) (es : List BookEntry) : Type 0 where
  pub later : List BookEntry
  pub split : b.history ≡ es ++ later
  pub one_call : IsOneCall later
  pub all : next_ready b.state ≡ None → later ≡ []
  pub settled : IsSettled b.platform es

-- a copy of a collection, with that part of its history
pub record IsCopyOf (c : CollectionFacts) (s : SnapshotFacts) : Type 0 where
  pub platform : s.platform ≡ c.book.platform
  pub tree : s.tree ≡ c.book.state.tree
  pub names : s.names ≡ c.names
  pub part : IsSettledPart c.book s.history

-- an entry as it is kept is a decision
abbrev pub IsKeptDecision : Entry → Type 0
IsKeptDecision (entries.Acted node _) = ⊥
IsKeptDecision (entries.Decided domain claim) = Unit {0}

-- or an action
abbrev pub IsKeptAction : Entry → Type 0
IsKeptAction (entries.Acted node _) = Unit {0}
IsKeptAction (entries.Decided domain claim) = ⊥
