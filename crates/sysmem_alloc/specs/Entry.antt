-- What a book enters.
use Rattle.std.specs.Prelude.{ℕ, Option, Some, None, option_map, List}
use Rattle.std.specs.Arc.{arc_value}
use Rattle.book_events.specs.declared.entry.Entry.{Entry}
use Rattle.book_events.specs.declared.entry.Entry.TheVariants as entries
use Rattle.sysmem_alloc.specs.Decision.{Claimed, DomainVerdict, answer_of, choices_of}
use Rattle.negotiation_inputs.specs.Participant.{Participant}
use Rattle.verdict_claims.specs.Asked.{asks_at}
use Rattle.sysmem_tree.specs.declared.action.ActionKind.{ActionKind}
use Rattle.sysmem_tree.specs.declared.action.ActionKind.TheVariants as kinds
use Rattle.sysmem_tree.specs.ActionKind.{Deed, duplicates, creates_group, binds, creates_child}
use Rattle.sysmem_tree.specs.ActionKind.{has_all_children, sets, attaches_token, releases, closes}
use Rattle.sysmem_tree.specs.History.{HistoryEntry}
use Rattle.sysmem_tree.specs.History as trees
use Rattle.sysmem_tree.specs.Node.{NodeFacts}

-- an accepted action on a node, or the decision of a domain with its claim
pub data BookEntry : Type 0 where
  Acted : ℕ → Deed → BookEntry
  Decided : Claimed → BookEntry

-- what is in it for the tree
abbrev pub tree_entry : BookEntry → HistoryEntry
tree_entry (Acted i deed) = trees.Acted i deed
tree_entry (Decided c) = trees.Decided c.domain (choices_of (answer_of c).verdict)

-- an action of this kind, where the node has these constraints afterwards
abbrev pub deed_with : Option Participant → ActionKind → Deed
deed_with set kinds.Duplicate = duplicates
deed_with set kinds.CreateGroup = creates_group
deed_with set kinds.Bind = binds
deed_with set kinds.CreateChild = creates_child
deed_with set kinds.AllChildrenPresent = has_all_children
deed_with set kinds.SetConstraints = sets set
deed_with set kinds.AttachToken = attaches_token
deed_with set kinds.Release = releases
deed_with set kinds.Close = closes

-- an entry as it is kept, without the constraints that it set: the tree has them at its node
abbrev pub entry_in : List NodeFacts → Entry → BookEntry
entry_in nodes (entries.Acted i kind) = Acted i (deed_with (asks_at nodes i) kind)
entry_in nodes (entries.Decided r claim) =
    Decided (record { domain = r; claim = option_map (λ shared. arc_value shared) claim })

-- the decision that it is, if it is one, without what proves it
abbrev pub decision_in : Entry → Option DomainVerdict
decision_in (entries.Acted i _) = None
decision_in (entries.Decided r claim) =
    Some (answer_of (record { domain = r; claim = option_map (λ shared. arc_value shared) claim }))
