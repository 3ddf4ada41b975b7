-- Names of a collection's nodes.
use Rattle.std.specs.Prelude.{◌≡◌, ◌⊎◌, ℕ, ◌≤◌, List, length}
use Rattle.node_names.specs.declared.names.Unnamed.{Unnamed}
use Rattle.node_names.specs.Refused.{IsRefused}
use Rattle.live_book.specs.declared.naming.Misnamed.{Misnamed}
use Rattle.live_book.specs.declared.naming.Misnamed.TheVariants.{NoNode, Unnamed as of}
use Rattle.live_book.specs.Collection.{CollectionFacts}

-- a node isn't given a name: it is the root, or there is no such node, or by the names
abbrev pub IsMisnamed : CollectionFacts → ℕ → List ℕ → Misnamed → Type 0
IsMisnamed c k name NoNode = (k ≡ 0) ⊎ (length c.book.state.tree.nodes ≤ k)
IsMisnamed c k name (of why) = IsRefused c.names k name why
