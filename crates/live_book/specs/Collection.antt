-- A live collection.
use Rattle.std.specs.Prelude.{List, []}
use Rattle.node_limits.specs.declared.limits.Limits.{Limits}
use Rattle.node_limits.specs.Limits.{no_limits}
use Rattle.node_names.specs.Names.{NamedNode}
use Rattle.sysmem_alloc.specs.Book.{BookFacts, new_book}
use Rattle.negotiation_inputs.specs.Platform.{PlatformFacts}

-- its book, the limits that a host gave it, and the names that nodes were given
pub record CollectionFacts : Type 0 where
  pub book : BookFacts
  pub limits : Limits
  pub names : List NamedNode

-- the collection of a book, without limits and names
abbrev pub collection_of : BookFacts → CollectionFacts
collection_of b = record { book = b; limits = no_limits; names = [] }

-- a new collection with limits
abbrev pub new_within : Limits → PlatformFacts → CollectionFacts
new_within limits platform = record { book = new_book platform; limits = limits; names = [] }

-- the collection with another book
abbrev pub with_book : CollectionFacts → BookFacts → CollectionFacts
with_book c book = record { book = book; limits = c.limits; names = c.names }

-- the collection with other names
abbrev pub with_names : CollectionFacts → List NamedNode → CollectionFacts
with_names c names = record { book = c.book; limits = c.limits; names = names }
