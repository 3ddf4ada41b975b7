-- Why a node isn't given a name.
use Rattle.std.specs.Prelude.{◌≡◌, ℕ, List, true, false}
use Rattle.node_names.specs.declared.names.Unnamed.{Unnamed}
use Rattle.node_names.specs.declared.names.Unnamed.TheVariants.{NoName, Taken, NoMemory}
use Rattle.node_names.specs.Names.{NamedNode, is_name, is_taken}

-- it is none, or another node has it, where memory wasn't refused
abbrev pub IsRefused : List NamedNode → ℕ → List ℕ → Unnamed → Type 0
IsRefused ns k name NoName = is_name name ≡ false
IsRefused ns k name Taken = is_taken ns k name ≡ true
IsRefused ns k name NoMemory = Unit {0}
