-- The list of all kinds of action leaves none out.
use Rattle.std.proofs.Common.{rules}
use Rattle.list_lemmas.specs.Each.{ListsEach}
use Rattle.sysmem_tree.specs.ActionKind.{action_name}
use Rattle.sysmem_tree.specs.declared.action.TheConstants.ActionKind.{ALL}

pub listed_kinds : ListsEach action_name ALL
listed_kinds x = search rules
