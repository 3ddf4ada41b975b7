use Rattle.std.proofs.Common.{rules, tests}
use Rattle.std.proofs.lemmas.Iterator.{YieldsList-from_slice}
use Rattle.std.proofs.lemmas.Iterator.Search.{find_from_yields_List}
use Rattle.std.specs.Prelude.{bytes_eq}
use Rattle.list_lemmas.proofs.Each.{found_each}
use Rattle.sysmem_tree.specs.ActionKind.{action_name}
use Rattle.sysmem_tree.specs.declared.action.TheConstants.ActionKind.{ALL}
use Rattle.sysmem_tree.proofs.steps.KindList.{listed_kinds}
use Rattle.sysmem_tree.proofs.action.ActionKind.from_name.Goals as goal

pub returns : goal.returns
returns c =
    let found = find_from_yields_List (λ one. bytes_eq (action_name one) c.args.name.now) _ _ c.find.result c.find.ensures.ran
    (YieldsList-from_slice ALL c.iter.ensures.rest) (λ x b q k. search (rules, tests)) in
    found_each action_name ALL listed_kinds c.args.name.now c.copied.result (search (rules, tests))
