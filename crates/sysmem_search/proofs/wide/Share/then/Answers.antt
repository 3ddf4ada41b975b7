use Rattle.std.proofs.Common.{sym, subst}
use Rattle.sysmem_search.specs.Wide.{IsFirstIn}
use Rattle.sysmem_search.proofs.Sharing.{then_first}
use Rattle.sysmem_search.proofs.wide.Share.then.Goals as goal

pub returns : goal.returns
returns c = λ m from between to before behind. subst (IsFirstIn m from to) (sym c.or.ensures) (then_first m from between to c.args.self.chosen c.args.next.chosen before behind)
