-- Of the domain's list.
use Rattle.std.proofs.Common.{◌∙◌, ap, refl}
use Rattle.live_script.specs.Refusing.{asking_in, who_starves}
use Rattle.sysmem_tree.specs.Domain.{TreeFacts}
use Rattle.live_script.proofs.refusal.tell.Goals as goal

pub returns-in-Ok : goal.returns-in-Ok
returns-in-Ok c = c.tell_list.ensures c.args.domain (c.deref.ensures.value ∙ (c.in-Ok.ensures.numbers ∙ ap (λ (t : TreeFacts). asking_in t.nodes c.args.domain) c.tree.ensures))

pub returns-in-Err : goal.returns-in-Err
returns-in-Err c = who_starves refl
