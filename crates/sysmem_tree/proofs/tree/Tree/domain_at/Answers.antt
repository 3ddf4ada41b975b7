use Rattle.std.proofs.Common.{◌<◌, ◌∙◌, length, slice_get, refl, sym, ap}
use Rattle.std.proofs.lemmas.Option.{slice_get_read}
use Rattle.sysmem_tree.proofs.domains.Soundness.{read_there}
use Rattle.sysmem_tree.proofs.tree.Tree.domain_at.Goals as goal

pub returns-clause-there : goal.returns-clause-there
returns-clause-there c =
    let read = c.in_ok-domain.ensures.lookup in
    let within : c.args.index < length c.deref.result.now = read.3.0 in
    read_there _ _ c.args.index _ c.self.invariant.0 c.self.view_is
    (ap (λ z. slice_get z c.args.index) (sym c.deref.ensures.value) ∙ slice_get_read c.deref.result.now (length c.deref.result.now) c.args.index _ refl within read.1)
