use Rattle.std.proofs.Common.{◌↔◌, IsTrue, arith, ap, nat_lt, subst, sym}
use Rattle.list_lemmas.proofs.CallerLemmas.{decides_below}
use Rattle.sysmem_counts.specs.Counts.{IsFixedCountLine}
use Rattle.sysmem_counts.specs.declared.field.Field.TheVariants.{MaxBufferCount}
use Rattle.sysmem_counts.proofs.Counts.{above_maximum}
use Rattle.sysmem_counts.proofs.bounds.CountBounds.is_fixed_line.Goals as goal

pub returns-in-MaxBufferCount : goal.returns-in-MaxBufferCount
returns-in-MaxBufferCount c ps stands =
    let line = above_maximum c.args.self.now ps c.args.count stands (omega arith) in
    let kept = ap (λ t. t.maximum) c.self.view_is in
    subst (λ field. IsTrue (nat_lt c.self.inside.maximum c.args.count) ↔ IsFixedCountLine c.args.count field ps) (sym c.in-MaxBufferCount.is)
    (decides_below c.self.inside.maximum c.args.count (IsFixedCountLine c.args.count MaxBufferCount ps)
    (λ below. line.0 (omega (arith, below, kept)), λ one. omega (arith, line.1 one, kept)))
