use Rattle.std.proofs.Common.{◌↔◌, IsTrue, arith, ap, nat_lt, subst, sym}
use Rattle.list_lemmas.proofs.CallerLemmas.{decides_below}
use Rattle.sysmem_counts.specs.Counts.{IsCountLine}
use Rattle.sysmem_counts.specs.declared.field.Field.TheVariants.{MaxBufferCount}
use Rattle.sysmem_counts.proofs.Counts.{needs_above}
use Rattle.sysmem_counts.proofs.bounds.CountBounds.is_line.Goals as goal

pub returns-in-MaxBufferCount : goal.returns-in-MaxBufferCount
returns-in-MaxBufferCount c ps stands =
    let line = needs_above c.args.self.now ps stands in
    let is = c.needed.ensures ps stands in
    let kept = ap (λ t. t.maximum) c.self.view_is in
    subst (λ field. IsTrue (nat_lt c.from.result c.needed.result) ↔ IsCountLine field ps) (sym c.in-MaxBufferCount.is)
    (decides_below c.from.result c.needed.result (IsCountLine MaxBufferCount ps)
    (λ below. line.0 (omega (arith, below, is, kept, c.from.ensures)), λ one. omega (arith, line.1 one, is, kept, c.from.ensures)))
