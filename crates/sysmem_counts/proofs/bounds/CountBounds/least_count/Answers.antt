use Rattle.std.proofs.Common.{arith, List, ap}
use Rattle.sysmem_counts.specs.Bounds.{IsTallyOf}
use Rattle.sysmem_counts.specs.Counts.{needed, IsCountLine, IsCountFault}
use Rattle.sysmem_counts.specs.declared.constraints.CountConstraints.{CountConstraints as Asked}
use Rattle.sysmem_counts.specs.declared.field.Field.TheVariants.{MaxBufferCount, BufferCountLimit}
use Rattle.sysmem_counts.proofs.Counts.{least_needed, line_sound, needs_above, within_maximums}
use Rattle.sysmem_counts.proofs.bounds.CountBounds.least_count.Goals as goal

-- at the first return they need more than a maximum
maximum_passed : (c : goal.Then-needed-from) (ps : List Asked) → IsTallyOf c.args.self.now ps → IsCountLine MaxBufferCount ps
maximum_passed c ps stands = (needs_above c.args.self.now ps stands).0
    (omega (arith, c.needed-needed.ensures ps stands, ap (λ t. t.maximum) c.self.view_is, c.from.ensures, c.if-needed-from.true))

-- at the second no more than the maximums, and more than the limit
limit_passed : (c : goal.Then-needed-from-2) (ps : List Asked) → IsTallyOf c.args.self.now ps → IsCountFault ps BufferCountLimit
limit_passed c ps stands = let is = c.needed-needed.ensures ps stands in (
  within_maximums c.args.self.now ps (needed ps) stands (omega (arith, is, c.from.ensures, c.if-needed-from.false, ap (λ t. t.maximum) c.self.view_is)),
  omega (arith, is, c.from-2.ensures, c.if-needed-from-2.true),
)

pub returns-then-needed-from-clause-cases : goal.returns-then-needed-from-clause-cases
returns-then-needed-from-clause-cases c = maximum_passed c

pub returns-then-needed-from-clause-line : goal.returns-then-needed-from-clause-line
returns-then-needed-from-clause-line c = maximum_passed c

pub returns-then-needed-from-clause-none : goal.returns-then-needed-from-clause-none
returns-then-needed-from-clause-none c ps stands = line_sound MaxBufferCount ps (maximum_passed c ps stands)

pub returns-then-needed-from-2-clause-cases : goal.returns-then-needed-from-2-clause-cases
returns-then-needed-from-2-clause-cases c = limit_passed c

pub returns-then-needed-from-2-clause-none : goal.returns-then-needed-from-2-clause-none
returns-then-needed-from-2-clause-none c ps stands = line_sound BufferCountLimit ps (limit_passed c ps stands).1

-- past both tests, what is needed is the least count
pub returns-clause-cases : goal.returns-clause-cases
returns-clause-cases c ps stands =
    let is = c.needed-needed.ensures ps stands in
    rw is (least_needed ps
    (within_maximums c.args.self.now ps (needed ps) stands (omega (arith, is, c.from.ensures, c.if-needed-from.false, ap (λ t. t.maximum) c.self.view_is)))
    (omega (arith, is, c.from-2.ensures, c.if-needed-from-2.false)))
