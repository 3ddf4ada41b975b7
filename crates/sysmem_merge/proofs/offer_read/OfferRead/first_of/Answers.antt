use Rattle.std.proofs.Common.{arith, ◌≡◌, Some, slice_get, sym, subst, below_more}
use Rattle.std.proofs.lemmas.Option.{slice_get-get_or, get_or_from_slice_get}
use Rattle.sysmem_counts.specs.declared.field.Field.{Field}
use Rattle.sysmem_counts.specs.declared.field.Field.TheVariants.{Usage}
use Rattle.sysmem_merge.specs.OfferRead.{IsRefusingLine}
use Rattle.sysmem_merge.proofs.OfferReading.{first_at}
use Rattle.sysmem_merge.proofs.offer_read.OfferRead.first_of.Goals as goal

pub returns-then-is_refusing-clause-first : goal.returns-then-is_refusing-clause-first
returns-then-is_refusing-clause-first c = λ o ds read.
    first_at (IsRefusingLine c.args.whole o ds) c.args.lines.now c.loop-field.field-index _ (slice_get-get_or c.args.lines.now c.loop-field.field-index Usage (omega arith))
    ((c.is_refusing.ensures o ds read).0 c.if-is_refusing.true) (c.loop-field.invariant o ds read)

pub loop-field-preserved : goal.loop-field-preserved
loop-field-preserved c = λ o ds read k other below here.
    below_more (λ j. (p : Field) → slice_get c.args.lines.now j ≡ Some p → ¬ IsRefusingLine c.args.whole o ds p) c.loop-field.field-index
    (λ j before p there. c.loop-field.invariant o ds read j p before there)
    (λ p there line. cc (
      (c.is_refusing.ensures o ds read).1 (subst (IsRefusingLine c.args.whole o ds) (sym (get_or_from_slice_get c.args.lines.now c.loop-field.field-index p Usage there)) line),
      c.if-is_refusing.false,
    ))
    k below other here

pub returns-clause-none : goal.returns-clause-none
returns-clause-none c = λ o ds read k d below line.
    c.loop-field.invariant o ds read k _ (omega (arith, below)) (slice_get-get_or c.args.lines.now k d below) line
