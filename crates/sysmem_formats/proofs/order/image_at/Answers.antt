use Rattle.std.proofs.Common.{arith, sym}
use Rattle.sysmem_formats.proofs.Places.{slice_get-images_some, slice_get-images_none, slice_get-images_empty}
use Rattle.sysmem_formats.proofs.order.image_at.Goals as goal

pub returns-then-count-eq0 : goal.returns-then-count-eq0
returns-then-count-eq0 c = sym (slice_get-images_empty c.args.pairs.now c.args.colours.now c.args.index (omega arith))

pub returns-then-place-pairs : goal.returns-then-place-pairs
returns-then-place-pairs c = sym (slice_get-images_none c.args.pairs.now c.args.colours.now c.args.index (omega arith) (omega arith))

pub returns : goal.returns
returns c = slice_get-images_some c.args.pairs.now c.args.colours.now c.args.index _ _ (omega arith) (omega arith)
