use Rattle.std.proofs.lemmas.Result.{err_from_is_err_and}
use Rattle.sysmem_image.specs.declared.size.Corner.{Corner}
use Rattle.sysmem_image.proofs.Smaller.{corner_from, area_from}
use Rattle.sysmem_image.proofs.smallest.corner_of.Goals as goal

pub returns-clause-corner : goal.returns-clause-corner
returns-clause-corner c =
    let k : Corner = record {
      width = c.in_ok-width.width;
      height = c.in_ok-width.height;
      bytes_per_row = c.in_ok-bytes_per_row.bytes_per_row;
      bytes = c.image_bytes-bytes.result;
    } in
    let long = rw c.row_bytes.ensures.value at c.in_ok-bytes_per_row.ensures.ok in
    corner_from c.args.offer.now c.args.bounds.now k
    c.in_ok-width.ensures.sides long c.in_ok-bytes_per_row.ensures.within (c.is_area_up_to-small.ensures.0 c.if-not-small.false) c.image_bytes-bytes.ensures

pub returns-in_err-bytes_per_row-clause-earlier : goal.returns-in_err-bytes_per_row-clause-earlier
returns-in_err-bytes_per_row-clause-earlier c =
    let p = err_from_is_err_and c.from_residual-in_err-bytes_per_row.result c.from_residual-in_err-bytes_per_row.ensures.1 in
    let required = c.is_size_up_to-required.ensures.0 c.if-not-required.false in
    let small = c.is_area_up_to-small.ensures.0 c.if-not-small.false in
    rw (p.1, p.2, c.in_err-bytes_per_row.ensures.named) (required, area_from c.args.bounds.now c.in_ok-width.width c.in_ok-width.height c.in_ok-width.ensures.sides small)
