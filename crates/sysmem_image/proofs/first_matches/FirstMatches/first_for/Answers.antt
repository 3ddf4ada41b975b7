use Rattle.sysmem_image.proofs.Slots.{first_of_four}
use Rattle.sysmem_image.proofs.first_matches.FirstMatches.first_for.Goals as goal

pub returns : goal.returns
returns c colour =
    rw (c.min.ensures, c.min-named.ensures, c.min-any.ensures)
    (first_of_four c.args.self.now c.args.pair colour _ _ _ _ c.first_with.ensures c.first_with-2.ensures c.first_with-3.ensures c.first_with-4.ensures)
