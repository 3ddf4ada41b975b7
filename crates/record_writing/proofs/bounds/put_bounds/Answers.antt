-- Each bound was put as a number of its type.
use Rattle.sysmem_image.proofs.CallerLemmas.{in_range_by}
use Rattle.record_writing.proofs.bounds.put_bounds.Goals as goal

pub returns-clause-in_range : goal.returns-clause-in_range
returns-clause-in_range c =
    in_range_by c.args.bounds.now.asked c.in_ok-put_size.ensures.small c.in_ok-put_size-2.ensures.small c.in_ok-put_size-3.ensures.small c.in_ok-put_count.ensures.small c.in_ok-put_count-2.ensures.small
    c.in_ok-put_count-3.ensures.small c.in_ok-put_count-4.ensures.small c.in_ok-put_size-4.ensures.small c.in_ok-put_size-5.ensures.small c.in_ok-put_size-6.ensures.small c.in_ok-put_number.ensures.small
