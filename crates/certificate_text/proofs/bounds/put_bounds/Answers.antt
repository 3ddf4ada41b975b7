use Rattle.certificate_text.proofs.Putting.{then, token, last}
use Rattle.certificate_text.proofs.bounds.put_bounds.Goals as goal

pub returns : goal.returns
returns c =
    then _ _ _ _ _ _ (token _ _ _ c.in_ok-begin_object.ensures)
    (then _ _ _ _ _ _ c.in_ok-put_small.ensures (then _ _ _ _ _ _ c.in_ok-put_sides.ensures (then _ _ _ _ _ _ c.in_ok-put_small-2.ensures (then _ _ _ _ _ _ c.in_ok-put_sides-2.ensures
    (then _ _ _ _ _ _ c.in_ok-put_large.ensures (then _ _ _ _ _ _ c.in_ok-put_small-3.ensures (then _ _ _ _ _ _ c.in_ok-put_sides-3.ensures (then _ _ _ _ _ _ c.in_ok-put_sides-4.ensures
    (then _ _ _ _ _ _ c.in_ok-put_sides-5.ensures (then _ _ _ _ _ _ c.in_ok-put_sides-6.ensures (then _ _ _ _ _ _ c.in_ok-put_small-4.ensures (last _ _ _ _ c.end_object.ensures))))))))))))
