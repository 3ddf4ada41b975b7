use Rattle.certificate_text.proofs.Putting.{then, token, last}
use Rattle.certificate_text.proofs.bounds.put_size.Goals as goal

pub returns : goal.returns
returns c =
    then _ _ _ _ _ _ (token _ _ _ c.in_ok-key.ensures) (then _ _ _ _ _ _ (token _ _ _ c.in_ok-begin_object.ensures) (then _ _ _ _ _ _ c.in_ok-put_side.ensures
    (then _ _ _ _ _ _ c.in_ok-put_side-2.ensures (last _ _ _ _ c.end_object.ensures))))
