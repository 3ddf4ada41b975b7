use Rattle.certificate_text.proofs.Putting.{then, token, last}
use Rattle.certificate_text.proofs.settings.put_names.Goals as goal

pub returns : goal.returns
returns c =
    let colour = rw c.name.ensures at c.in_ok-put_text.ensures in
    let format = rw (c.name-2.ensures, c.name-3.ensures) at c.in_ok-put_text-2.ensures in
    let modifier = rw (c.name-4.ensures, c.name-5.ensures) at c.in_ok-put_text-3.ensures in
    then _ _ _ _ _ _ (token _ _ _ c.in_ok-begin_object.ensures) (then _ _ _ _ _ _ colour (then _ _ _ _ _ _ format (then _ _ _ _ _ _ modifier (last _ _ _ _ c.end_object.ensures))))
