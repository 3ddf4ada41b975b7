use Rattle.std.proofs.Common.{◌∙◌}
use Rattle.certificate_text.proofs.Putting.{token, finished}
use Rattle.certificate_text.proofs.writer.CertificateWriter.finish.Goals as goal

pub returns : goal.returns
returns c decisions taken =
    let here = rw (← c.self.view_is) at taken in
    c.in_ok-push.ensures.items ∙ finished _ _ decisions _ here (token _ _ _ c.in_ok-end_array.ensures) c.in_ok-text.ensures
