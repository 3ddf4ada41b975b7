use Rattle.std.proofs.Common.{ap, ◌++◌, ◌∙◌}
use Rattle.certificate_text.proofs.PutAsText.{whole_text}
use Rattle.certificate_text.proofs.json_writer.Writer.into_inner.Goals as goal

pub returns : goal.returns
returns c =
    let w = c.self.inside in
    c.in_ok-extend_from_slice.ensures.items ∙ ap (λ s. w.done.items ++ s) (c.as_slice.ensures.value ∙ c.into_inner-rest.ensures.items) ∙ whole_text w c.self.invariant _ c.self.view_is
