-- A script is ended.
use Rattle.std.proofs.Common.{◌∙◌, IsUtf8, ap, subst, sym}
use Rattle.std.specs.String.{string_bytes}
use Rattle.script_writing.specs.Script.{Begun}
use Rattle.script_writing.proofs.Growing.{finished}
use Rattle.script_writing.proofs.writer.ScriptWriter.finish.Goals as goal

pub returns : goal.returns
returns c = λ platform calls taken.
    let here = rw (← c.self.view_is) at taken in
    let w : Begun = record { text = string_bytes c.self.inside.text; later = c.self.inside.has_calls } in
    let items = ap (λ v. v.items) c.into_bytes.ensures.value in
    finished w c.into_bytes.result.items platform calls here (items ∙ c.in_ok-push_str.ensures.bytes) (subst IsUtf8 (c.as_str.ensures.value ∙ sym items) c.as_str.utf8)
