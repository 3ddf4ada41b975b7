use Rattle.std.proofs.Common.{bytes_eq, codes, sym, ap, ◌∙◌}
use Rattle.serde_json.specs.View.{view}
use Rattle.sysmem_counts.specs.Field.{field_name}
use Rattle.certificate_text.proofs.Names.{named_so}
use Rattle.certificate_text.proofs.line.field_behind.Goals as goal

pub returns-in-Some : goal.returns-in-Some
returns-in-Some c =
    let name = c.in_ok-name.name.now in
    let same = c.field.ensures ∙ sym c.field-in-Some.ensures in
    named_so (codes "field") (view c.args.value.now) name c.field-in-Some.result c.in_ok-name.ensures
    (ap (λ n. bytes_eq n name) (sym (c.name.ensures ∙ ap field_name same)) ∙ sym c.eq.ensures ∙ c.if-eq.true)
