use Rattle.std.proofs.Common.{◌≡◌, ◌≤◌, true, Some, string_bytes, sym, ap, ◌∙◌, arith, rules}
use Rattle.serde_json.specs.Data.{depth}
use Rattle.serde_json.specs.Read.{max_depth, read}
use Rattle.serde_json.specs.View.{view}
use Rattle.explanation_text.proofs.Followed.{flat_number, number_alone}
use Rattle.explanation_text.proofs.Spelling.{ok_map}
use Rattle.explanation_text.proofs.places.spelling.follow_number.Goals as goal

pub returns-then-eq : goal.returns-then-eq
returns-then-eq c =
    let flat = flat_number c.args.known.now c.in-Number.field-0 c.in-Number.is in
    let same : string_bytes c.in_ok-written.written ≡ c.args.text.now = search rules in
    number_alone c.args.text.now (view c.args.known.now) c.requires (ap read (sym same) ∙ c.in_ok-written.ensures.reads_back flat)

pub returns : goal.returns
returns c =
    let flat = flat_number c.args.known.now c.in-Number.field-0 c.in-Number.is in
    let same : c.as_bytes.result.now ≡ c.args.text.now = search rules in
    ok_map c.stray_if.result
    (λ passed.
    let is : c.in_ok-spells_anew.field-0 ≡ true = grind (arith, passed) in
    number_alone c.args.text.now (view c.args.known.now) c.requires (ap read (sym same) ∙ c.in_ok-spells_anew.ensures is flat))
    c.stray_if.ensures
