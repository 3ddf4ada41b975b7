use Rattle.std.proofs.Common.{◌≡◌, ◌∙◌, ap, ap₂, sym, subst, None, map, string_bytes, [], ◌∷◌, nat_eq, codes, false}
use Rattle.std.specs.List.{starts_with}
use Rattle.clap.specs.Lexer.{strip_byte}
use Rattle.command_line.proofs.Plain.{no_more, plain_of, same_text}
use Rattle.command_line.proofs.words.plain_run.Goals as goal

pub returns : goal.returns
returns c =
    let file = c.as_str-2.ensures.value in
    let job : c.as_str.result.now ≡ codes "run" = same_text _ _ c.if-ne.ensures in
    let rest = no_more c.in_ok-file.rest.now c.if-not-is_empty.ensures in
    let others = c.in_ok-file.ensures.cases.0 ∙ ap (λ r. c.in_ok-file.file.now ∷ r) rest in
    let words = c.in_ok-job.ensures.cases.0 ∙ ap (λ o. c.in_ok-job.job.now ∷ o) others in
    let starts = subst (λ t. starts_with nat_eq t (45 ∷ []) ≡ false) c.as_bytes.ensures.value (sym c.if-starts_with.ensures.value) in
    record {
      two = ap (map string_bytes) words ∙ ap₂ (λ j f. j ∷ f ∷ []) (sym c.as_str.ensures.value ∙ job) (sym file);
      plain = subst (λ t. strip_byte 45 t ≡ None) (sym file) (plain_of (string_bytes c.in_ok-file.file.now) starts);
    }
