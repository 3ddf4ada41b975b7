use Rattle.std.proofs.Common.{◌++◌, ◌∷◌, [], ap, ap₂, ◌∙◌, rules}
use Rattle.json.proofs.Printed.Decimals.{IsNumber-decimal}
use Rattle.certificate_text.proofs.LineText.{split_put}
use Rattle.certificate_text.proofs.text.push_split.Goals as goal

pub returns-clause-text : goal.returns-clause-text
returns-clause-text c =
    c.in_ok-push.ensures.items
    ∙ ap (λ s. s ++ 125 ∷ []) (c.in_ok-extend_from_slice-2.ensures.items
    ∙ ap₂ (λ s t. s ++ t) c.in_ok-extend_from_slice.ensures.items (c.as_bytes.ensures.value ∙ c.format.ensures.text))
    ∙ split_put c.args.out.now.items c.args.children

pub returns-clause-numbers : goal.returns-clause-numbers
returns-clause-numbers c = (IsNumber-decimal c.args.children (search rules), tt)

pub returns-in_err-extend_from_slice-clause-numbers : goal.returns-in_err-extend_from_slice-clause-numbers
returns-in_err-extend_from_slice-clause-numbers c = (IsNumber-decimal c.args.children (search rules), tt)

pub returns-in_err-extend_from_slice-2-clause-numbers : goal.returns-in_err-extend_from_slice-2-clause-numbers
returns-in_err-extend_from_slice-2-clause-numbers c = (IsNumber-decimal c.args.children (search rules), tt)

pub returns-in_err-push-clause-numbers : goal.returns-in_err-push-clause-numbers
returns-in_err-push-clause-numbers c = (IsNumber-decimal c.args.children (search rules), tt)
