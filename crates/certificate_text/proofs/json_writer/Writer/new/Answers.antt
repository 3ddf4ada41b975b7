use Rattle.std.proofs.Common.{rules}
use Rattle.certificate_text.proofs.PutAsText.{empty, empty_tokens}
use Rattle.certificate_text.proofs.json_writer.Writer.new.Goals as goal

pub invariant_of-result : goal.invariant_of-result
invariant_of-result c = empty _ (search rules) (search rules) (search rules)

pub returns-clause-tokens : goal.returns-clause-tokens
returns-clause-tokens c = empty_tokens (record { done = c.new.result; behind = c.new-3.result }) (search rules) (search rules) (search rules)
