use Rattle.std.proofs.Common.{[]}
use Rattle.certificate_pieces.proofs.decision.text_of.Goals as goal

pub returns : goal.returns
returns c = c.finish.ensures _ (c.in_ok-put_verdict.ensures [] c.in_ok-writer.ensures)
