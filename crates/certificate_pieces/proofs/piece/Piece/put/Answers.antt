use Rattle.certificate_pieces.proofs.ToldLemmas.{told_failed}
use Rattle.certificate_pieces.proofs.piece.Piece.put.Goals as goal

pub returns-then-self : goal.returns-then-self
returns-then-self g c = told_failed _ _ _ c.if-self.true c.args.bytes.now
