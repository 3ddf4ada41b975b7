use Rattle.std.proofs.Common.{◌++◌, [], ap₂, sym}
use Rattle.certificate_pieces.proofs.ToldLemmas.{told_write}
use Rattle.certificate_pieces.proofs.piece.Piece.write.Goals as goal

pub returns-clause-told : goal.returns-clause-told
returns-clause-told g c =
    told_write _ _ _ _ c.args.self.now _ c.as_slice.result.now [] c.requires (ap₂ (λ a b. a ++ b) (sym c.as_slice.ensures.value) (sym c.clear.ensures.items)) c.write_fully.result
    c.is_err-self.ensures.value c.write_fully.ensures.written c.write_fully.ensures.front c.write_fully.ensures.worked c.write_fully.ensures.failed
