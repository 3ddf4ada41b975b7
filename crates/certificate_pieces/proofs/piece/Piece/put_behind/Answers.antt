use Rattle.std.proofs.Common.{◌≡◌, ◌++◌, [], ap, sym, ◌∙◌, append-nil}
use Rattle.certificate_pieces.proofs.ToldLemmas.{told_failed, told_full, told_then, told_write}
use Rattle.certificate_pieces.proofs.piece.Piece.put_behind.Goals as goal

pub returns-then-self : goal.returns-then-self
returns-then-self g c = told_then c.write.ensures.told (told_failed _ _ _ c.if-self.true c.args.bytes.now)

pub returns : goal.returns
returns g c =
    let bytes = c.args.bytes.now in
    let none : c.takes.new.self.waiting.items ≡ [] = c.takes.ensures.full c.if-takes.false ∙ c.write.ensures.none in
    told_then c.write.ensures.told (told_then (told_full _ _ _ c.takes.result c.takes.new.self bytes c.if-takes.false c.if-self.false c.takes.ensures)
    (told_write _ _ _ _ c.takes.new.self _ bytes bytes (c.takes.ensures.same ∙ c.if-self.false) (ap (λ s. s ++ bytes) none ∙ sym (ap (λ s. bytes ++ s) none ∙ append-nil bytes)) c.write_fully.result
    c.is_err-self.ensures.value c.write_fully.ensures.written c.write_fully.ensures.front c.write_fully.ensures.worked c.write_fully.ensures.failed))
