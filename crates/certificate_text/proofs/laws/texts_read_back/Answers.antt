use Rattle.certificate_text.proofs.TextsBack.{texts_back}
use Rattle.certificate_text.proofs.laws.texts_read_back.Goals as goal

pub returns : goal.returns
returns c = texts_back
