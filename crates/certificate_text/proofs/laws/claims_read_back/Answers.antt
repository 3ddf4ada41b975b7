use Rattle.certificate_text.proofs.ClaimsBack.{claim_back}
use Rattle.certificate_text.proofs.laws.claims_read_back.Goals as goal

pub returns : goal.returns
returns c = λ platform path verdict proof is steps can. claim_back platform path verdict proof is.distinct_heaps steps can
