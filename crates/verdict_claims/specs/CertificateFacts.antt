-- What a certificate gives.
use Rattle.std.specs.Prelude.{List}
use Rattle.verdict_claims.specs.declared.refutation.Item.{Item}
use Rattle.verdict_claims.specs.Line.{LineFacts}

-- what shows that a selection is the first and its settings the best: for each group
-- refutations of the choices before the chosen one, and for each offer and place before the
-- chosen one a line that refuses it
pub record CertificateFacts : Type 0 where
  pub earlier : List (List (List Item))
  pub offers : List LineFacts
  pub places : List LineFacts
