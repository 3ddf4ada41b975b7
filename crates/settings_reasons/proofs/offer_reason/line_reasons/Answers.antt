-- The lines on the image, or else what nobody names.
use Rattle.std.proofs.Common.{arith}
use Rattle.std.proofs.lemmas.Result.{IfOk-weaker}
use Rattle.settings_reasons.proofs.Offers.{are_else, are_these}
use Rattle.settings_reasons.proofs.offer_reason.line_reasons.Goals as goal

pub returns-then-not-is_empty : goal.returns-then-not-is_empty
returns-then-not-is_empty c = record {
  lines = c.in_ok-reasons.reasons.items;
  are_true = c.in_ok-reasons.ensures;
  told = are_these c.in_ok-reasons.reasons.items _ (grind (arith, c.is_empty.ensures, c.if-not-is_empty.true, c.in_ok-reasons.reasons.ok.0));
}

pub returns : goal.returns
returns c = IfOk-weaker c.true_lines-2.result _ _
    (λ reasons unnamed. record {
      lines = c.in_ok-reasons.reasons.items;
      are_true = c.in_ok-reasons.ensures;
      told = are_else c.in_ok-reasons.reasons.items reasons.items _ (grind (arith, c.is_empty.ensures, c.if-not-is_empty.false, c.in_ok-reasons.reasons.ok.0)) unnamed;
    })
    c.true_lines-2.ensures
