-- The last line once more, whose place is put with those known while a byte holds it.
use Rattle.std.proofs.Common.{arith, ◌≡◌, ◌-◌, ◌++◌, [], ◌∷◌, length, slice_get, Some, refl, sym, ap, subst, ◌∙◌}
use Rattle.verdict_claims.proofs.LinesAgain.{none_more, once_more}
use Rattle.verdict_claims.proofs.LinesShared.{no_more_shared}
use Rattle.verdict_claims.proofs.line.Lines.push_again.Goals as goal

pub invariant_of-self-then-at-from : goal.invariant_of-self-then-at-from
invariant_of-self-then-at-from c =
    let is : slice_get c.self.inside.lines.items (length c.self.inside.lines.items - 1) ≡ Some c.in-Some.last.now =
    subst (λ ls. slice_get ls (length ls - 1) ≡ Some c.in-Some.last.now) c.deref.ensures.value (sym c.in-Some.ensures.value) in
    let more = c.in_ok-push.ensures.items ∙ ap (λ l. c.self.inside.lines.items ++ l ∷ []) c.in_ok-line.ensures in (
      once_more c.self.inside.lines.items _ c.in-Some.last.now c.self.inside.again.items _ _ _ is more
          c.in_ok-reserve.ensures.items c.push_reserved.ensures.items (omega (arith, c.if-at-from.true, c.from.ensures, c.len-at.ensures, c.self.inside.lines.ok)) c.self.invariant.0,
      no_more_shared c.self.inside.lines.items _ (c.in-Some.last.now ∷ []) c.self.inside.shared.items _ more refl c.self.invariant.1,
    )

pub invariant_of-self-else-at-from : goal.invariant_of-self-else-at-from
invariant_of-self-else-at-from c =
    let more = c.in_ok-push.ensures.items ∙ ap (λ l. c.self.inside.lines.items ++ l ∷ []) c.in_ok-line.ensures in (
      none_more c.self.inside.lines.items _ c.in-Some.last.now c.self.inside.again.items _ more c.in_ok-reserve.ensures.items c.self.invariant.0,
      no_more_shared c.self.inside.lines.items _ (c.in-Some.last.now ∷ []) c.self.inside.shared.items _ more refl c.self.invariant.1,
    )
