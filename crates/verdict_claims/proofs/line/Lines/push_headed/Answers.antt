-- A line with the paths of an earlier one, whose place is put with those known while a byte holds it.
use Rattle.std.proofs.Common.{arith, ◌≡◌, ◌++◌, [], ◌∷◌, Some, slice_get, refl, sym, ap, subst, ◌∙◌}
use Rattle.std.proofs.lemmas.Option.{none-some, same_Some}
use Rattle.verdict_claims.proofs.LinesAgain.{none_more}
use Rattle.verdict_claims.proofs.LinesShared.{item_at, no_more_shared, one_shared}
use Rattle.verdict_claims.proofs.line.Lines.push_headed.Goals as goal

pub invariant_of-self-then-later-from : goal.invariant_of-self-then-later-from
invariant_of-self-then-later-from c =
    let is = item_at _ _ c.args.earlier c.in-Some.line.now c.deref.ensures.value c.in-Some.ensures.lookup.3.0 c.in-Some.ensures.lookup.1 in
    let more = c.in_ok-push.ensures.items in (
      none_more c.self.inside.lines.items _ c.in_ok-line.line c.self.inside.again.items _ more refl c.self.invariant.0,
      one_shared c.self.inside.lines.items _ c.in-Some.line.now c.in_ok-line.line _ c.self.inside.shared.items _ _ is (omega (arith, c.len-later.ensures, c.self.inside.lines.ok)) (ap (λ l. l.nodes) c.in_ok-line.ensures) more
          c.in_ok-reserve.ensures.items c.push_reserved.ensures.items c.self.invariant.1,
    )

pub invariant_of-self-else-later-from : goal.invariant_of-self-else-later-from
invariant_of-self-else-later-from c =
    let more = c.in_ok-push.ensures.items in (
      none_more c.self.inside.lines.items _ c.in_ok-line.line c.self.inside.again.items _ more refl c.self.invariant.0,
      no_more_shared c.self.inside.lines.items _ (c.in_ok-line.line ∷ []) c.self.inside.shared.items _ more c.in_ok-reserve.ensures.items c.self.invariant.1,
    )

pub returns-then-later-from-clause-more : goal.returns-then-later-from-clause-more
returns-then-later-from-clause-more c = λ line is.
    let there = subst (λ ls. slice_get ls c.args.earlier ≡ Some c.in-Some.line.now) c.self.view_is (item_at _ _ c.args.earlier c.in-Some.line.now c.deref.ensures.value c.in-Some.ensures.lookup.3.0 c.in-Some.ensures.lookup.1) in
    let which = same_Some c.in-Some.line.now line (sym there ∙ is) in
    c.in_ok-push.ensures.items ∙ ap (λ l. c.self.inside.lines.items ++ l ∷ []) (c.in_ok-line.ensures ∙ ap (λ l. record { field = c.args.field; nodes = l.nodes }) which)
    ∙ ap (λ ls. ls ++ record { field = c.args.field; nodes = line.nodes } ∷ []) c.self.view_is

pub returns-then-later-from-clause-none : goal.returns-then-later-from-clause-none
returns-then-later-from-clause-none c = λ none.
    let there = subst (λ ls. slice_get ls c.args.earlier ≡ Some c.in-Some.line.now) c.self.view_is (item_at _ _ c.args.earlier c.in-Some.line.now c.deref.ensures.value c.in-Some.ensures.lookup.3.0 c.in-Some.ensures.lookup.1) in
    absurd (none-some c.in-Some.line.now (sym none ∙ there))

pub returns-else-later-from-clause-more : goal.returns-else-later-from-clause-more
returns-else-later-from-clause-more c = λ line is.
    let there = subst (λ ls. slice_get ls c.args.earlier ≡ Some c.in-Some.line.now) c.self.view_is (item_at _ _ c.args.earlier c.in-Some.line.now c.deref.ensures.value c.in-Some.ensures.lookup.3.0 c.in-Some.ensures.lookup.1) in
    let which = same_Some c.in-Some.line.now line (sym there ∙ is) in
    c.in_ok-push.ensures.items ∙ ap (λ l. c.self.inside.lines.items ++ l ∷ []) (c.in_ok-line.ensures ∙ ap (λ l. record { field = c.args.field; nodes = l.nodes }) which)
    ∙ ap (λ ls. ls ++ record { field = c.args.field; nodes = line.nodes } ∷ []) c.self.view_is

pub returns-else-later-from-clause-none : goal.returns-else-later-from-clause-none
returns-else-later-from-clause-none c = λ none.
    let there = subst (λ ls. slice_get ls c.args.earlier ≡ Some c.in-Some.line.now) c.self.view_is (item_at _ _ c.args.earlier c.in-Some.line.now c.deref.ensures.value c.in-Some.ensures.lookup.3.0 c.in-Some.ensures.lookup.1) in
    absurd (none-some c.in-Some.line.now (sym none ∙ there))
