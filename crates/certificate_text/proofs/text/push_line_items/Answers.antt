-- One line more, which is kept.
use Rattle.std.proofs.Common.{arith, ◌≡◌, ◌<◌, get_or, length, slice_get, Some, sym, ap, subst, ◌∙◌}
use Rattle.std.proofs.lemmas.Option.{slice_get-get_or}
use Rattle.certificate_text.proofs.LinesPut.{last_kept, one_more, one_put}
use Rattle.certificate_text.proofs.text.push_line_items.Goals as goal

pub loop-index-preserved : goal.loop-index-preserved
loop-index-preserved c =
    let inside : c.loop-index.index < length c.args.lines.now = subst (λ ls. c.loop-index.index < length ls) c.as_slice-line-items.ensures c.loop-index-test.true in
    let is = subst (λ ls. c.line-item.result ≡ get_or ls c.loop-index.index c.line-item.result) c.as_slice-line-items.ensures c.line-item.is in
    record {
      next = omega (arith, c.loop-index.invariant.next, one_more c.is_next-is_again.result, c.from-next.ensures);
      few = c.in_ok-push_kept.ensures.few;
      many = c.in_ok-push_kept.ensures.many;
      last = λ k l next there. last_kept c.args.lines.now c.loop-index.index k c.line-item.result l _ _ c.in_ok-push_kept.ensures.kept
          (slice_get-get_or c.args.lines.now c.loop-index.index c.line-item.result inside ∙ ap (λ x. Some x) (sym is)) next there;
      whole = one_put c.loop-index.out.items _ _ c.args.lines.now c.loop-index.index c.line-item.result inside is c.in_ok-push_comma.ensures c.in_ok-push_kept.ensures.text ∙ c.loop-index.invariant.whole;
    }
