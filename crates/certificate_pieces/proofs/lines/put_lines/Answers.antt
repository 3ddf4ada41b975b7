use Rattle.std.proofs.Common.{arith, ◌≡◌, ◌<◌, ◌++◌, get_or, length, nat_lt, Some, sym, ap, subst, ◌∙◌}
use Rattle.std.proofs.lemmas.Option.{slice_get-get_or}
use Rattle.serde_json.specs.Written.{comma_if, compact_text}
use Rattle.certificate_text.specs.Told.{line_data}
use Rattle.certificate_pieces.specs.KeptText.{kept_text}
use Rattle.certificate_pieces.proofs.OneLine.{goes_on, line_after, one_line, one_more, paths_known}
use Rattle.certificate_pieces.proofs.ToldLemmas.{told_then}
use Rattle.certificate_pieces.proofs.lines.put_lines.Goals as goal

pub put_next-is_there-requires : goal.put_next-is_there-requires
put_next-is_there-requires g c =
    let inside : c.loop-place.place < length c.args.lines.now = subst (λ ls. c.loop-place.place < length ls) c.as_slice-line-items.ensures c.loop-place-test.true in
    let is = subst (λ ls. c.line-item.result ≡ get_or ls c.loop-place.place c.line-item.result) c.as_slice-line-items.ensures c.line-item.is in
    let here = slice_get-get_or c.args.lines.now c.loop-place.place c.line-item.result inside ∙ ap (λ x. Some x) (sym is) in
    record {
      there = λ there. c.loop-place.invariant.there c.line-item.result here there;
      known = λ at some there.
          paths_known c.args.lines.now _ c.loop-place.kept _ at c.loop-place.place c.line-item.result c.shared-shared.ensures c.earlier_of-earlier.ensures some here there c.loop-place.invariant.one;
    }

pub loop-place-preserved : goal.loop-place-preserved
loop-place-preserved g c =
    let inside : c.loop-place.place < length c.args.lines.now = subst (λ ls. c.loop-place.place < length ls) c.as_slice-line-items.ensures c.loop-place-test.true in
    let is = subst (λ ls. c.line-item.result ≡ get_or ls c.loop-place.place c.line-item.result) c.as_slice-line-items.ensures c.line-item.is in
    let here = slice_get-get_or c.args.lines.now c.loop-place.place c.line-item.result inside ∙ ap (λ x. Some x) (sym is) in
    let now = c.loop-place.invariant in
    record {
      next = omega (arith, now.next, one_more c.is_next-comes_again.result, c.from-next.ensures);
      next_shared = omega (arith, now.next_shared, one_more c.is_some.result, c.from-next_shared.ensures);
      there = λ l next both.
          line_after (λ l. kept_text c.put_next-is_there.new.kept l ≡ compact_text (line_data l)) c.args.lines.now _ c.loop-place.place c.line-item.result l
          c.again-again.ensures (c.is_next-comes_again.ensures (c.put_next-is_there.ensures.again both)) here next (c.put_next-is_there.ensures.kept both);
      one = goes_on c.args.lines.now c.loop-place.place c.line-item.result c.loop-place.kept c.put_next-is_there.new.kept here c.put_next-is_there.ensures.paths now.one;
      told = now.told ++ (comma_if (nat_lt 0 c.loop-place.place) ++ compact_text (line_data c.line-item.result));
      has = told_then now.has (told_then c.put_comma.ensures c.put_next-is_there.ensures.told);
      whole = one_line c.args.lines.now c.loop-place.place c.line-item.result now.told _ inside is now.whole;
    }
