use Rattle.std.proofs.Common.{◌++◌, sym, ◌∙◌}
use Rattle.serde_json.specs.Written.{comma_if}
use Rattle.certificate_pieces.proofs.Spelled.{one_part}
use Rattle.certificate_pieces.proofs.ToldLemmas.{told_as, told_failed, told_then}
use Rattle.certificate_pieces.proofs.list.put_list.Goals as goal

pub returns-then-is_failed : goal.returns-then-is_failed
returns-then-is_failed g c =
    told_as c.loop-part.invariant.whole (told_then c.loop-part.invariant.has (told_failed _ _ _ (sym c.is_failed.ensures ∙ c.if-is_failed.true) _))

pub loop-part-preserved : goal.loop-part-preserved
loop-part-preserved g c =
    let now = c.loop-part.invariant in
    record {
      told = now.told ++ (comma_if c.loop-part.later ++ g.T.Tell.text c.part-item.result);
      has = told_then now.has (told_then c.put_comma.ensures c.tell.ensures);
      whole = one_part g.T.Tell.text c.args.parts.now c.loop-part.part-index c.part-item.result c.loop-part.later now.told _ c.loop-part-test.true c.part-item.is now.whole;
    }
