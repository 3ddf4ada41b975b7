use Rattle.std.proofs.Common.{◌++◌}
use Rattle.serde_json.specs.Written.{comma_if, compact_text}
use Rattle.certificate_text.specs.Told.{path_data}
use Rattle.certificate_pieces.proofs.Spelled.{one_path}
use Rattle.certificate_pieces.proofs.ToldLemmas.{told_then}
use Rattle.certificate_pieces.proofs.path.put_paths.Goals as goal

pub loop-path-preserved : goal.loop-path-preserved
loop-path-preserved g c =
    let now = c.loop-path.invariant in
    record {
      told = now.told ++ (comma_if c.loop-path.later ++ compact_text (path_data c.in-Some.path.now));
      has = told_then now.has (told_then c.put_comma.ensures c.put_path.ensures);
      whole = one_path c.in-Some.path.now c.loop-path.path-iterator c.next.new.self c.loop-path.later now.told _ c.in-Some.ensures.steps now.whole;
    }
