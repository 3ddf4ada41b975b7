use Rattle.std.specs.Prelude.{option_map}
use Rattle.std.specs.Arc.{arc_value}
use Rattle.script_run.proofs.OneCertified.{text_push}
use Rattle.script_replay.proofs.CallerLemmas.{path_is}
use Rattle.script_run.proofs.certifying.Certifying.put.Goals as goal

pub returns : goal.returns
returns c = λ cs taken.
    let path = path_is c.tree-tree.result.now c.args.book.now.state.tree c.root_of.result c.args.domain c.in_ok-path.path c.tree-tree.ensures c.root_of.ensures.node c.in_ok-path.ensures.path in
    text_push c.args.book.now.platform c.platform-platform.result.now cs _ c.in_ok-path.path (option_map (λ shared. arc_value shared) c.args.claim.now) c.args.self.now.pieces c.put.new.self
    c.platform-platform.ensures.platform path taken c.in_ok-put.ensures
