use Rattle.std.proofs.Common.{codes}
use Rattle.certificate_text.specs.Paths.{path_text}
use Rattle.script_replay.proofs.Texts.{ended}
use Rattle.script_replay.proofs.domain_line.put_chosen.Goals as goal

pub returns : goal.returns
returns c =
    ended _ _ _ _ _ (codes "domain ") (path_text c.args.path.now) (codes " ") _ (codes "\n") c.in_ok-put_path.ensures c.in_ok-push_str.ensures.bytes c.in_ok-put_chosen_text.ensures
    c.in_ok-push_str-2.ensures.bytes
