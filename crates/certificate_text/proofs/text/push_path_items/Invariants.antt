-- What is written, with the paths that are left, is the whole list.
use Rattle.std.proofs.Common.{◌≡◌, ◌++◌, false, map}
use Rattle.serde_json.specs.View.{items_of}
use Rattle.serde_json.specs.Written.{items_text}
use Rattle.certificate_text.specs.Told.{path_data}
use Rattle.certificate_text.proofs.text.push_path_items.Given as goal

abbrev pub invariant-loop-path : goal.invariant-loop-path
invariant-loop-path l = l.out.items ++ items_text l.later (items_of (map path_data l.path-iterator)) ≡ l.fn.out.items ++ items_text false (items_of (map path_data l.paths))
