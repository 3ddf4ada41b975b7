-- No item yet has a line.
use Rattle.explain.proofs.More.{no_line_yet}
use Rattle.std.specs.String.{string_bytes}
use Rattle.explain.proofs.json.objects.lines_of.Goals as goal

pub loop-index-init : goal.loop-index-init
loop-index-init c = no_line_yet c.args.items.now (string_bytes c.new-text.result) c.new-text.ensures.bytes
