use Rattle.std.proofs.Common.{◌∙◌}
use Rattle.script_threads.proofs.Lines.{line_first}
use Rattle.script_threads.proofs.domains.first_line.Goals as goal

pub returns : goal.returns
returns c =
    line_first c.in_ok-is_starved.is_starved _ _ _ c.new-text.ensures.bytes (c.new-path.ensures ∙ c.new.ensures.items) c.in_ok-is_starved.ensures
