use Rattle.std.specs.List.{All}
use Rattle.script_story.specs.Told.{IsUntold}
use Rattle.script_story.proofs.telling.domains_of.Given as goal

abbrev pub invariant-loop-index : goal.invariant-loop-index
invariant-loop-index l = All IsUntold l.domains.items
