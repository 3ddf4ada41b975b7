-- A line for each item so far.
use Rattle.std.proofs.Common.{take}
use Rattle.std.specs.String.{string_bytes}
use Rattle.explain.specs.Lines.{AreLinesOf, item_texts}
use Rattle.explain.proofs.json.objects.lines_of.Given as goal

abbrev pub invariant-loop-index : goal.invariant-loop-index
invariant-loop-index l = AreLinesOf (item_texts (take l.index l.items)) (string_bytes l.text)
