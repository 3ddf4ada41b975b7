-- The settings fail in each field so far.
use Rattle.std.proofs.Common.{All}
use Rattle.sysmem_merge.specs.Failing.{FailsOn}
use Rattle.settings_reasons.proofs.fixed.failing.Given as goal

abbrev pub invariant-loop-field : goal.invariant-loop-field
invariant-loop-field l = All (λ f. FailsOn f l.platform l.settings l.asked) l.fields.items
