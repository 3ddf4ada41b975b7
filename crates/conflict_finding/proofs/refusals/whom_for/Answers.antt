-- A line of bounds names those with entries, and others that aren't of names all.
use Rattle.conflict_finding.proofs.TrueOfThose.{all_refuse, entries_refuse}
use Rattle.conflict_finding.proofs.refusals.whom_for.Goals as goal

pub returns-in-PixelFormat : goal.returns-in-PixelFormat
returns-in-PixelFormat c = λ whole o ps line. all_refuse whole c.args.field o ps line

pub returns-in_default : goal.returns-in_default
returns-in_default c = λ whole o ps line. entries_refuse whole c.args.field o ps c.in_default.not-PixelFormat c.in_default.not-ColorSpaces c.in_default.not-MaxSizeBytes line
