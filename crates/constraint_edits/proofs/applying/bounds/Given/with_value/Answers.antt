use Rattle.std.proofs.Common.{◌≡◌, ◌∙◌, Option, Some, None, ap, sym}
use Rattle.std.specs.Prelude.{IfSome}
use Rattle.record_reading.proofs.CallerLemmas.{bounds_by_numbers}
use Rattle.record_reading.specs.Reading.Bounds.{stated_by, bounds_by}
use Rattle.sysmem_image.specs.declared.entry.EntryBounds.{EntryBounds}
use Rattle.constraint_edits.proofs.applying.bounds.Given.with_value.Goals as goal

-- bounds whose values are the same are the same
same_values : (a b : EntryBounds) → stated_by a ≡ stated_by b → a ≡ b
same_values a b same = sym (bounds_by_numbers a) ∙ (ap bounds_by same ∙ bounds_by_numbers b)

same_in : (o : Option EntryBounds) (b : EntryBounds) → IfSome o (λ a. stated_by a ≡ stated_by b) → IfSome o (λ a. a ≡ b)
same_in (Some a) b same = same_values a b same
same_in None b same = tt

pub returns : goal.returns
returns c = same_in _ _ c.put.ensures
