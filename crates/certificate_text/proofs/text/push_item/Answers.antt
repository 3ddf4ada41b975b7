-- A conflict has no numbers.
use Rattle.std.proofs.Common.{sym, subst}
use Rattle.json.specs.Tree.{HasNumbers}
use Rattle.serde_json.specs.Written.{outline}
use Rattle.certificate_text.specs.Told.{item_data}
use Rattle.certificate_text.proofs.PutAsText.{conflict_has}
use Rattle.certificate_text.proofs.text.push_item.Goals as goal

pub returns-in-Leaf-clause-numbers : goal.returns-in-Leaf-clause-numbers
returns-in-Leaf-clause-numbers c = subst (λ i. HasNumbers (outline (item_data i))) (sym c.in-Leaf.is) (conflict_has _)
