-- What is left out of a record: an empty list, and an object without members.
use Rattle.std.proofs.Common.{◌≡◌, ◌==◌, true, false, List, [], ◌∷◌, length, Some, None, refl, sym, ap, ◌∙◌, tests, rules, arith}
use Rattle.serde_json.proofs.Views.{Entry}
use Rattle.serde_json.specs.Data.{Data, array, object, Members}
use Rattle.serde_json.specs.View.{items_view, members_view}
use Rattle.serde_json.specs.declared.value.Value.{Value}
use Rattle.sysmem_counts.specs.declared.field.Field.{Field}
use Rattle.record_laws.specs.Sparse.{with_field, list_said, object_said}

pub list_empty : (vs : List Value) → (length vs == 0) ≡ true → list_said (items_view vs) ≡ None
list_empty [] h = refl
list_empty (v ∷ vs) h = let some : (length (v ∷ vs) == 0) ≡ false = search (rules, tests) in absurd (cc)

list_filled : (vs : List Value) → (length vs == 0) ≡ false → list_said (items_view vs) ≡ Some (array (items_view vs))
list_filled [] h = absurd (cc)
list_filled (v ∷ vs) h = refl

pub object_empty : (es : List Entry) → length es ≡ 0 → object_said (members_view es) ≡ None
object_empty [] h = refl
object_empty (e ∷ es) h = absurd (omega arith)

object_filled : (es : List Entry) → (length es ≡ 0 → ⊥) → object_said (members_view es) ≡ Some (object (members_view es))
object_filled [] h = absurd (h refl)
object_filled (e ∷ es) h = refl

-- where a list that isn't empty was put
pub list_put : (before after : Members) (f : Field) (vs : List Value) (d : Data) → (length vs == 0) ≡ false → d ≡ array (items_view vs)
    → after ≡ with_field before f (Some d) → after ≡ with_field before f (list_said (items_view vs))
list_put before after f vs d some is put = put ∙ ap (with_field before f) (ap Some is ∙ sym (list_filled vs some))

-- where an object with members was put
pub object_put : (before after : Members) (f : Field) (es : List Entry) (d : Data) → (length es ≡ 0 → ⊥) → d ≡ object (members_view es)
    → after ≡ with_field before f (Some d) → after ≡ with_field before f (object_said (members_view es))
object_put before after f es d some is put = put ∙ ap (with_field before f) (ap Some is ∙ sym (object_filled es some))
