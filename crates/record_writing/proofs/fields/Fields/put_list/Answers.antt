-- A list that isn't empty is put as it is.
use Rattle.std.proofs.Common.{◌≡◌, ◌==◌, false, length, sym, ◌∙◌, subst}
use Rattle.record_writing.specs.Growing.{fields_in}
use Rattle.record_writing.proofs.Emptiness.{list_put}
use Rattle.record_writing.proofs.fields.Fields.put_list.Goals as goal

pub returns : goal.returns
returns c =
    list_put (fields_in c.args.self.now) (fields_in c.put.new.self) c.args.field c.args.items.items _ (subst (λ vs. (length vs == 0) ≡ false) c.as_slice.ensures.value (sym c.is_empty.ensures ∙ c.if-is_empty.false)) c.from.ensures c.in_ok-put.ensures
