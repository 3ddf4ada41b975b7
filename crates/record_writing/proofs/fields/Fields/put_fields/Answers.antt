-- A record that isn't empty is put as it is.
use Rattle.record_writing.specs.Growing.{fields_in}
use Rattle.record_writing.proofs.Emptiness.{object_put}
use Rattle.record_writing.proofs.fields.Fields.put_fields.Goals as goal

pub returns : goal.returns
returns c =
    object_put (fields_in c.args.self.now) (fields_in c.put.new.self) c.args.field c.args.fields.members.entries _ (λ e. let t = c.is_empty.ensures.1 e in absurd (cc)) c.into_value.ensures c.in_ok-put.ensures
