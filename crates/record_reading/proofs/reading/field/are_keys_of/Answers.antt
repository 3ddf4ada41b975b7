use Rattle.std.proofs.Common.{rules, tests, ◌∙◌, sym, string_bytes, Global}
use Rattle.std.proofs.lemmas.Iterator.Consumers.{YieldsList-from_rest}
use Rattle.std.proofs.lemmas.Iterator.Search.{all_from_yields_List}
use Rattle.std.specs.BTreeMap.{keys}
use Rattle.record_reading.specs.Reading.Fields.{is_key_of}
use Rattle.record_reading.proofs.Members.{list_all-keys_of}
use Rattle.record_reading.proofs.reading.field.are_keys_of.Goals as goal

pub returns : goal.returns
returns c =
    all_from_yields_List (λ key. is_key_of c.args.fields.now (string_bytes {Z = Global} key)) _ _ c.all.result c.all.ensures.ran
    (YieldsList-from_rest (keys c.args.members.now) c.keys.ensures.rest) (λ x b q k. search (rules, tests))
    ∙ sym (list_all-keys_of (is_key_of c.args.fields.now) c.args.members.now.entries)
