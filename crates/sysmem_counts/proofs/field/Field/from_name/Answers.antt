use Rattle.std.proofs.Common.{rules, tests}
use Rattle.std.proofs.lemmas.Iterator.{YieldsList-from_slice}
use Rattle.std.proofs.lemmas.Iterator.Search.{find_from_yields_List}
use Rattle.std.specs.Prelude.{bytes_eq}
use Rattle.list_lemmas.proofs.Each.{found_each}
use Rattle.sysmem_counts.specs.Field.{field_name}
use Rattle.sysmem_counts.specs.declared.field.TheConstants.Field.{ALL}
use Rattle.sysmem_counts.proofs.Fields.{listed_fields}
use Rattle.sysmem_counts.proofs.field.Field.from_name.Goals as goal

pub returns : goal.returns
returns c =
    let found = find_from_yields_List (λ f. bytes_eq (field_name f) c.args.text.now) _ _ c.find.result c.find.ensures.ran
    (YieldsList-from_slice ALL c.iter.ensures.rest) (λ x b q k. search (rules, tests)) in
    found_each field_name ALL listed_fields c.args.text.now c.copied.result (search (rules, tests))
