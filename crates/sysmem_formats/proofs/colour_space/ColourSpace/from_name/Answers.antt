use Rattle.std.proofs.Common.{rules, tests}
use Rattle.std.proofs.lemmas.Iterator.{YieldsList-from_slice}
use Rattle.std.proofs.lemmas.Iterator.Search.{find_from_yields_List}
use Rattle.std.specs.Prelude.{bytes_eq}
use Rattle.list_lemmas.proofs.Each.{found_each}
use Rattle.sysmem_formats.specs.Names.{colour_name}
use Rattle.sysmem_formats.specs.declared.colour_space.TheConstants.ColourSpace.{ALL}
use Rattle.sysmem_formats.proofs.Lists.{listed_colours}
use Rattle.sysmem_formats.proofs.colour_space.ColourSpace.from_name.Goals as goal

pub returns : goal.returns
returns c =
    let found = find_from_yields_List (λ one. bytes_eq (colour_name one) c.args.name.now) _ _ c.find.result c.find.ensures.ran
    (YieldsList-from_slice ALL c.iter.ensures.rest) (λ x b q k. search (rules, tests)) in
    found_each colour_name ALL listed_colours c.args.name.now c.copied.result (search (rules, tests))
