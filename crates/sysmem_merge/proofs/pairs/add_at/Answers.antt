use Rattle.std.proofs.Common.{arith, refl, sym, ◌∙◌}
use Rattle.std.proofs.lemmas.Option.{slice_get_read, slice_get_within, same_Some}
use Rattle.sysmem_merge.proofs.pairs.add_at.Goals as goal

pub returns-in-Some : goal.returns-in-Some
returns-in-Some c pair ds d here same kept =
    let found = c.in-Some.ensures.lookup in
    let is = same_Some pair c.in-Some.pair.now (sym here ∙ slice_get_read c.args.pairs.now _ c.args.index c.in-Some.pair.now refl found.3.0 found.1) in
    rw is (c.add.ensures ds d same (rw is at kept))

pub returns-in_default : goal.returns-in_default
returns-in_default c pair ds d here same kept =
    absurd (omega (arith, c.in_default.ensures.lookup.3, slice_get_within c.args.pairs.now c.args.index pair here))
