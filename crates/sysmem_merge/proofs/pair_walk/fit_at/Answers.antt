use Rattle.std.proofs.Common.{◌≡◌, List, Some, slice_get, refl, sym, ◌∙◌, subst}
use Rattle.std.proofs.lemmas.Option.{slice_get_read, same_Some}
use Rattle.sysmem_formats.specs.declared.offer.Pair.{Pair}
use Rattle.sysmem_merge.proofs.pair_walk.fit_at.Goals as goal

pub returns-clause-first : goal.returns-clause-first
returns-clause-first c pair ds here kept sizes =
    let read = subst (λ (ps : List Pair). slice_get ps c.args.index ≡ Some pair) (sym c.pairs.ensures.pairs) here in
    let found = c.in-Some.ensures.lookup in
    let is = same_Some pair c.in-Some.pair.now (sym read ∙ slice_get_read c.pairs.result.now _ c.args.index c.in-Some.pair.now refl found.3.0 found.1) in
    rw is ((rw c.colours.ensures.colours at c.fit_of_pair.ensures.first) ds (rw is at kept) sizes)

pub returns-clause-none : goal.returns-clause-none
returns-clause-none c pair ds here kept sizes =
    let read = subst (λ (ps : List Pair). slice_get ps c.args.index ≡ Some pair) (sym c.pairs.ensures.pairs) here in
    let found = c.in-Some.ensures.lookup in
    let is = same_Some pair c.in-Some.pair.now (sym read ∙ slice_get_read c.pairs.result.now _ c.args.index c.in-Some.pair.now refl found.3.0 found.1) in
    rw is ((rw c.colours.ensures.colours at c.fit_of_pair.ensures.none) ds (rw is at kept) sizes)
