-- A field that is amiss, or a platform.
use Rattle.std.proofs.Common.{sym, ◌∙◌}
use Rattle.negotiation_inputs.proofs.Refused.{colours-differ, colours-listed, domains-told, fitting-told, names-told, pairs-differ, pairs-listed, told-no, whole_platform}
use Rattle.negotiation_inputs.proofs.amiss.amiss_in_platform.Goals as goal

pub returns-then-not-are_heaps : goal.returns-then-not-are_heaps
returns-then-not-are_heaps c = told-no c.are_heaps.result c.if-not-are_heaps.true c.are_heaps.ensures.1

pub returns-then-not-have_names : goal.returns-then-not-have_names
returns-then-not-have_names c = told-no c.have_names.result c.if-not-have_names.true (λ all. c.have_names.ensures ∙ (names-told c.args.heaps.now).1 all)

pub returns-then-not-have_domains : goal.returns-then-not-have_domains
returns-then-not-have_domains c = told-no c.have_domains.result c.if-not-have_domains.true (λ all. c.have_domains.ensures ∙ (domains-told c.args.heaps.now).1 all)

pub returns-then-not-are_pairs : goal.returns-then-not-are_pairs
returns-then-not-are_pairs c = told-no c.are_pairs.result c.if-not-are_pairs.true (λ listed. c.are_pairs.ensures.1 (listed.0, pairs-differ c.args.pairs.now listed.1))

pub returns-then-not-are_fitting : goal.returns-then-not-are_fitting
returns-then-not-are_fitting c = told-no c.are_fitting.result c.if-not-are_fitting.true (λ all. c.are_fitting.ensures ∙ (fitting-told c.args.pairs.now).1 all)

pub returns-then-not-are_colours : goal.returns-then-not-are_colours
returns-then-not-are_colours c = told-no c.are_colours.result c.if-not-are_colours.true (λ listed. c.are_colours.ensures.1 (listed.0, colours-differ c.args.colours.now listed.1))

pub returns : goal.returns
returns c =
    let pairs = c.are_pairs.ensures.0 c.if-not-are_pairs.false in
    let colours = c.are_colours.ensures.0 c.if-not-are_colours.false in
    whole_platform c.args.heaps.now c.args.pairs.now c.args.colours.now (c.are_heaps.ensures.0 c.if-not-are_heaps.false)
    ((names-told c.args.heaps.now).0 (sym c.have_names.ensures ∙ c.if-not-have_names.false)) ((domains-told c.args.heaps.now).0 (sym c.have_domains.ensures ∙ c.if-not-have_domains.false))
    (pairs.0, pairs-listed c.args.pairs.now pairs.1) ((fitting-told c.args.pairs.now).0 (sym c.are_fitting.ensures ∙ c.if-not-are_fitting.false)) (colours.0, colours-listed c.args.colours.now colours.1)
