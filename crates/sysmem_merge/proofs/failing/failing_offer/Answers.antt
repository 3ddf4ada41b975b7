use Rattle.std.proofs.Common.{sym, ap, ◌∙◌, length, ◌==◌, Some, ◌≡◌}
use Rattle.std.proofs.lemmas.Option.{IfSome_then}
use Rattle.sysmem_image.specs.Entries.{first_match}
use Rattle.sysmem_merge.proofs.Uncovered.{first_format, first_colour, first_bound}
use Rattle.sysmem_merge.proofs.failing.failing_offer.Goals as goal

pub returns-in-Some-clause-first : goal.returns-in-Some-clause-first
returns-in-Some-clause-first c heap p same =
    let s = c.args.settings.now in
    let found : Some c.in-Some.entry.now ≡ first_match s.offer p.entries = c.in-Some.ensures ∙ ap (first_match s.offer) (sym same) in
    IfSome_then c.first_failing.result c.first_failing.ensures.failing
    (λ field first. first_bound heap s p c.in-Some.entry.now field found (sym c.takes_colour.ensures ∙ c.if-takes_colour.true) first)

pub returns-in-Some-2-clause-first : goal.returns-in-Some-2-clause-first
returns-in-Some-2-clause-first c heap p same =
    let s = c.args.settings.now in
    let found : Some c.in-Some.entry.now ≡ first_match s.offer p.entries = c.in-Some.ensures ∙ ap (first_match s.offer) (sym same) in
    first_colour heap s p c.in-Some.entry.now found (sym c.takes_colour.ensures ∙ c.if-takes_colour.false)

pub returns-in-None-2-clause-first : goal.returns-in-None-2-clause-first
returns-in-None-2-clause-first c heap p same =
    let s = c.args.settings.now in
    first_format heap s p (ap (λ xs. length xs == 0) same ∙ sym c.is_empty.ensures ∙ c.if-is_empty.false) (ap (first_match s.offer) same ∙ sym c.in-None.ensures)
