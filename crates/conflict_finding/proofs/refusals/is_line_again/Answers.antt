-- The line of the offer before refuses this one too, and is its first.
use Rattle.std.proofs.Common.{arith, ◌≡◌, ◌-◌, Some, length, option_copied, slice_get, sym, ◌∙◌, ap}
use Rattle.std.proofs.lemmas.Option.{slice_get_within}
use Rattle.verdict_claims.specs.Members.{members_at}
use Rattle.conflict_finding.proofs.FirstLines.{line_again}
use Rattle.conflict_finding.proofs.refusals.is_line_again.Goals as goal

pub returns-clause-line : goal.returns-clause-line
returns-clause-line c = λ whole ms stand refuses before.
    let yes' = c.if-not-is_shared.false in
    let at : slice_get c.args.before.now (length c.args.before.now - 1) ≡ Some c.in-Some.last.now = sym c.last.ensures.value ∙ ap option_copied c.in-Some.is in
    let was = refuses (c.is_shared.ensures.image yes') c.in-Some.last.now at in record {
      last = c.in-Some.last.now;
      there = at;
      is = record {
        refuses = c.is_shared.ensures.shared yes' whole ms c.in-Some.last.now (sym c.field-field.ensures) was.refuses;
        first = line_again c.args.earlier.now c.args.offer.now (c.is_shared.ensures.pair yes') whole (members_at c.args.tree.now.nodes c.args.nodes.now) ms stand c.in-Some.last.now.field c.field-field.result c.field-field.ensures
            (c.is_shared.ensures.ignores yes') (c.in_ok-again.ensures.before before) was.first;
      };
    }

pub returns-clause-some : goal.returns-clause-some
returns-clause-some c = λ _.
    let at : slice_get c.args.before.now (length c.args.before.now - 1) ≡ Some c.in-Some.last.now = sym c.last.ensures.value ∙ ap option_copied c.in-Some.is in
    let inside = slice_get_within c.args.before.now (length c.args.before.now - 1) c.in-Some.last.now at in
    omega (arith, inside)
