-- The counts of those that were accepted before.
use Rattle.std.proofs.Common.{[], refl, sym, subst, arith}
use Rattle.std.proofs.lemmas.List.{append-nil}
use Rattle.std.proofs.lemmas.List.Elements.{All-nil}
use Rattle.sysmem_counts.specs.Bounds.{IsTallyOf}
use Rattle.offer_fits.specs.Demands.{counts_asked}
use Rattle.sysmem_merge.specs.Settings.{CoversOn}
use Rattle.verdict_claims.specs.Asked.{asked_in}
use Rattle.search_questions.proofs.on_base.OnBase.behind.Goals as goal

pub returns : goal.returns
returns c = λ platform settings. record {
  counts = subst (IsTallyOf c.add_counts.new.counts) (sym (append-nil (counts_asked (asked_in c.args.tree.now.nodes c.args.accepted.now)))) (c.add_counts.ensures.added [] c.new-counts.ensures.stands);
  small = omega (arith, c.add_counts.ensures.grows, c.new-counts.ensures.nothing);
  accept = (λ is. All-nil (CoversOn platform settings), λ all. refl);
}
