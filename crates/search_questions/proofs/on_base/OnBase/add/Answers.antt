-- One participant more takes the base, or doesn't.
use Rattle.std.proofs.Common.{[], ◌∷◌, ◌++◌, subst, arith}
use Rattle.sysmem_counts.specs.Bounds.{IsTallyOf}
use Rattle.offer_fits.specs.Demands.{counts_asked}
use Rattle.sysmem_merge.specs.Settings.{CoversOn}
use Rattle.search_questions.proofs.Accepting.{one_accepts, takes_more}
use Rattle.search_questions.proofs.on_base.OnBase.add.Goals as goal

pub returns : goal.returns
returns c = λ earlier ps takes. takes_more c.args.platform.now c.args.settings.now earlier c.args.self.now c.add.new.self c.meets_one.result ps (c.args.asked.now ∷ []) takes
    (subst (λ x. IsTallyOf c.add.new.self ((counts_asked earlier ++ counts_asked ps) ++ x ∷ [])) c.counts.ensures (c.add.ensures.added _ takes.counts)) (omega (arith, c.add.ensures.grows)) (one_accepts (CoversOn c.args.platform.now c.args.settings.now) c.args.asked.now c.meets_one.result c.meets_one.ensures)
