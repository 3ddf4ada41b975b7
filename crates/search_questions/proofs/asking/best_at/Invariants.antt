-- Where it stands as before, each pair so far was looked at.
use Rattle.std.proofs.Common.{◌≡◌, ◌<◌, ℕ, List, length}
use Rattle.std.specs.Prelude.{IfSome}
use Rattle.search_questions.specs.Asking.{IsOpenOf}
use Rattle.search_questions.specs.Standing.{StandsAt}
use Rattle.sysmem_tree.specs.declared.layout.Layout.{Layout}
use Rattle.sysmem_tree.specs.Forest.{settled}
use Rattle.sysmem_tree.specs.Selection.{after}
use Rattle.verdict_claims.specs.Matter.{forest}
use Rattle.search_questions.proofs.asking.best_at.Given as goal

abbrev pub invariant-loop-index : goal.invariant-loop-index
invariant-loop-index l = record {
  there : l.depth < length l.levels.items;
  stands : (layout : Layout) (cs : List ℕ) → length cs ≡ l.depth → StandsAt l.subject layout l.parts l.fn.levels.items cs → StandsAt l.subject layout l.parts l.levels.items cs;
  looked : (layout : Layout) (cs : List ℕ) → length cs ≡ l.depth → StandsAt l.subject layout l.parts l.fn.levels.items cs
      → IfSome (after (forest l.subject) cs) (λ d. IsOpenOf l.index l.whole l.subject (settled d));
}
