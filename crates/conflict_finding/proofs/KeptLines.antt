-- Lines that are kept for those who come again.
use Rattle.std.proofs.Common.{◌≡◌, ℕ, [], ◌∷◌, List, sym, ◌∙◌, ap}
use Rattle.sysmem_counts.specs.declared.field.Field.{Field}
use Rattle.sysmem_tree.specs.Node.{NodeFacts}
use Rattle.conflict_finding.specs.declared.alone_lines.Alone.{Alone}
use Rattle.conflict_finding.specs.declared.whom.Whom.TheVariants as whom
use Rattle.verdict_claims.specs.Line.{LineFacts}
use Rattle.conflict_finding.specs.AloneLines.{NamesOne}
use Rattle.conflict_finding.specs.Whom.{line_on}

-- a line that is kept for the node names who is there, and so does one with its paths
pub kept_for : (nodes : List NodeFacts) (one : Alone) (node number : ℕ) (field : Field) (line : LineFacts) → one.number ≡ number → number ≡ node → NamesOne nodes one
    → line ≡ record { field = field; nodes = one.line.nodes } → line ≡ line_on nodes (node ∷ []) field whom.All
kept_for nodes one node number field line kept same names is = is
    ∙ (ap (λ (l : LineFacts). record { field = field; nodes = l.nodes }) names ∙ ap (λ n. line_on nodes (n ∷ []) field whom.All) (kept ∙ same))

-- and its path is his under any field
pub path_kept : (nodes : List NodeFacts) (one : Alone) (node number : ℕ) (field : Field) → one.number ≡ number → number ≡ node → NamesOne nodes one
    → one.line.nodes ≡ (line_on nodes (node ∷ []) field whom.All).nodes
path_kept nodes one node number field kept same names = ap (λ (l : LineFacts). l.nodes) names ∙ ap (λ n. (line_on nodes (n ∷ []) field whom.All).nodes) (kept ∙ same)

-- a line that is made for a node can be kept
pub is_kept : (nodes : List NodeFacts) (node number : ℕ) (field : Field) (line again : LineFacts) → number ≡ node → line ≡ line_on nodes (node ∷ []) field whom.All → again ≡ line
    → again ≡ line_on nodes (number ∷ []) again.field whom.All
is_kept nodes node number field line again same is copy = let it = copy ∙ is in
    it ∙ ap (λ f. line_on nodes (node ∷ []) f whom.All) (sym (ap (λ (l : LineFacts). l.field) it)) ∙ ap (λ n. line_on nodes (n ∷ []) again.field whom.All) (sym same)
