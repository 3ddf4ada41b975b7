-- Settings that aren't kept aren't met.
use Rattle.std.proofs.Common.{inl, refl, sym, ◌∙◌}
use Rattle.sysmem_proof.proofs.Meeting.{fixed_met, fixed_parts}
use Rattle.sysmem_proof.proofs.checking.settings_faults.attached_fault.Goals as goal

pub returns-then-not-is_kept : goal.returns-then-not-is_kept
returns-then-not-is_kept c = λ terms ms same before order. inl (
  (λ met.
      let (kept, covers, counted) = fixed_parts c.args.platform.now terms ms c.args.settings.now c.args.tree.now.nodes c.args.accepted.now c.args.nodes.now before order met in
      let yes' = c.is_kept.ensures.1 (kept ∙ same, covers, counted) in
      let no' = c.if-not-is_kept.true in absurd (cc)),
  refl,
)

pub returns : goal.returns
returns c = λ terms ms same before order.
    let (kept, covers, counted) = c.is_kept.ensures.0 c.if-not-is_kept.false in
    fixed_met c.args.platform.now terms ms c.args.settings.now c.args.tree.now.nodes c.args.accepted.now c.args.nodes.now before order (kept ∙ sym same, covers, counted)
