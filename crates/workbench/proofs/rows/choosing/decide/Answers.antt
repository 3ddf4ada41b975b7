-- A ready domain of which nothing became may be decided for none, and for a prefix behind which no
-- group is next.
use Rattle.std.proofs.Common.{◌≡◌, ◌∙◌, ℕ, false, [], Option, Some, None, refl, sym, subst}
use Rattle.std.specs.Prelude.{IfSome, is_some}
use Rattle.sysmem_tree.specs.Forest.{Forest, first_group}
use Rattle.sysmem_tree.specs.History.{IsDecidable}
use Rattle.sysmem_tree.specs.Selection.{after, IsPrefix, IsSelection}
use Rattle.sysmem_tree.specs.Shape.{by_number, forest_of}
use Rattle.sysmem_tree.proofs.CallerLemmas.{is_selection, undecided_by_fate}
use Rattle.workbench.proofs.rows.choosing.decide.Goals as goal

none_of : {A : Type 0} (o : Option A) → false ≡ is_some o → o ≡ None
none_of None e = refl
none_of (Some x) e = absurd (cc)

pub decide-requires : goal.decide-requires
decide-requires c = record {
  there = c.requires.there;
  ready = sym c.if-not-is_ready.ensures;
  undecided = undecided_by_fate c.args.tree.now c.args.domain (sym c.fate.ensures ∙ c.in-Undecided.is);
  selects = tt;
}

pub decide-requires-2 : goal.decide-requires-2
decide-requires-2 c =
    let d : Forest ℕ = forest_of by_number c.args.tree.now.nodes c.args.domain [] in
    record {
      there = c.requires.there;
      ready = sym c.if-not-is_ready.ensures;
      undecided = undecided_by_fate c.args.tree.now c.args.domain (sym c.fate.ensures ∙ c.in-Undecided.is);
      selects = subst (λ cs. (e : Forest ℕ) × IsSelection d cs e) (sym c.choices.ensures)
          (is_selection d c.in-Some.prefix (subst (λ o. IfSome o (λ p. IsPrefix d p)) c.in-Some.is c.requires.prefix)
          (subst (λ o. IfSome (after d c.in-Some.prefix) (λ e. o ≡ first_group e)) (none_of c.next_group.result c.if-is_some.ensures) c.next_group.ensures.group));
    }
