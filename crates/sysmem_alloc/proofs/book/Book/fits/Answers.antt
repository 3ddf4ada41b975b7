-- The shape and the terms, of one domain.
use Rattle.std.proofs.Common.{◌≡◌, ℕ, Some, sym, ◌∙◌, ap, rules, tests}
use Rattle.std.specs.Prelude.{option_map}
use Rattle.std.proofs.lemmas.Option.{same_Some}
use Rattle.verdict_claims.specs.Base.{terms_of}
use Rattle.sysmem_tree.specs.Domain.{TreeFacts}
use Rattle.sysmem_tree.specs.Shape.{shape_of}
use Rattle.sysmem_alloc.specs.State.{base_of}
use Rattle.sysmem_alloc.proofs.book.Book.fits.Goals as goal

pub returns-then-not-has_same_shape : goal.returns-then-not-has_same_shape
returns-then-not-has_same_shape c = (
  λ no. absurd (cc),
  λ still.
      let number : c.in-Some.next ≡ c.args.frozen.now.domain = same_Some _ _ (sym c.in-Some.is ∙ (c.next_ready.ensures.next ∙ still.next)) in
      let same = c.has_same_shape.ensures.1 (ap (λ (t : TreeFacts). shape_of t.nodes c.in-Some.next) c.tree.ensures
      ∙ (ap (shape_of c.args.self.now.state.tree.nodes) number ∙ (still.shape
      ∙ (sym (ap (shape_of c.args.frozen.now.tree.nodes) number) ∙ sym (ap (λ (t : TreeFacts). shape_of t.nodes c.in-Some.next) c.tree-2.ensures))))) in
      let other = c.if-not-has_same_shape.true in
      absurd (cc),
)

pub returns : goal.returns
returns c =
    let asked = sym c.ne.ensures ∙ c.if-ne.false in
    let told : c.in-Some.next ≡ c.domain.result = search (rules, tests, asked) in
    let number : c.in-Some.next ≡ c.args.frozen.now.domain = told ∙ c.domain.ensures.domain in
    let own = ap (λ (r : ℕ). option_map (terms_of c.args.self.now.state.tree.nodes) (base_of c.args.self.now.state r)) number in (
      λ t. record {
        next = sym c.next_ready.ensures.next ∙ (c.in-Some.is ∙ ap Some number);
        platform = sym c.platform.ensures.platform ∙ (c.is_same.ensures.0 c.if-not-is_same.false ∙ c.platform-2.ensures);
        shape = sym (ap (shape_of c.args.self.now.state.tree.nodes) number) ∙ (sym (ap (λ (t : TreeFacts). shape_of t.nodes c.in-Some.next) c.tree.ensures)
            ∙ (c.has_same_shape.ensures.0 c.if-not-has_same_shape.false
            ∙ (ap (λ (t : TreeFacts). shape_of t.nodes c.in-Some.next) c.tree-2.ensures ∙ ap (shape_of c.args.frozen.now.tree.nodes) number)));
        terms = sym own ∙ c.has_terms_of.ensures.0 t;
      },
      λ still. c.has_terms_of.ensures.1 (own ∙ still.terms),
    )
