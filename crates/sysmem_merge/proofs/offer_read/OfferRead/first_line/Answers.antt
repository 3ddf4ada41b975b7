use Rattle.std.proofs.Common.{◌≡◌, ◌⊎◌, inl, inr, true, false, All, sym, ◌∙◌}
use Rattle.sysmem_counts.specs.declared.field.Field.{Field}
use Rattle.offer_fits.specs.declared.fit.Fit.{Fit}
use Rattle.sysmem_merge.specs.Fit.{IsBestFit}
use Rattle.sysmem_merge.specs.OfferRead.{IsRefusingLine, offer_lines}
use Rattle.sysmem_merge.specs.Offers.{is_named}
use Rattle.sysmem_merge.specs.Reasons.{IsOfferLine}
use Rattle.sysmem_merge.proofs.OfferReading.{some_of, none_clash, refused_clash}
use Rattle.sysmem_merge.proofs.Uncovered.{none_of}
use Rattle.sysmem_merge.proofs.offer_read.OfferRead.first_line.Goals as goal
use Rattle.sysmem_merge.proofs.offer_read.OfferRead.first_line.Goals.{else-is_some-via-then-is_some+else-is_named, then-not-whole, else-not-whole, else-is_some-via-else-is_some}

pub returns-then-is_named-clause-fit : goal.returns-then-is_named-clause-fit
returns-then-is_named-clause-fit c = λ o ds read. some_of c.least_fit.result (IsBestFit o ds) (sym c.is_some.ensures ∙ c.if-is_some.true) (c.least_fit.ensures.best o ds read)

pub returns-clause-fit : goal.returns-clause-fit
returns-clause-fit c = λ o ds read.
    let refused : ((field : Field) × IsOfferLine field o ds) ⊎ ((c.args.whole ≡ true) × (is_named o ds ≡ false)) = elim c.else-is_some.branch [
      | else-is_some-via-then-is_some+else-is_named w ↦ elim w.if-not-whole.branch [
        | then-not-whole v ↦ absurd (cc (v.value-is, w.if-is_named.false))
        | else-not-whole v ↦ inr (v.if-not-whole.false, sym (v.is_named.ensures o ds read) ∙ (sym v.value-is ∙ w.if-is_named.false))
      ]
      | else-is_some-via-else-is_some w ↦ inl (none_of c.least_fit.result ((field : Field) × IsOfferLine field o ds) (sym c.is_some.ensures ∙ w.if-is_some.false) (c.least_fit.ensures.none o ds read))
    ] in
    none_clash c.first_of.result (All (λ f. ¬ IsRefusingLine c.args.whole o ds f) offer_lines) ((fit : Fit) × IsBestFit o ds fit) (c.first_of.ensures.none o ds read)
    (λ none. refused_clash c.args.whole o ds none refused)

pub returns-clause-named : goal.returns-clause-named
returns-clause-named c = λ o ds read.
    let refused : ((field : Field) × IsOfferLine field o ds) ⊎ ((c.args.whole ≡ true) × (is_named o ds ≡ false)) = elim c.else-is_some.branch [
      | else-is_some-via-then-is_some+else-is_named w ↦ elim w.if-not-whole.branch [
        | then-not-whole v ↦ absurd (cc (v.value-is, w.if-is_named.false))
        | else-not-whole v ↦ inr (v.if-not-whole.false, sym (v.is_named.ensures o ds read) ∙ (sym v.value-is ∙ w.if-is_named.false))
      ]
      | else-is_some-via-else-is_some w ↦ inl (none_of c.least_fit.result ((field : Field) × IsOfferLine field o ds) (sym c.is_some.ensures ∙ w.if-is_some.false) (c.least_fit.ensures.none o ds read))
    ] in
    none_clash c.first_of.result (All (λ f. ¬ IsRefusingLine c.args.whole o ds f) offer_lines) (c.args.whole ≡ true → is_named o ds ≡ true) (c.first_of.ensures.none o ds read)
    (λ none. refused_clash c.args.whole o ds none refused)
