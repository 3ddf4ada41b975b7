-- A line of one offer of a pair is one of the others.
use Rattle.std.proofs.Common.{refl, sym, ◌∙◌, ap, subst}
use Rattle.std.specs.Prelude.{◌≢◌}
use Rattle.sysmem_counts.specs.declared.field.Field.TheVariants.{ColorSpaces, UnnamedColorSpace}
use Rattle.sysmem_formats.specs.declared.offer.Offer.TheVariants.{Image}
use Rattle.verdict_claims.specs.Conflict.{RefusesOffer}
use Rattle.verdict_claims.proofs.SameColours.{same_refusal}
use Rattle.verdict_claims.proofs.pair_lines.is_shared.Goals as goal

pub returns-clause-image : goal.returns-clause-image
returns-clause-image c = λ same none. (let one = c.in-Image-Image.is-0 in absurd (cc))

pub returns-clause-shared : goal.returns-clause-shared
returns-clause-shared c = λ same whole ms line heads refuses.
    let ignores = c.ignores_colour.ensures c.if-not-ignores_colour.false in
    let takes : line.field ≢ ColorSpaces = λ e. ignores.0 (sym heads ∙ e) in
    let names : line.field ≢ UnnamedColorSpace = λ e. ignores.1 (sym heads ∙ e) in
    let here = subst (λ o. RefusesOffer whole ms o line) c.in-Image-Image.is-0 refuses in
    let own = subst (λ p. RefusesOffer whole ms (Image p c.in-Image-Image.field-1-0) line) (c.is_same_pair.ensures same) here in
    subst (λ o. RefusesOffer whole ms o line) (sym c.in-Image-Image.is-1)
    (same_refusal whole ms c.in-Image-Image.own c.in-Image-Image.field-1-0 c.in-Image-Image.field-1-1 line line refl refl takes names own)

pub returns-clause-pair : goal.returns-clause-pair
returns-clause-pair c = λ same. record {
  pair = c.in-Image-Image.own;
  colour = c.in-Image-Image.field-1-0;
  own = c.in-Image-Image.field-1-1;
  first = c.in-Image-Image.is-0 ∙ ap (λ p. Image p c.in-Image-Image.field-1-0) (c.is_same_pair.ensures same);
  second = c.in-Image-Image.is-1;
}

pub returns-clause-ignores : goal.returns-clause-ignores
returns-clause-ignores c = λ same. c.ignores_colour.ensures c.if-not-ignores_colour.false
