-- They are some, and each lacks it.
use Rattle.std.proofs.Common.{◌≡◌, arith, true, All, sym, subst}
use Rattle.std.proofs.lemmas.List.Elements.{filter_passes}
use Rattle.settings_reasons.specs.True.{lacks_entry}
use Rattle.settings_reasons.proofs.Participants.{some_asked}
use Rattle.value_sources.specs.Sources.{all_asked}
use Rattle.settings_reasons.proofs.offer_reason.OfferReason.without_entry.Goals as goal

pub invariant_of-result : goal.invariant_of-result
invariant_of-result c =
    let test = lacks_entry c.args.offer.now in
    record {
      some = some_asked c.in_ok-participants.participants.items (grind (arith, c.is_empty.ensures, c.if-is_empty.false, c.in_ok-participants.participants.ok.0));
      each = subst (All (λ one. test one ≡ true)) (sym c.in_ok-participants.ensures) (filter_passes test (all_asked c.args.participants.now));
    }
