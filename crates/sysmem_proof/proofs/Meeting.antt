-- Whether settings meet participants, part by part and in any order of them.
use Rattle.std.proofs.Common.{◌≡◌, true, ◌&&◌, ℕ, List, ◌++◌, All, refl, sym, ◌∙◌, ap, subst}
use Rattle.std.specs.Prelude.{IsPermutation}
use Rattle.std.proofs.lemmas.List.Elements.{All-weaker, filter_map-append}
use Rattle.std.proofs.lemmas.List.Sorted.{All-permutation, IsPermutation-append, IsPermutation-map, IsPermutation-refl, IsPermutation-sym}
use Rattle.std.proofs.lemmas.Option.{same_Some}
use Rattle.list_lemmas.proofs.CallerLemmas.{some_itself}
use Rattle.sysmem_counts.specs.Counts.{IsCounted, IsCountLine}
use Rattle.sysmem_counts.specs.declared.field.Field.{Field}
use Rattle.sysmem_formats.specs.declared.offer.Offer.{Offer}
use Rattle.sysmem_formats.specs.declared.offer.Offer.TheVariants.{NoImage, Image}
use Rattle.sysmem_image.specs.Entries.{first_match}
use Rattle.sysmem_memory.specs.Heap.{HeapFacts}
use Rattle.sysmem_merge.specs.declared.settings.Settings.{Settings}
use Rattle.offer_fits.specs.Demands.{OfferDemand, counts_asked, offer_demand, offer_demands}
use Rattle.sysmem_merge.specs.Laws.{OfferLineLeavesNone, CountLineLeavesNone}
use Rattle.offer_fits.specs.Offers.{is_named, names_format, names_modifier, names_colour, is_format_named, is_modifier_named, is_colour_named}
use Rattle.offer_fits.specs.OfferLines.{IsOfferLine}
use Rattle.sysmem_merge.specs.Settings.{Covers, CoversOn, IsNamed, IsSound, Meets}
use Rattle.negotiation_inputs.specs.Participant.{Participant}
use Rattle.negotiation_inputs.specs.Platform.{PlatformFacts}
use Rattle.sysmem_tree.specs.Node.{NodeFacts}
use Rattle.sysmem_tree.specs.Shape.{Member}
use Rattle.verdict_claims.specs.Asked.{asked_in}
use Rattle.verdict_claims.specs.Base.{Terms}
use Rattle.verdict_claims.specs.Check.{IsLeastAt}
use Rattle.verdict_claims.specs.Members.{participants}
use Rattle.verdict_claims.specs.Verdict.{MeetsFixed}
use Rattle.sysmem_proof.proofs.Asking.{any_in_order, asked_both, counted_in_order}

-- what names an image is found in any order
named_same : (o : Offer) (ds es : List OfferDemand) → IsPermutation ds es → is_named o ds ≡ is_named o es
named_same NoImage ds es order = refl
named_same (Image pair colour) ds es order =
    let o : Offer = Image pair colour in
    ap (λ t. t && is_modifier_named o ds && is_colour_named o ds) (any_in_order (λ (d : OfferDemand). names_format (first_match o d.entries)) ds es order)
    ∙ (ap (λ t. is_format_named o es && t && is_colour_named o ds) (any_in_order (λ (d : OfferDemand). names_modifier (first_match o d.entries)) ds es order)
    ∙ ap (λ t. is_format_named o es && is_modifier_named o es && t) (any_in_order (λ (d : OfferDemand). names_colour o (first_match o d.entries)) ds es order))

module _ (platform : PlatformFacts) (s : Settings) where
  -- sound settings that each participant accepts, with a count that
  -- suits all, and an image that is named
  pub meets_parts : (ps : List Participant) → (heap : HeapFacts) × IsSound platform heap s → All (CoversOn platform s) ps → IsCounted (counts_asked ps) s.count → IsNamed s.offer ps → Meets platform ps s
  meets_parts ps (heap, sound) all counted named = record {
    loosely = record {
      heap = heap;
      sound = sound;
      covers = All-weaker (CoversOn platform s) (Covers heap s) (λ p c. subst (λ h. Covers h s p) (same_Some c.heap heap (sym c.has ∙ sound.place.heap)) c.covers) ps all;
      counted = counted;
    };
    named = named;
  }

  pub accepted_by : (ps : List Participant) → Meets platform ps s → All (CoversOn platform s) ps
  accepted_by ps m = All-weaker (Covers m.loosely.heap s) (CoversOn platform s) (λ p c. record { heap = m.loosely.heap; has = m.loosely.sound.place.heap; covers = c }) ps m.loosely.covers

  pub meets_in_order : (ps qs : List Participant) → IsPermutation ps qs → Meets platform ps s → Meets platform qs s
  meets_in_order ps qs order m = meets_parts qs (m.loosely.heap, m.loosely.sound) (All-permutation (CoversOn platform s) ps qs order (accepted_by ps m))
      (counted_in_order qs ps s.count (IsPermutation-sym ps qs order) m.loosely.counted)
      (sym (named_same s.offer (offer_demands ps) (offer_demands qs) (IsPermutation-map offer_demand ps qs order)) ∙ m.named)

-- the least settings are the least in any order
pub least_in_order : (platform : PlatformFacts) (s : Settings) (ps qs : List Participant) → IsPermutation ps qs → IsLeastAt platform ps s → IsLeastAt platform qs s
least_in_order platform s ps qs order least = record {
  meets = meets_in_order platform s ps qs order least.meets;
  least = λ t offer place met. least.least t offer place (meets_in_order platform t qs ps (IsPermutation-sym ps qs order) met);
}

-- settings that are met have a fit and a count
pub has_fit : (platform : PlatformFacts) (s : Settings) (ps : List Participant) → OfferLineLeavesNone → Meets platform ps s → ¬ ((field : Field) × IsOfferLine field s.offer (offer_demands ps))
has_fit platform s ps law met (field, line) = law true platform ps ps field s (some_itself ps) line met

pub has_count : (platform : PlatformFacts) (s : Settings) (ps : List Participant) → CountLineLeavesNone → Meets platform ps s → (field : Field) → ¬ (IsCountLine field (counts_asked ps))
has_count platform s ps law met field line = law true platform ps ps field (some_itself ps) line s met

-- settings meet members of an attached domain, by what is asked of their nodes
module _ (platform : PlatformFacts) (terms : Terms) (ms : List Member) (s : Settings) (nodes : List NodeFacts) (accepted ns : List ℕ)
    (before : participants terms.accepted ≡ asked_in nodes accepted) (order : IsPermutation (asked_in nodes ns) (participants ms)) where
  order_of_all : IsPermutation (asked_in nodes (accepted ++ ns)) (participants (terms.accepted ++ ms))
  order_of_all = subst (λ xs. IsPermutation xs (participants (terms.accepted ++ ms))) (sym (asked_both nodes accepted ns))
      (subst (IsPermutation (asked_in nodes accepted ++ asked_in nodes ns)) (sym (filter_map-append (λ (m : Member). m.constraints) terms.accepted ms))
      (IsPermutation-append (asked_in nodes accepted) (participants terms.accepted) (asked_in nodes ns) (participants ms)
      (subst (IsPermutation (asked_in nodes accepted)) (sym before) (IsPermutation-refl (asked_in nodes accepted))) order))

  pub fixed_met : (s ≡ terms.settings) × All (CoversOn platform s) (asked_in nodes ns) × IsCounted (counts_asked (asked_in nodes (accepted ++ ns))) s.count → MeetsFixed platform terms ms s
  fixed_met (same, covers, counted) = record {
    same = same;
    covers = All-permutation (CoversOn platform s) (asked_in nodes ns) (participants ms) order covers;
    counted = counted_in_order (participants (terms.accepted ++ ms)) (asked_in nodes (accepted ++ ns)) s.count
        (IsPermutation-sym (asked_in nodes (accepted ++ ns)) (participants (terms.accepted ++ ms)) order_of_all) counted;
  }

  pub fixed_parts : MeetsFixed platform terms ms s → (s ≡ terms.settings) × All (CoversOn platform s) (asked_in nodes ns) × IsCounted (counts_asked (asked_in nodes (accepted ++ ns))) s.count
  fixed_parts met = (
    met.same,
    All-permutation (CoversOn platform s) (participants ms) (asked_in nodes ns) (IsPermutation-sym (asked_in nodes ns) (participants ms) order) met.covers,
    counted_in_order (asked_in nodes (accepted ++ ns)) (participants (terms.accepted ++ ms)) s.count order_of_all met.counted,
  )
