-- The least settings of an offer in a place are those of its best fit and the least count.
use Rattle.std.proofs.Common.{◌≡◌, arith, List, Contains, Some, slice_get, get_or, sym, ◌∙◌, ap, subst}
use Rattle.std.proofs.Math.Nat.{le_antisymm}
use Rattle.std.proofs.lemmas.List.Elements.{All-map, All-weaker}
use Rattle.list_lemmas.proofs.CallerLemmas.{All-unmap}
use Rattle.sysmem_counts.specs.Counts.{IsLeastCount}
use Rattle.sysmem_formats.specs.declared.offer.Offer.{Offer}
use Rattle.sysmem_memory.proofs.CallerLemmas.{no_place_before_itself}
use Rattle.sysmem_memory.specs.Place.{IsPlace, IsEarlier}
use Rattle.sysmem_memory.specs.PlaceTable.{AllowsPlace}
use Rattle.sysmem_merge.specs.contracts.settings.Settings.{the_type as settings_type}
use Rattle.offer_fits.specs.declared.fit.Fit.{Fit}
use Rattle.sysmem_merge.specs.declared.settings.Settings.{Settings}
use Rattle.sysmem_merge.specs.Best.{IsEarlierOffer}
use Rattle.offer_fits.specs.Demands.{counts_asked, offer_demand, offer_demands}
use Rattle.sysmem_merge.specs.Fit.{fit_of}
use Rattle.offer_fits.specs.Fit.{CoversFit, IsBestFit, MeetsFit}
use Rattle.sysmem_merge.specs.Laws.{OneFit}
use Rattle.sysmem_merge.specs.Settings.{Covers, IsNamed, Meets, MeetsLoosely}
use Rattle.negotiation_inputs.specs.Participant.{Participant}
use Rattle.negotiation_inputs.specs.Platform.{PlatformFacts, offers_of}
use Rattle.verdict_claims.specs.Check.{IsLeastAt}
use Rattle.verdict_claims.specs.Laws.{LeastIsComputed}

-- what settings that meet participants say of images meets them
fit_met : (platform : PlatformFacts) (ps : List Participant) (t : Settings) → MeetsLoosely platform ps t → MeetsFit (offer_demands ps) (fit_of t)
fit_met platform ps t m = record {
  sound = m.sound.fit;
  covers = All-map (CoversFit (fit_of t)) offer_demand ps
      (All-weaker (Covers m.heap t) (λ p. CoversFit (fit_of t) (offer_demand p)) (λ p c. c.fit) ps m.covers);
}

-- no offer stands before itself
no_offer_before_itself : (os : List Offer) (a b : Offer) → a ≡ b → ¬ (IsEarlierOffer os a b)
no_offer_before_itself os a b same earlier = let below = earlier.before earlier.index (subst (λ o. slice_get os earlier.index ≡ Some o) same earlier.here) in omega (arith, below)

module _ (platform : PlatformFacts) (ps : List Participant) (s r : Settings) (place : r.place ≡ s.place) (met : Meets platform ps s) (fit : IsBestFit s.offer (offer_demands ps) (fit_of r))
    (count : IsLeastCount (counts_asked ps) r.count) where
  -- the best fit and the least count meet participants, in a place in
  -- which some settings of the offer do
  by_parts : Meets platform ps r
  by_parts =
      let mine : MeetsLoosely platform ps s = met.loosely in
      let covered = All-unmap (λ d. CoversFit (fit_of r) d) offer_demand ps fit.meets.covers in
      record {
        loosely = record {
          heap = mine.heap;
          sound = record {
            offer = subst (Contains (offers_of platform)) (sym fit.offer) mine.sound.offer;
            place = subst (λ p. IsPlace platform.heaps p mine.heap) (sym place) mine.sound.place;
            fit = fit.meets.sound;
          };
          covers = λ k d inside. record {
            fit = covered k d inside;
            place = subst (λ q. AllowsPlace (get_or ps k d).memory (get_or ps k d).usage mine.heap q.coherency) (sym place) (mine.covers k d inside).place;
          };
          counted = count.counted;
        };
        named = subst (λ o. IsNamed o ps) (sym fit.offer) met.named;
      }

  -- and are the least
  parts_least : IsLeastAt platform ps r
  parts_least = record {
    meets = by_parts;
    least = λ t offer at suits. record {
      offer = no_offer_before_itself (offers_of platform) t.offer r.offer offer;
      place = λ _ earlier. no_place_before_itself t.place (subst (λ p. IsEarlier t.place p) (sym at) earlier);
      count = count.least t.count suits.loosely.counted;
      fit = λ _ _. fit.best (fit_of t) (offer ∙ fit.offer) (fit_met platform ps t suits.loosely);
    };
  }

  -- settings that are the least too are these
  one_least : OneFit → IsLeastAt platform ps s → s ≡ r
  one_least law least =
      let up = least.least r fit.offer place by_parts in
      let down = parts_least.least s (sym fit.offer) (sym place) met in
      let count : s.count ≡ r.count = le_antisymm up.count down.count in
      let fits : fit_of s ≡ fit_of r = law (fit_of s) (fit_of r) (sym fit.offer) (down.fit (sym fit.offer) (sym place)) (up.fit fit.offer place) in
      let offer : s.offer ≡ r.offer = ap (λ (x : Fit). x.offer) fits in
      let bounds : s.bounds ≡ r.bounds = ap (λ (x : Fit). x.bounds) fits in
      let size : s.size_bytes ≡ r.size_bytes = ap (λ (x : Fit). x.size_bytes) fits in
      let at : s.place ≡ r.place = sym place in
      settings_type.to_one s r (cc)

pub least_is_computed : OneFit → LeastIsComputed
least_is_computed law platform ps s r place met fit count = (
  λ same. subst (IsLeastAt platform ps) (sym same) (parts_least platform ps s r place met fit count),
  λ least. one_least platform ps s r place met fit count law least,
)
