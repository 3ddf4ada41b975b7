-- The first fit, the first place and the least count are best together.
use Rattle.std.proofs.Common.{ℕ, ◌≡◌, Bool, true, false, List, All, Contains, refl, subst}
use Rattle.std.proofs.lemmas.List.Elements.{All-map, All-weaker}
use Rattle.list_lemmas.proofs.CallerLemmas.{All-unmap}
use Rattle.sysmem_counts.specs.Counts.{IsLeastCount, HasNoCount}
use Rattle.sysmem_memory.proofs.CallerLemmas.{none_refuses}
use Rattle.sysmem_memory.specs.declared.domain.CoherencyDomain.{CoherencyDomain}
use Rattle.sysmem_memory.specs.declared.place.Place.{Place}
use Rattle.sysmem_memory.specs.Heap.{HeapFacts}
use Rattle.sysmem_memory.specs.Place.{IsPlace, IsRefused, IsFirstPlace, HasNoPlace}
use Rattle.sysmem_memory.specs.PlaceTable.{AllowsPlace, PlaceDemand}
use Rattle.offer_fits.specs.declared.fit.Fit.{Fit}
use Rattle.sysmem_merge.specs.declared.settings.Settings.{Settings}
use Rattle.sysmem_merge.specs.Asked.{settings_of}
use Rattle.sysmem_merge.specs.Best.{IsBest, IsEarlierOffer, IsUnmet}
use Rattle.sysmem_merge.specs.Demands.{OfferDemand, counts_asked, place_demand, place_demands, offer_demand, offer_demands}
use Rattle.sysmem_merge.specs.FirstFit.{IsFirstFit}
use Rattle.sysmem_merge.specs.Fit.{fit_of, CoversFit, IsBestFit, MeetsFit}
use Rattle.sysmem_merge.specs.Reasons.{AreOffersRefused, IsOfferRefused}
use Rattle.sysmem_merge.specs.Settings.{Covers, IsNamed, MeetsLoosely, MeetsAs}
use Rattle.negotiation_inputs.specs.Participant.{Participant}
use Rattle.negotiation_inputs.specs.Platform.{PlatformFacts, offers_of}
use Rattle.sysmem_merge.proofs.FirstFits.{refused_unmet}

-- settings that meet participants meet them but for the names
pub loosely : (whole : Bool) (platform : PlatformFacts) (ps : List Participant) (t : Settings) → MeetsAs whole platform ps t → MeetsLoosely platform ps t
loosely true platform ps t meets = meets.loosely
loosely false platform ps t meets = meets

-- and with the names where they are asked for
pub named : (whole : Bool) (platform : PlatformFacts) (ps : List Participant) (t : Settings) → MeetsAs whole platform ps t → whole ≡ true → IsNamed t.offer ps
named true platform ps t meets _ = meets.named
named false platform ps t meets is = cc

pub meets_as : (whole : Bool) (platform : PlatformFacts) (ps : List Participant) (t : Settings) → MeetsLoosely platform ps t → (whole ≡ true → IsNamed t.offer ps) → MeetsAs whole platform ps t
meets_as true platform ps t meets names = record { loosely = meets; named = names refl }
meets_as false platform ps t meets names = meets

-- settings that meet participants meet them in what they say of images
pub fit_met : (platform : PlatformFacts) (ps : List Participant) (t : Settings) → MeetsLoosely platform ps t → MeetsFit (offer_demands ps) (fit_of t)
fit_met platform ps t m = record {
  sound = m.sound.fit;
  covers = All-map (CoversFit (fit_of t)) offer_demand ps
      (All-weaker (Covers m.heap t) (λ p. CoversFit (fit_of t) (offer_demand p)) (λ p c. c.fit) ps m.covers);
}

-- a place that somebody refuses isn't one that all allow
pub refused_clash : (h : HeapFacts) (d : CoherencyDomain) (ps : List PlaceDemand) → IsRefused h d ps → All (λ p. AllowsPlace p.memory p.usage h d) ps → ⊥
refused_clash h d ps (f, (k, p, below, is, refuses)) all =
    let allows : AllowsPlace p.memory p.usage h d = subst (λ (q : PlaceDemand). AllowsPlace q.memory q.usage h d) is (all k p below) in
    cc (refuses, none_refuses p.memory p.usage h d allows f)

-- nobody refuses the place of settings that meet participants
pub place_met : (whole : Bool) (platform : PlatformFacts) (ps : List Participant) (t : Settings) → MeetsAs whole platform ps t
    → (h : HeapFacts) × IsPlace platform.heaps t.place h × (¬ (IsRefused h t.place.coherency (place_demands ps)))
place_met whole platform ps t meets = let m : MeetsLoosely platform ps t = loosely whole platform ps t meets in (
  m.heap,
  m.sound.place,
  λ refused. refused_clash m.heap t.place.coherency (place_demands ps) refused
      (All-map (λ q. AllowsPlace q.memory q.usage m.heap t.place.coherency) place_demand ps
      (All-weaker (Covers m.heap t) (λ p. AllowsPlace p.memory p.usage m.heap t.place.coherency) (λ p c. c.place) ps m.covers)),
)

-- a fit than which no settings have an earlier offer, the first place and the least count together
pub best_of : (whole : Bool) (platform : PlatformFacts) (ps : List Participant) (fit : Fit) (place : Place) (count : ℕ)
    → Contains (offers_of platform) fit.offer → IsBestFit fit.offer (offer_demands ps) fit → (whole ≡ true → IsNamed fit.offer ps)
    → ((t : Settings) → MeetsAs whole platform ps t → ¬ (IsEarlierOffer (offers_of platform) t.offer fit.offer))
    → IsFirstPlace platform.heaps (place_demands ps) place → IsLeastCount (counts_asked ps) count
    → IsBest whole platform ps (settings_of fit place count)
best_of whole platform ps fit place count offered fits names none first least =
    let s : Settings = settings_of fit place count in
    let allowed = All-unmap (λ (q : PlaceDemand). AllowsPlace q.memory q.usage first.info place.coherency) place_demand ps first.allowed in
    let covered = All-unmap (λ (d : OfferDemand). CoversFit fit d) offer_demand ps fits.meets.covers in
    let met : MeetsLoosely platform ps s = record {
      heap = first.info;
      sound = record {
        offer = offered;
        place = first.place;
        fit = fits.meets.sound;
      };
      covers = λ k d inside. record { fit = covered k d inside; place = allowed k d inside };
      counted = least.counted;
    } in record {
      meets = meets_as whole platform ps s met names;
      best = λ t meets.
          let m : MeetsLoosely platform ps t = loosely whole platform ps t meets in
          let suits : MeetsFit (offer_demands ps) (fit_of t) = fit_met platform ps t m in record {
            offer = none t meets;
            place = λ _ earlier. let at = place_met whole platform ps t meets in at.2 (first.earlier t.place at.0 at.1 earlier);
            count = least.least t.count m.counted;
            fit = λ same _. fits.best (fit_of t) same suits;
          };
    }

-- no settings have a refused offer
pub refused_none : (whole : Bool) (platform : PlatformFacts) (ps : List Participant) (t : Settings) → MeetsAs whole platform ps t → ¬ (IsOfferRefused whole t.offer (offer_demands ps))
refused_none whole platform ps t meets refused =
    refused_unmet whole t.offer (offer_demands ps) refused (fit_of t) refl (fit_met platform ps t (loosely whole platform ps t meets)) (named whole platform ps t meets)

-- the first fit, the first place and the least count together
pub best_together : (whole : Bool) (platform : PlatformFacts) (ps : List Participant) (fit : Fit) (place : Place) (count : ℕ)
    → IsFirstFit whole (offers_of platform) (offer_demands ps) fit → IsFirstPlace platform.heaps (place_demands ps) place
    → IsLeastCount (counts_asked ps) count → IsBest whole platform ps (settings_of fit place count)
best_together whole platform ps fit place count found =
    best_of whole platform ps fit place count found.offered found.best found.named (λ t meets earlier. refused_none whole platform ps t meets (found.first t.offer earlier))

-- without a count, a place or an offer no settings meet participants
pub unmet_by_count : (whole : Bool) (platform : PlatformFacts) (ps : List Participant) → HasNoCount (counts_asked ps) → IsUnmet whole platform ps
unmet_by_count whole platform ps none t meets = none t.count (loosely whole platform ps t meets).counted

pub unmet_by_place : (whole : Bool) (platform : PlatformFacts) (ps : List Participant) → HasNoPlace platform.heaps (place_demands ps) → IsUnmet whole platform ps
unmet_by_place whole platform ps none t meets =
    let at = place_met whole platform ps t meets in at.2 (none t.place at.0 at.1)

pub unmet_by_offer : (whole : Bool) (platform : PlatformFacts) (ps : List Participant) → AreOffersRefused whole (offers_of platform) (offer_demands ps) → IsUnmet whole platform ps
unmet_by_offer whole platform ps refused t meets =
    refused_none whole platform ps t meets (refused t.offer (loosely whole platform ps t meets).sound.offer)
