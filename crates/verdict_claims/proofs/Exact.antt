-- A certificate proves that a verdict is optimal.
use Rattle.std.proofs.Common.{◌≡◌, arith, ℕ, zero, suc, ◌<◌, ◌≤◌, true, List, [], ◌∷◌, ◌++◌, length, Option, Some, None, Contains, slice_get, refl, sym, ◌∙◌, ap, subst}
use Rattle.std.specs.Prelude.{◌↔◌}
use Rattle.std.proofs.lemmas.Option.{same_Some, slice_get_within, get_or_from_slice_get}
use Rattle.sysmem_formats.specs.declared.offer.Offer.{Offer}
use Rattle.sysmem_memory.proofs.CallerLemmas.{stands_before}
use Rattle.sysmem_memory.specs.Listed.{HeapPlace}
use Rattle.sysmem_memory.specs.Place.{IsEarlier}
use Rattle.sysmem_merge.specs.declared.settings.Settings.{Settings}
use Rattle.sysmem_merge.specs.Best.{IsBest, IsEarlierOffer}
use Rattle.sysmem_merge.specs.Settings.{Meets, MeetsLoosely}
use Rattle.negotiation_inputs.specs.Participant.{Participant}
use Rattle.negotiation_inputs.specs.Platform.{PlatformFacts, offers_of}
use Rattle.sysmem_tree.specs.Forest.{Forest, settled}
use Rattle.sysmem_tree.specs.Selection.{IsSelection}
use Rattle.sysmem_tree.specs.Shape.{Member}
use Rattle.verdict_claims.specs.declared.certificate.Proof.{Proof}
use Rattle.verdict_claims.specs.declared.certificate.Proof.TheVariants as proves
use Rattle.verdict_claims.specs.declared.refutation.Item.{Item}
use Rattle.verdict_claims.specs.declared.verdict.Verdict.{Verdict}
use Rattle.verdict_claims.specs.declared.verdict.Verdict.TheVariants as verdicts
use Rattle.verdict_claims.specs.Base.{Terms}
use Rattle.verdict_claims.specs.Chosen.{ChosenFacts}
use Rattle.verdict_claims.specs.CertificateFacts.{CertificateFacts}
use Rattle.verdict_claims.specs.Certificate.{IsCertificate, IsRefutation, RefuseBefore, RefuseBeforeFor}
use Rattle.verdict_claims.specs.Check.{IsLeastAt, IsLeastFor, ChoicePasses, RefutationPasses, VerdictPasses, IsProof}
use Rattle.verdict_claims.specs.declared.conflict.Conflict.{Conflict}
use Rattle.verdict_claims.specs.Conflict.{RefusesPlace, RefusesOffer, IsConflictFor}
use Rattle.verdict_claims.specs.Laws.{ConflictsAreTrue, TestsAreExact}
use Rattle.verdict_claims.specs.Members.{participants}
use Rattle.verdict_claims.specs.Verdict.{IsForestUnmet, IsOptimal, MeetsFor, IsBestFor}
use Rattle.verdict_claims.proofs.Conflicts.{LineLaws, offer_refused, place_refused, conflict_unmet, conflict_leaves_none, zip_has}
use Rattle.verdict_claims.proofs.Fixing.{fixed_conflict_unmet, fixed_conflict_leaves_none}
use Rattle.verdict_claims.proofs.Growing.{sub_itself}
use Rattle.verdict_claims.proofs.Refuting.{refuted, earlier_unmet}

-- places in a list with one marked element
get_marked : {X : Type 0} (before behind : List X) (x : X) → slice_get (before ++ x ∷ behind) (length before) ≡ Some x
get_marked [] behind x = refl
get_marked (y ∷ before) behind x = get_marked before behind x

get_front : {X : Type 0} (before behind : List X) (x y : X) (k : ℕ) → k < length before → slice_get (before ++ x ∷ behind) k ≡ Some y → slice_get before k ≡ Some y
get_front [] behind x y k below here = absurd (omega (arith, below))
get_front (z ∷ before) behind x y zero below here = here
get_front (z ∷ before) behind x y (suc k) below here = get_front before behind x y k (omega (arith, below)) here

contains_at : {X : Type 0} (xs : List X) (k : ℕ) (x : X) → slice_get xs k ≡ Some x → Contains xs x
contains_at xs k x here = (k, slice_get_within xs k x here, get_or_from_slice_get xs k x x here)

-- an offer that comes before the marked one stands before it
offer_before : (os before behind : List Offer) (a b : Offer) → os ≡ before ++ b ∷ behind → IsEarlierOffer os a b → Contains before a
offer_before os before behind a b there earlier =
    let below : earlier.index < length before = earlier.before (length before) (ap (λ xs. slice_get xs (length before)) there ∙ get_marked before behind b) in
    contains_at before earlier.index a (get_front before behind b a earlier.index below (ap (λ xs. slice_get xs earlier.index) (sym there) ∙ earlier.here))

-- settings with another count, that suits too
with_count : Settings → ℕ → Settings
with_count s count = record { offer = s.offer; place = s.place; count = count; size_bytes = s.size_bytes; bounds = s.bounds }

least_count : (platform : PlatformFacts) (ps : List Participant) (s t : Settings) → IsLeastAt platform ps s → Meets platform ps t → s.count ≤ t.count
unfolding with_count
least_count platform ps s t least met =
    let mine : MeetsLoosely platform ps s = least.meets.loosely in
    (least.least (with_count s t.count) refl refl (record {
      loosely = record {
        heap = mine.heap;
        sound = record { offer = mine.sound.offer; place = mine.sound.place; fit = mine.sound.fit };
        covers = λ k d inside. let c = mine.covers k d inside in record { fit = c.fit; place = c.place };
        counted = met.loosely.counted;
      };
      named = least.meets.named;
    })).count

module _ (laws : LineLaws) (platform : PlatformFacts) where
  no_offer : (ms : List Member) (s : Settings) (c : CertificateFacts) → RefuseBefore platform ms s c → (t : Settings) → Meets platform (participants ms) t → ¬ (IsEarlierOffer (offers_of platform) t.offer s.offer)
  no_offer ms s c refuse t met earlier =
      let line = zip_has (RefusesOffer true ms) refuse.offers.before c.offers t.offer refuse.offers.each
      (offer_before (offers_of platform) refuse.offers.before refuse.offers.behind t.offer s.offer refuse.offers.there earlier) in
      offer_refused laws platform true true ms ms line.0 t (sub_itself ms) (λ _. (refl, refl)) line.1 met

  no_place : (ms : List Member) (s : Settings) (c : CertificateFacts) → RefuseBefore platform ms s c → (t : Settings) → Meets platform (participants ms) t → ¬ (IsEarlier t.place s.place)
  no_place ms s c refuse t met earlier =
      let m : MeetsLoosely platform (participants ms) t = met.loosely in
      let p : HeapPlace = record { place = t.place; heap = m.heap } in
      let line = zip_has (RefusesPlace ms) refuse.places.each.before c.places p refuse.places.each.each
      (stands_before platform.heaps t.place m.heap refuse.places.each.before refuse.places.each.behind refuse.places.at m.sound.place refuse.places.each.there (rw refuse.places.same earlier)) in
      place_refused laws platform true ms ms p line.0 t (sub_itself ms) m.sound.place refl line.1 met

  -- the least settings of their offer in their place are the best, where all
  -- offers and places before are refused
  least_is_best : (ms : List Member) (s : Settings) (c : CertificateFacts) → IsLeastAt platform (participants ms) s → RefuseBefore platform ms s c
      → IsBest true platform (participants ms) s
  least_is_best ms s c least refuse = record {
    meets = least.meets;
    best = λ t met. record {
      offer = λ earlier. no_offer ms s c refuse t met earlier;
      place = λ same earlier. no_place ms s c refuse t met earlier;
      count = least_count platform (participants ms) s t least met;
      fit = λ offer place. (least.least t offer place met).fit offer place;
    };
  }

  -- of both kinds of domain
  best_for : (terms : Option Terms) (ms : List Member) (s : Settings) (c : CertificateFacts) → IsLeastFor platform terms ms s → RefuseBeforeFor platform terms ms s c → IsBestFor platform terms ms s
  best_for None ms s c least refuse = least_is_best ms s c least refuse
  best_for (Some terms) ms s c least refuse = least

  least_for : (terms : Option Terms) (ms : List Member) (s : Settings) → IsBestFor platform terms ms s → IsLeastFor platform terms ms s
  least_for None ms s best = record { meets = best.meets; least = λ t offer place met. best.best t met }
  least_for (Some terms) ms s best = best

  -- a conflict is true
  pub unmet_for : (terms : Option Terms) (d : Forest Member) (c : Conflict) → IsConflictFor platform terms d c → IsForestUnmet (MeetsFor platform terms) d
  unmet_for None d c conflict = conflict_unmet laws platform d c conflict
  unmet_for (Some terms) d c conflict = fixed_conflict_unmet platform terms d c conflict

-- what is tested of a choice, and of a refutation
record AreExact (platform : PlatformFacts) (terms : Option Terms) (d : Forest Member) : Type 0 where
  chosen : (chosen : ChosenFacts) (certificate : CertificateFacts) → ChoicePasses platform terms d chosen.selection chosen.settings certificate
      ↔ (IsOptimal platform terms d (verdicts.Chosen chosen) × IsCertificate platform terms d chosen.selection chosen.settings certificate)
  empty : (items : List Item) → RefutationPasses platform terms d items
      ↔ (IsOptimal platform terms d verdicts.IntersectionEmpty × IsRefutation platform terms d items)

parts_are_exact : LineLaws → (platform : PlatformFacts) (terms : Option Terms) (d : Forest Member) → AreExact platform terms d
parts_are_exact laws platform terms d = record {
  chosen = λ chosen c. (
    λ p. (
      (
        p.0,
        record {
          members = p.1.members;
          selects = p.1.selects;
          best = best_for laws platform terms (settled p.1.members) chosen.settings c p.1.least
              (subst (λ e. RefuseBeforeFor platform terms (settled e) chosen.settings c) (one_end d chosen.selection p.2.members p.1.members p.2.selects p.1.selects) p.2.before);
          first = earlier_unmet (MeetsFor platform terms) (IsConflictFor platform terms) (unmet_for laws platform terms) d chosen.selection c.earlier p.2.earlier;
        },
      ),
      p.2,
    ),
    λ p. (p.0.0, record { members = p.0.1.members; selects = p.0.1.selects; least = least_for laws platform terms (settled p.0.1.members) chosen.settings p.0.1.best }, p.1),
  );
  empty = λ items. (
    λ p. ((p.0, (refuted (MeetsFor platform terms) (IsConflictFor platform terms) (unmet_for laws platform terms) items (d ∷ []) p.1).0), p.1),
    λ p. (p.0.0, p.1),
  );
} where
  one_end : (d : Forest Member) (cs : List ℕ) (e f : Forest Member) → IsSelection d cs e → IsSelection d cs f → e ≡ f
  one_end d cs e f a b = same_Some e f (sym a.leads ∙ b.leads)

-- each kind of verdict passes by its own kind of proof
verdict_exact : (platform : PlatformFacts) (terms : Option Terms) (d : Forest Member) → AreExact platform terms d → (v : Verdict) (proof : Proof)
    → VerdictPasses platform terms d v proof ↔ (IsOptimal platform terms d v × IsProof platform terms d v proof)
verdict_exact platform terms d parts (verdicts.Chosen chosen) (proves.Choice certificate) = parts.chosen chosen certificate
verdict_exact platform terms d parts verdicts.IntersectionEmpty (proves.Empty items) = parts.empty items
verdict_exact platform terms d parts verdicts.TooMany proves.Nothing = (λ many. (many, tt), λ p. p.0)
verdict_exact platform terms d parts v proof = (λ p. absurd p, λ p. absurd p.1)

pub tests_are_exact : LineLaws → TestsAreExact
tests_are_exact laws platform terms d =
    let parts = parts_are_exact laws platform terms d in
    record { chosen = parts.chosen; empty = parts.empty; verdict = verdict_exact platform terms d parts }

pub conflicts_are_true : LineLaws → ConflictsAreTrue
conflicts_are_true laws platform None d c conflict = record { unmet = conflict_unmet laws platform d c conflict; none = conflict_leaves_none laws platform d c conflict }
conflicts_are_true laws platform (Some terms) d c conflict = record { unmet = fixed_conflict_unmet platform terms d c conflict; none = fixed_conflict_leaves_none platform terms d c conflict }
