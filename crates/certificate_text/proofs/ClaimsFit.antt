-- A true claim can be read.
use Rattle.std.proofs.Common.{◌≡◌, ℕ, ◌-◌, ◌^◌, ◌<◌, ◌≤◌, List, All, Option, Some, None, slice_get, option_map, sym, subst, arith}
use Rattle.std.proofs.lemmas.List.Elements.{All-get_or}
use Rattle.std.proofs.lemmas.Option.{slice_get_within, get_or_from_slice_get}
use Rattle.sysmem_memory.specs.Heap.{HeapFacts}
use Rattle.negotiation_inputs.specs.Participant.{Participant}
use Rattle.negotiation_inputs.specs.Platform.{PlatformFacts}
use Rattle.sysmem_tree.specs.LayoutLaws.{ChoicesLeaveOneForest, FewChildren, FewChoices}
use Rattle.sysmem_tree.specs.Node.{NodeFacts}
use Rattle.sysmem_tree.specs.Nodes.{IsTree}
use Rattle.sysmem_tree.specs.Shape.{Member, shape_of}
use Rattle.sysmem_merge.specs.declared.settings.Settings.{Settings}
use Rattle.offer_fits.specs.Fit.{OwnWithoutImage}
use Rattle.sysmem_merge.specs.Settings.{MeetsLoosely}
use Rattle.verdict_claims.specs.declared.certificate.Proof.{Proof}
use Rattle.verdict_claims.specs.declared.certificate.Proof.TheVariants as proves
use Rattle.verdict_claims.specs.declared.verdict.Verdict.{Verdict}
use Rattle.verdict_claims.specs.declared.verdict.Verdict.TheVariants as verdicts
use Rattle.verdict_claims.specs.Base.{BaseFacts, terms_of}
use Rattle.verdict_claims.specs.CertificateFacts.{CertificateFacts}
use Rattle.verdict_claims.specs.Chosen.{ChosenFacts}
use Rattle.verdict_claims.specs.Claim.{IsProofIn}
use Rattle.verdict_claims.specs.Verdict.{IsBestFor, IsOptimalIn}
use Rattle.certificate_text.specs.CanBeRead.{AreReadableSettings, IsReadableChoice, CanBeRead, HasHeapIds, IsReadableBase}
use Rattle.certificate_text.specs.Laws.{TrueClaimsCanBeRead}
use Rattle.certificate_text.proofs.ProofsFit.{certificate_fits, items_fit}
use Rattle.certificate_text.proofs.Shapes.{whole_reached, few_choices_there, small_choices}

heap_id : (heaps : List HeapFacts) (k : ℕ) (h : HeapFacts) → All (λ x. x.heap.id ≤ 2 ^ 64 - 1) heaps → slice_get heaps k ≡ Some h → h.heap.id ≤ 2 ^ 64 - 1
heap_id heaps k h ids here =
    subst (λ (x : HeapFacts). x.heap.id ≤ 2 ^ 64 - 1) (get_or_from_slice_get heaps k h h here) (All-get_or (λ x. x.heap.id ≤ 2 ^ 64 - 1) heaps k h (slice_get_within heaps k h here) ids)

-- settings that meet participants can be read
met_settings : (platform : PlatformFacts) → HasHeapIds platform → (ps : List Participant) (s : Settings) → MeetsLoosely platform ps s → AreReadableSettings platform s
met_settings platform ids ps s met =
    let limit : s.count ≤ 128 = met.counted.limit in
    let size : s.size_bytes < 2 ^ 64 = met.sound.fit.fits in
    record {
      count = omega (arith, limit);
      size_bytes = omega (arith, size);
      offer = met.sound.offer;
      heap = met.heap;
      place = met.sound.place;
      id = heap_id platform.heaps s.place.heap met.heap ids met.sound.place.heap;
      bounds = met.sound.fit.holds.bounds.in_range;
      own = λ none. subst (λ o. OwnWithoutImage o s.bounds) none met.sound.fit.own;
    }

-- so can the best of a domain, on a base that can
best_settings : (platform : PlatformFacts) → HasHeapIds platform → (nodes : List NodeFacts) (base : Option BaseFacts) → IsReadableBase platform base → (ms : List Member) (s : Settings)
    → IsBestFor platform (option_map (terms_of nodes) base) ms s → AreReadableSettings platform s
best_settings platform ids nodes None can ms s best = met_settings platform ids _ s best.meets.loosely
best_settings platform ids nodes (Some base) can ms s best = subst (AreReadableSettings platform) (sym best.same) can

module _ (one : ChoicesLeaveOneForest) (children : FewChildren) (few : FewChoices) (platform : PlatformFacts) (ids : HasHeapIds platform) (nodes : List NodeFacts) (tree : IsTree nodes) (r : ℕ)
    (base : Option BaseFacts) (can : IsReadableBase platform base) where
  choice_fits : (chosen : ChosenFacts) (certificate : CertificateFacts) → IsOptimalIn platform nodes r base (verdicts.Chosen chosen)
      → IsProofIn platform nodes r base (verdicts.Chosen chosen) (proves.Choice certificate) → IsReadableChoice platform chosen certificate
  choice_fits chosen certificate optimal proved = record {
    few = few_choices_there nodes r tree one children few chosen.selection proved.members proved.selects.leads;
    choices = small_choices nodes r tree one children few chosen.selection (shape_of nodes r) proved.members (whole_reached nodes r tree) proved.selects.leads;
    settings = best_settings platform ids nodes base can _ chosen.settings optimal.1.best;
    certified = certificate_fits nodes r tree one children few platform base chosen.selection chosen.settings certificate proved;
  }

  claim_fits : (verdict : Verdict) (proof : Proof) → IsOptimalIn platform nodes r base verdict → IsProofIn platform nodes r base verdict proof → CanBeRead platform verdict proof
  claim_fits (verdicts.Chosen chosen) (proves.Choice certificate) optimal proved = choice_fits chosen certificate optimal proved
  claim_fits (verdicts.Chosen chosen) (proves.Empty items) optimal proved = absurd proved
  claim_fits (verdicts.Chosen chosen) proves.Nothing optimal proved = absurd proved
  claim_fits verdicts.IntersectionEmpty (proves.Choice certificate) optimal proved = absurd proved
  claim_fits verdicts.IntersectionEmpty (proves.Empty items) optimal proved = items_fit nodes r tree one children few platform base items proved
  claim_fits verdicts.IntersectionEmpty proves.Nothing optimal proved = absurd proved
  claim_fits verdicts.TooMany (proves.Choice certificate) optimal proved = absurd proved
  claim_fits verdicts.TooMany (proves.Empty items) optimal proved = absurd proved
  claim_fits verdicts.TooMany proves.Nothing optimal proved = tt
  claim_fits verdicts.Failed proof optimal proved = absurd optimal
  claim_fits verdicts.NoMemory proof optimal proved = absurd optimal

pub true_claims : ChoicesLeaveOneForest → FewChildren → FewChoices → TrueClaimsCanBeRead
true_claims one children few platform nodes domain base claim ids tree can is =
    claim_fits one children few platform ids nodes tree domain base can claim.verdict claim.proof is.optimal is.proved
