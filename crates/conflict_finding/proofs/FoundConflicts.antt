-- What is found is a conflict, and where nothing is found settings meet what is settled.
use Rattle.std.proofs.Common.{◌≡◌, ◌<◌, ◌≤◌, ◌^◌, inl, inr, ℕ, Bool, true, false, List, [], ◌∷◌, ◌++◌, Option, Some, None, map, slice_get, refl, sym, ◌∙◌, ap, subst, arith}
use Rattle.std.specs.Prelude.{All, Any, Contains, filter, is_none, option_map}
use Rattle.std.specs.List.{cons_option}
use Rattle.std.proofs.lemmas.List.Elements.{All-tail, All-weaker, Contains-append_right}
use Rattle.list_lemmas.proofs.CallerLemmas.{All-unmap}
use Rattle.sysmem_counts.specs.Bounds.{IsTallyOf, most_number}
use Rattle.sysmem_counts.specs.Counts.{IsCountLine, IsCounted, IsFixedCountLine}
use Rattle.sysmem_counts.specs.Tally.{Tally}
use Rattle.sysmem_counts.specs.declared.constraints.CountConstraints.{CountConstraints}
use Rattle.sysmem_counts.specs.declared.field.Field.{Field}
use Rattle.sysmem_formats.specs.declared.offer.Offer.{Offer}
use Rattle.sysmem_memory.specs.Listed.{HeapPlace, places_of}
use Rattle.sysmem_memory.proofs.CallerLemmas.{listed_is_place}
use Rattle.offer_fits.specs.declared.fit.Fit.{Fit}
use Rattle.sysmem_merge.specs.declared.settings.Settings.{Settings}
use Rattle.offer_fits.specs.Demands.{counts_asked, offer_demand, offer_demands}
use Rattle.sysmem_merge.specs.Failing.{FailsOn}
use Rattle.offer_fits.specs.Fit.{CoversFit}
use Rattle.offer_fits.specs.Offers.{is_named}
use Rattle.sysmem_merge.specs.Settings.{CoversOn, MeetsAs, MeetsLoosely}
use Rattle.negotiation_inputs.specs.Participant.{Participant}
use Rattle.negotiation_inputs.specs.Platform.{PlatformFacts, offers_of}
use Rattle.sysmem_tree.specs.Forest.{Forest, choices, settled}
use Rattle.sysmem_tree.specs.Node.{NodeFacts}
use Rattle.sysmem_tree.specs.Path.{path_of}
use Rattle.sysmem_tree.specs.Shape.{Member, by_path}
use Rattle.conflict_finding.specs.declared.whom.Whom.TheVariants as whoms
use Rattle.verdict_claims.specs.Base.{Terms}
use Rattle.verdict_claims.specs.Finder.{has_count}
use Rattle.verdict_claims.specs.Line.{LineFacts}
use Rattle.verdict_claims.specs.Members.{participants, members_at, StandFor}
use Rattle.verdict_claims.specs.Naming.{Names, IsTrueOf}
use Rattle.conflict_finding.specs.Refusals.{ShareOffer, SharePlace, Ends, EndsAt}
use Rattle.verdict_claims.specs.Verdict.{MeetsFixed, MeetsSettled}
use Rattle.conflict_finding.specs.Whom.{names, members_named, line_on}
use Rattle.verdict_claims.proofs.CountNodes.{counts_are_of_some, fixed_counts_are_of_some}
use Rattle.conflict_finding.proofs.NamedLines.{names_those, names_one}

-- who has a count field
with_count : (ps : List Participant) → counts_asked (filter (names whoms.WithCount) ps) ≡ filter has_count (counts_asked ps)
with_count [] = refl
with_count (p ∷ ps) = by (has_count p.counts) refl (with_count ps) where
  by : (t : Bool) → has_count p.counts ≡ t → counts_asked (filter (names whoms.WithCount) ps) ≡ filter has_count (counts_asked ps)
      → counts_asked (filter (names whoms.WithCount) (p ∷ ps)) ≡ filter has_count (counts_asked (p ∷ ps))
  by true is rest = rw is (ap (λ cs. p.counts ∷ cs) rest)
  by false is rest = rw is rest

module _ (nodes : List NodeFacts) (ns given named' : List ℕ) (one : given ≡ ns) (two : named' ≡ ns) (all : List Member) (stand : StandFor (members_at nodes ns) all) (counts : Tally)
    (tally : IsTallyOf counts (counts_asked (participants (members_at nodes given)))) where
  -- what was counted is what all ask
  pub tally_of_all : IsTallyOf counts (counts_asked (participants all))
  tally_of_all = subst (λ ps. IsTallyOf counts (counts_asked ps)) (ap (λ xs. participants (members_at nodes xs)) one ∙ stand.same) tally

  -- a count line of all is a line of those whom it names
  pub count_found : (field : Field) → ((ps : List CountConstraints) → IsTallyOf counts ps → IsCountLine field ps) → (line : LineFacts) → line ≡ line_on nodes named' field whoms.WithCount
      → IsTrueOf all line.nodes (λ ps. IsCountLine line.field (counts_asked ps))
  count_found field true' line is = subst (λ (l : LineFacts). IsTrueOf all l.nodes (λ ps. IsCountLine l.field (counts_asked ps))) (sym (is ∙ ap (λ xs. line_on nodes xs field whoms.WithCount) two)) (
    filter (names whoms.WithCount) (participants all),
    names_those whoms.WithCount (members_at nodes ns) all stand,
    subst (IsCountLine field) (sym (with_count (participants all))) (counts_are_of_some field (counts_asked (participants all))
        (All-weaker (λ p. p.max_buffer_count < 2 ^ 32) (λ p. p.max_buffer_count ≤ most_number) (λ p less. omega (arith, less)) (counts_asked (participants all)) tally_of_all.fits)
        (true' (counts_asked (participants all)) tally_of_all)),
  )

  pub fixed_count_found : (count : ℕ) → count ≤ 128 → (field : Field) → ((ps : List CountConstraints) → IsTallyOf counts ps → IsFixedCountLine count field ps) → (line : LineFacts)
      → line ≡ line_on nodes named' field whoms.WithCount → IsTrueOf all line.nodes (λ ps. IsFixedCountLine count line.field (counts_asked ps))
  fixed_count_found count few field true' line is =
      subst (λ (l : LineFacts). IsTrueOf all l.nodes (λ ps. IsFixedCountLine count l.field (counts_asked ps))) (sym (is ∙ ap (λ xs. line_on nodes xs field whoms.WithCount) two)) (
        filter (names whoms.WithCount) (participants all),
        names_those whoms.WithCount (members_at nodes ns) all stand,
        subst (IsFixedCountLine count field) (sym (with_count (participants all)))
            (fixed_counts_are_of_some count field (counts_asked (participants all)) (omega (arith, few)) (true' (counts_asked (participants all)) tally_of_all)),
      )

-- a participant by its path
module _ (nodes : List NodeFacts) where
  pub one_path : (n : ℕ) (P : Participant → Type 0) → Any P (participants (members_at nodes (n ∷ []))) → map (λ m. m.path) (members_named whoms.All (members_at nodes (n ∷ []))) ≡ path_of nodes n ∷ []
  one_path n P any = by (slice_get nodes n) any where
    by : (u : Option NodeFacts) → Any P (participants (cons_option (option_map (by_path n (path_of nodes n)) u) []))
        → map (λ m. m.path) (members_named whoms.All (cons_option (option_map (by_path n (path_of nodes n)) u) [])) ≡ path_of nodes n ∷ []
    by None any = absurd (omega (arith, any.2))
    by (Some x) any = in_case x.constraints refl any where
      in_case : (c : Option Participant) → x.constraints ≡ c → Any P (cons_option x.constraints []) → map (λ m. m.path) (members_named whoms.All (by_path n (path_of nodes n) x ∷ [])) ≡ path_of nodes n ∷ []
      in_case None is any = (let a = subst (λ o. Any P (cons_option o [])) is any in absurd (omega (arith, a.2)))
      in_case (Some p) is any = rw is refl

  -- of settings that fail one of them
  pub failing_found : (platform : PlatformFacts) (s : Settings) (ns : List ℕ) (d : Forest Member) (field : Field) (node : ℕ) (path : List ℕ) → StandFor (members_at nodes ns) (settled d) → Contains ns node → path ≡ path_of nodes node
      → Any (FailsOn field platform s) (participants (members_at nodes (node ∷ []))) → IsTrueOf (settled d) (path ∷ []) (λ ps. Any (FailsOn field platform s) ps)
  failing_found platform s ns d field node path stand has is any = (
    participants (members_at nodes (node ∷ [])),
    subst (λ paths. Names (settled d) paths (participants (members_at nodes (node ∷ [])))) (one_path node (FailsOn field platform s) any ∙ ap (λ p. p ∷ []) (sym is)) (names_one nodes ns node (settled d) stand has),
    any,
  )

-- settings that fail nobody, with a count that suits, meet what is settled
pub fixed_met : (platform : PlatformFacts) (terms : Terms) (d : Forest Member) → All (CoversOn platform terms.settings) (participants (settled d))
    → IsCounted (counts_asked (participants (terms.accepted ++ settled d))) terms.settings.count → (t : Settings) × MeetsFixed platform terms (settled d) t
fixed_met platform terms d covers counted = (terms.settings, record { same = refl; covers = covers; counted = counted })

-- where lines end that have nothing to go up to
pub ended : {X Y : Type 0} (key : X → Y) (Share : X → Type 0) (x : X) → Ends None key Share x → Share x
ended key Share x (inl is) = absurd (cc)
ended key Share x (inr end) = end.1

-- an element behind others
pub there_is : {X : Type 0} (xs before behind : List X) (x : X) → xs ≡ before ++ x ∷ behind → Contains xs x
there_is xs before behind x is = subst (λ ys. Contains ys x) (sym is) (Contains-append_right before (x ∷ behind) x (0, omega arith, refl))

-- the settings of a fit, at a place
abbrev settings_of : Fit → HeapPlace → ℕ → Settings
settings_of fit p count = record { offer = fit.offer; place = p.place; count = count; size_bytes = fit.size_bytes; bounds = fit.bounds }

-- a count, a place that is shared and an offer that is are settings
shared_met : (platform : PlatformFacts) (ms : List Member) (whole : Bool) (count : ℕ) (p : HeapPlace) (o : Offer) → IsCounted (counts_asked (participants ms)) count → Contains (places_of platform.heaps) p
    → SharePlace ms p → Contains (offers_of platform) o → ShareOffer whole ms o → (t : Settings) × MeetsAs whole platform (participants ms) t
shared_met platform ms whole count p o counted listed place offered share = by whole refl where
  fits : All (λ q. CoversFit share.fit (offer_demand q)) (participants ms)
  fits = All-unmap (CoversFit share.fit) offer_demand (participants ms) share.best.meets.covers

  loosely : MeetsLoosely platform (participants ms) (settings_of share.fit p count)
  loosely = record {
    heap = p.heap;
    sound = record {
      offer = subst (Contains (offers_of platform)) (sym share.best.offer) offered;
      place = (listed_is_place platform.heaps p.place p.heap).1 listed;
      fit = share.best.meets.sound;
    };
    covers = λ k q less. record { fit = fits k q less; place = place k q less };
    counted = counted;
  }

  by : (w : Bool) → whole ≡ w → (t : Settings) × MeetsAs w platform (participants ms) t
  by true is = (settings_of share.fit p count, record { loosely = loosely; named = ap (λ f. is_named f (offer_demands (participants ms))) share.best.offer ∙ share.named is })
  by false is = (settings_of share.fit p count, loosely)

pub initial_met : (platform : PlatformFacts) (d : Forest Member) (whole : Bool) (R : HeapPlace → LineFacts → Type 0) (Q : Offer → LineFacts → Type 0) (places offers : List LineFacts) (count : ℕ)
    → whole ≡ is_none (choices d) → IsCounted (counts_asked (participants (settled d))) count
    → EndsAt R (Ends None (λ (p : HeapPlace). p.place) (SharePlace (settled d))) (places_of platform.heaps) places
    → EndsAt Q (Ends None (λ (o : Offer). o) (ShareOffer whole (settled d))) (offers_of platform) offers → (t : Settings) × MeetsSettled platform None d t
initial_met platform d whole R Q places offers count is counted a b =
    subst (λ w. (t : Settings) × MeetsAs w platform (participants (settled d)) t) is
    (shared_met platform (settled d) whole count a.at b.at counted (there_is (places_of platform.heaps) a.before a.behind a.at a.there)
    (ended (λ (p : HeapPlace). p.place) (SharePlace (settled d)) a.at a.end) (there_is (offers_of platform) b.before b.behind b.at b.there)
    (ended (λ (o : Offer). o) (ShareOffer whole (settled d)) b.at b.end))

-- what all have, those behind the first have
pub all_behind : {X : Type 0} (P : X → Type 0) (xs ys : List X) → All P (xs ++ ys) → All P ys
all_behind P [] ys all = all
all_behind P (x ∷ xs) ys all = all_behind P xs ys (All-tail P x (xs ++ ys) all)
