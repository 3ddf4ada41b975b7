-- What the domain that is to be decided next is decided on is a base for it.
use Rattle.std.proofs.Common.{◌≡◌, ◌≢◌, ◌<◌, ℕ, zero, suc, ◌&&◌, Bool, true, List, [], ◌∷◌, ◌++◌, length, Option, Some, None, slice_get, refl, sym, ◌∙◌, ap, subst, arith}
use Rattle.std.specs.Prelude.{All, AllPairs, IfSome, IsSome, IsSomeAnd, is_some, map, not, option_map, option_and_then, unwrap_or, if◌then◌else◌}
use Rattle.std.proofs.lemmas.List.Concat.{flat_map-cons}
use Rattle.std.proofs.lemmas.List.Elements.{All-append, All-cons, All-filter, All-nil, All-weaker, All-head, All-tail}
use Rattle.std.proofs.lemmas.List.Kept.{AllPairs-cons, AllPairs-filter}
use Rattle.std.proofs.lemmas.Option.{slice_get_within}
use Rattle.std.specs.List.{AllByRecursion}
use Rattle.list_lemmas.proofs.CallerLemmas.{and_parts}
use Rattle.sysmem_merge.specs.declared.settings.Settings.{Settings}
use Rattle.verdict_claims.specs.declared.verdict.Verdict.{Verdict}
use Rattle.verdict_claims.specs.declared.verdict.Verdict.TheVariants as verdicts
use Rattle.sysmem_tree.specs.declared.domain.Decision.TheVariants.{Chosen, NoneChosen}
use Rattle.verdict_claims.specs.Base.{IsBase, IsElsewhere, IsGivenBase}
use Rattle.negotiation_inputs.specs.Platform.{PlatformFacts}
use Rattle.sysmem_tree.specs.declared.node.Birth.{Birth}
use Rattle.sysmem_tree.specs.Domain.{TreeFacts, HasDomain, decision_of, has_failed, host_node, host_number, is_chosen, is_complete, is_host_selected, is_ready}
use Rattle.sysmem_tree.specs.Members.{MembersStandOnce}
use Rattle.sysmem_tree.specs.Node.{NodeFacts}
use Rattle.sysmem_tree.specs.Nodes.{HasNode, IsTree}
use Rattle.sysmem_tree.specs.Shape.{members_of, participants_of}
use Rattle.sysmem_tree.specs.Sublist.{IsSublist, ended, taken, left_out}
use Rattle.sysmem_alloc.specs.Book.{BookFacts, IsBook}
use Rattle.sysmem_alloc.specs.Decision.{DomainVerdict, choices_of, decision_for, settings_for, settings_of}
use Rattle.sysmem_alloc.specs.History.{replay}
use Rattle.sysmem_alloc.specs.Laws.{BaseIsGiven, LegalAgrees, LegalIsSound}
use Rattle.sysmem_alloc.specs.Sound.{AgreesWithTree, AreDistinct, AreSettingsOn, IsDecisionOn, IsOfReady, IsSoundState, MayWait, standing_of}
use Rattle.sysmem_alloc.specs.State.{State, base_of, chosen_by, chosen_in, next_ready}
use Rattle.sysmem_alloc.proofs.Agreeing.{none_entered, none_for, settings_fit}
use Rattle.sysmem_alloc.proofs.Entering.{state_sound}
use Rattle.sysmem_alloc.proofs.Hosts.{parent_within}
use Rattle.sysmem_alloc.proofs.Lists.{all_weaken}
use Rattle.sysmem_alloc.proofs.Next.{all_sub, first_waits, within}

-- the first of those who wait may
pub next_waits : LegalIsSound → (b : BookFacts) → IsBook b → IfSome (next_ready b.state) (MayWait b.state.tree)
next_waits sound b is = by (slice_get b.state.waiting 0) refl where
  by : (o : Option ℕ) → slice_get b.state.waiting 0 ≡ o → IfSome o (MayWait b.state.tree)
  by None e = tt
  by (Some r) e = first_waits b.state.tree b.state.waiting r (state_sound sound b is).waiting e

-- where there is no host, there is no number of one; and where there is one, there is
host_none : (nodes : List NodeFacts) (r : ℕ) → IsTree nodes → r < length nodes → host_node nodes r ≡ None → host_number nodes r ≡ None
host_none nodes r tree less none = by (slice_get nodes r) refl none where
  there : (i : ℕ) → i < length nodes → slice_get nodes i ≡ None → ⊥
  there i small e = at nodes i small e where
    at : (xs : List NodeFacts) (i : ℕ) → i < length xs → slice_get xs i ≡ None → ⊥
    at [] i small e = omega (arith, small)
    at (x ∷ xs) zero small e = absurd (cc)
    at (x ∷ xs) (suc i) small e = at xs i (omega (arith, small)) e

  born : (n : NodeFacts) → slice_get nodes r ≡ Some n → (b : Option Birth) → n.birth ≡ b → option_and_then (λ (x : Birth). slice_get nodes x.parent) b ≡ None → option_map (λ (x : Birth). x.parent) b ≡ None
  born n here None is e = refl
  born n here (Some b) is e = absurd (there b.parent (parent_within nodes r n b tree here is less) e)

  by : (o : Option NodeFacts) → slice_get nodes r ≡ o → option_and_then (λ (n : NodeFacts). option_and_then (λ (b : Birth). slice_get nodes b.parent) n.birth) o ≡ None
      → option_map (λ (b : Birth). b.parent) (option_and_then (λ (n : NodeFacts). n.birth) o) ≡ None
  by None here e = refl
  by (Some n) here e = born n here n.birth refl e

host_some : (nodes : List NodeFacts) (r : ℕ) (host : NodeFacts) → host_node nodes r ≡ Some host → IsSome (host_number nodes r)
host_some nodes r host some = by (slice_get nodes r) some where
  born : (b : Option Birth) → option_and_then (λ (x : Birth). slice_get nodes x.parent) b ≡ Some host → IsSome (option_map (λ (x : Birth). x.parent) b)
  born None e = absurd (cc)
  born (Some b) e = refl

  by : (o : Option NodeFacts) → option_and_then (λ (n : NodeFacts). option_and_then (λ (b : Birth). slice_get nodes b.parent) n.birth) o ≡ Some host
      → IsSome (option_map (λ (b : Birth). b.parent) (option_and_then (λ (n : NodeFacts). n.birth) o))
  by None e = absurd (cc)
  by (Some n) e = born n.birth e

-- the host's domain was decided Chosen
host_chosen : (t : TreeFacts) (r : ℕ) (host : NodeFacts) → is_ready t r ≡ true → host_node t.nodes r ≡ Some host → is_chosen (decision_of t.domains host.domain) ≡ true
host_chosen t r host ready some =
    let (_, rest) = and_parts (is_complete t.nodes r) (not (has_failed t r) && is_host_selected t.domains (host_node t.nodes r)) ready in
    let (_, selected) = and_parts (not (has_failed t r)) (is_host_selected t.domains (host_node t.nodes r)) rest in
    (and_parts (is_chosen (decision_of t.domains host.domain)) (not host.is_left_out) (subst (λ o. is_host_selected t.domains o ≡ true) some selected)).0

-- and what was chosen has settings
chosen_settings : (o : Option DomainVerdict) → is_chosen (standing_of o) ≡ true → (t : Settings) × (option_and_then (λ (d : DomainVerdict). settings_of d.verdict) o ≡ Some t)
chosen_settings None e = absurd (cc)
chosen_settings (Some d) e = by d.verdict e where
  by : (v : Option Verdict) → is_chosen (if is_some (choices_of v) then Chosen else NoneChosen) ≡ true → (t : Settings) × (settings_of v ≡ Some t)
  by None e = absurd (cc)
  by (Some (verdicts.Chosen chosen)) e = (chosen.settings, refl)
  by (Some verdicts.IntersectionEmpty) e = absurd (cc)
  by (Some verdicts.TooMany) e = absurd (cc)
  by (Some verdicts.Failed) e = absurd (cc)
  by (Some verdicts.NoMemory) e = absurd (cc)

-- chosen participants of other domains are elsewhere
module _ (law : MembersStandOnce) (nodes : List NodeFacts) (tree : IsTree nodes) where
  abbrev asks : ℕ → Bool
  asks i = is_some (option_and_then (λ (n : NodeFacts). n.constraints) (slice_get nodes i))

  by_one : (P : List ℕ → Type 0) → P [] → (d : DomainVerdict) → ((cs : List ℕ) → P (participants_of nodes d.domain cs)) → P (chosen_by nodes d)
  by_one P none d each = by (choices_of d.verdict) where
    by : (o : Option (List ℕ)) → P (unwrap_or (option_map (participants_of nodes d.domain) o) [])
    by None = none
    by (Some cs) = each cs

  own_nodes : (d : DomainVerdict) → HasDomain nodes d.domain → All (λ i. IsSomeAnd (slice_get nodes i) (λ (n : NodeFacts). n.domain ≡ d.domain)) (chosen_by nodes d)
  own_nodes d has = by_one (All Own) (All-nil Own) d (λ cs. All-filter asks Own (members_of nodes d.domain cs) (law nodes d.domain cs tree has).own) where
    Own : ℕ → Type 0
    Own i = IsSomeAnd (slice_get nodes i) (λ (n : NodeFacts). n.domain ≡ d.domain)

  own_once : (d : DomainVerdict) → HasDomain nodes d.domain → AllPairs (λ i j. i ≢ j) (chosen_by nodes d)
  own_once d has = by_one (AllPairs (λ i j. i ≢ j)) (λ i j x less small. absurd (omega (arith, small))) d
      (λ cs. AllPairs-filter (λ i j. i ≢ j) asks (members_of nodes d.domain cs) (law nodes d.domain cs tree has).once)

  elsewhere_one : (r i d : ℕ) → d ≢ r → IsSomeAnd (slice_get nodes i) (λ (n : NodeFacts). n.domain ≡ d) → IsElsewhere nodes r i
  elsewhere_one r i d other h = by (slice_get nodes i) h where
    by : (o : Option NodeFacts) → IsSomeAnd o (λ (n : NodeFacts). n.domain ≡ d) → IsSomeAnd o (λ (n : NodeFacts). n.domain ≢ r)
    by None h = h
    by (Some n) h = λ same. other (sym h ∙ same)

  pub all_elsewhere : (r : ℕ) (ds : List DomainVerdict) → AllByRecursion (λ (d : DomainVerdict). HasDomain nodes d.domain) ds → AllByRecursion (λ (d : DomainVerdict). d.domain ≢ r) ds → All (IsElsewhere nodes r) (chosen_in nodes ds)
  all_elsewhere r [] there other = All-nil (IsElsewhere nodes r)
  all_elsewhere r (d ∷ ds) there other = subst (All (IsElsewhere nodes r)) (sym (flat_map-cons (chosen_by nodes) d ds))
      (All-append (IsElsewhere nodes r) (chosen_by nodes d) (chosen_in nodes ds)
      (All-weaker (λ i. IsSomeAnd (slice_get nodes i) (λ (n : NodeFacts). n.domain ≡ d.domain)) (IsElsewhere nodes r) (λ i h. elsewhere_one r i d.domain other.0 h) (chosen_by nodes d) (own_nodes d there.0))
      (all_elsewhere r ds there.1 other.1))

  -- and they are nodes
  named : (P : NodeFacts → Type 0) (i : ℕ) → IsSomeAnd (slice_get nodes i) P → HasNode nodes i
  named P i h = by (slice_get nodes i) refl h where
    by : (o : Option NodeFacts) → slice_get nodes i ≡ o → IsSomeAnd o P → HasNode nodes i
    by None is h = absurd h
    by (Some n) is h = slice_get_within nodes i n is

  pub all_there : (ds : List DomainVerdict) → AllByRecursion (λ (d : DomainVerdict). HasDomain nodes d.domain) ds → All (HasNode nodes) (chosen_in nodes ds)
  all_there [] there = All-nil (HasNode nodes)
  all_there (d ∷ ds) there = subst (All (HasNode nodes)) (sym (flat_map-cons (chosen_by nodes) d ds))
      (All-append (HasNode nodes) (chosen_by nodes d) (chosen_in nodes ds)
      (All-weaker (λ i. IsSomeAnd (slice_get nodes i) (λ (n : NodeFacts). n.domain ≡ d.domain)) (HasNode nodes) (named (λ n. n.domain ≡ d.domain)) (chosen_by nodes d) (own_nodes d there.0))
      (all_there ds there.1))

  not_there : (r i j : ℕ) → IsSomeAnd (slice_get nodes i) (λ (n : NodeFacts). n.domain ≡ r) → IsElsewhere nodes r j → i ≢ j
  not_there r i j own other same = by (slice_get nodes j) (subst (λ k. IsSomeAnd (slice_get nodes k) (λ (n : NodeFacts). n.domain ≡ r)) same own) other where
    by : (o : Option NodeFacts) → IsSomeAnd o (λ (n : NodeFacts). n.domain ≡ r) → IsSomeAnd o (λ (n : NodeFacts). n.domain ≢ r) → ⊥
    by None a b = a
    by (Some n) a b = b a

  pairs_append : (xs ys : List ℕ) → AllPairs (λ i j. i ≢ j) xs → AllPairs (λ i j. i ≢ j) ys → All (λ i. All (λ j. i ≢ j) ys) xs → AllPairs (λ i j. i ≢ j) (xs ++ ys)
  pairs_append [] ys a b c = b
  pairs_append (x ∷ xs) ys a b c = AllPairs-cons (λ i j. i ≢ j) x (xs ++ ys)
      (All-append (λ j. x ≢ j) xs ys (λ k d small. a 0 (suc k) d (omega arith) (omega (arith, small))) (All-head (λ i. All (λ j. i ≢ j) ys) x xs c))
      (pairs_append xs ys (λ i j d less small. a (suc i) (suc j) d (omega (arith, less)) (omega (arith, small))) b (All-tail (λ i. All (λ j. i ≢ j) ys) x xs c))

  pub all_once : (ds : List DomainVerdict) → AllByRecursion (λ (d : DomainVerdict). HasDomain nodes d.domain) ds → AreDistinct (map (λ (d : DomainVerdict). d.domain) ds) → AllPairs (λ i j. i ≢ j) (chosen_in nodes ds)
  all_once [] there apart = λ i j x less small. absurd (omega (arith, small))
  all_once (d ∷ ds) there apart = subst (AllPairs (λ i j. i ≢ j)) (sym (flat_map-cons (chosen_by nodes) d ds))
      (pairs_append (chosen_by nodes d) (chosen_in nodes ds) (own_once d there.0) (all_once ds there.1 apart.1)
      (All-weaker (λ i. IsSomeAnd (slice_get nodes i) (λ (n : NodeFacts). n.domain ≡ d.domain)) (λ i. All (λ j. i ≢ j) (chosen_in nodes ds))
      (λ i h. All-weaker (IsElsewhere nodes d.domain) (λ j. i ≢ j) (λ j e. not_there d.domain i j h e) (chosen_in nodes ds) (all_elsewhere d.domain ds there.1 (others ds apart.0)))
      (chosen_by nodes d) (own_nodes d there.0))) where
        others : (es : List DomainVerdict) → AllByRecursion (λ y. d.domain ≢ y) (map (λ (e : DomainVerdict). e.domain) es) → AllByRecursion (λ (e : DomainVerdict). e.domain ≢ d.domain) es
        others [] a = tt
        others (e ∷ es) a = ((λ same. a.0 (sym same)), others es a.1)

pairs_rest : (x : ℕ) (xs : List ℕ) → AllPairs (λ i j. i ≢ j) (x ∷ xs) → All (λ j. x ≢ j) xs × AllPairs (λ i j. i ≢ j) xs
pairs_rest x xs all = ((λ k d small. all 0 (suc k) d (omega arith) (omega (arith, small))), (λ i j d less small. all (suc i) (suc j) d (omega (arith, less)) (omega (arith, small))))

-- some of those that are there once are
pairs_sub : (xs ys : List ℕ) → IsSublist xs ys → AllPairs (λ i j. i ≢ j) ys → AllPairs (λ i j. i ≢ j) xs
pairs_sub _ _ ended all = all
pairs_sub _ _ (taken x xs ys p) all = let rest = pairs_rest x ys all in AllPairs-cons (λ i j. i ≢ j) x xs (all_sub (λ j. x ≢ j) xs ys p rest.0) (pairs_sub xs ys p rest.1)
pairs_sub _ _ (left_out x xs ys p) all = pairs_sub xs ys p (pairs_rest x ys all).1

-- what a state gives the first domain that waits is a base for it
module _ (law : MembersStandOnce) (platform : PlatformFacts) (s : State) (r : ℕ) (sound : IsSoundState s) (agrees : AgreesWithTree platform s) (waits : MayWait s.tree r) where
  there : AllByRecursion (λ (d : DomainVerdict). HasDomain s.tree.nodes d.domain) s.decisions
  there = all_weaken (IsOfReady s.tree) (λ (d : DomainVerdict). HasDomain s.tree.nodes d.domain) s.decisions (λ d h. h.there) sound.decided

  others : AllByRecursion (λ (d : DomainVerdict). d.domain ≢ r) s.decisions
  others = none_entered s.decisions r (none_for platform s r agrees waits.undecided)

  based : (t : Settings) → AreSettingsOn platform t → IsBase platform s.tree.nodes r (record { settings = t; accepted = s.accepted })
  based t fits = record {
    some = fits.some;
    few = fits.few;
    heap = fits.heap;
    size = fits.size;
    bounds = fits.bounds;
    elsewhere = all_sub (IsElsewhere s.tree.nodes r) s.accepted (chosen_in s.tree.nodes s.decisions) agrees.accepted (all_elsewhere law s.tree.nodes sound.tree.tree r s.decisions there others);
    once = pairs_sub s.accepted (chosen_in s.tree.nodes s.decisions) agrees.accepted (all_once law s.tree.nodes sound.tree.tree s.decisions there agrees.once);
  }

  given_at : (o : Option NodeFacts) → host_node s.tree.nodes r ≡ o
      → IsGivenBase platform s.tree.nodes r (option_and_then (λ (host : NodeFacts). option_map (λ (settings : Settings). record { settings = settings; accepted = s.accepted }) (settings_for s.decisions host.domain)) o)
  given_at None is = host_none s.tree.nodes r sound.tree.tree (within s.tree.nodes r waits.there) is
  given_at (Some host) is =
      let (t, chosen) = chosen_settings (decision_for s.decisions host.domain) (ap is_chosen (sym (agrees.standing host.domain)) ∙ host_chosen s.tree r host waits.ready is) in
      subst (λ o. IsGivenBase platform s.tree.nodes r (option_map (λ (settings : Settings). record { settings = settings; accepted = s.accepted }) o)) (sym chosen)
      (host_some s.tree.nodes r host is, based t (subst (λ o. IfSome o (AreSettingsOn platform)) chosen (settings_fit platform s.tree.nodes s.decisions host.domain agrees.chosen)))

  pub given : IsGivenBase platform s.tree.nodes r (base_of s r)
  given = given_at (host_node s.tree.nodes r) refl

pub base_is_given : LegalIsSound → LegalAgrees → MembersStandOnce → BaseIsGiven
base_is_given sound agrees law platform es r legal next =
    let state = sound platform es legal in
    given law platform (replay es) r state (agrees platform es legal) (first_waits (replay es).tree (replay es).waiting r state.waiting next)

-- in a book
pub book_base_given : BaseIsGiven → (b : BookFacts) (r : ℕ) → IsBook b → next_ready b.state ≡ Some r → IsGivenBase b.platform b.state.tree.nodes r (base_of b.state r)
book_base_given law b r is next = subst (λ (s : State). IsGivenBase b.platform s.tree.nodes r (base_of s r)) (sym is.replayed)
    (law b.platform b.history r is.legal (subst (λ (s : State). next_ready s ≡ Some r) is.replayed next))
