-- One more participant of a list.
use Rattle.std.proofs.Common.{◌≡◌, ◌==◌, ℕ, ◌+◌, ◌<◌, Bool, true, false, cond, not, arith, filter, filter_map, List, [], ◌∷◌, ◌++◌, length, get_or, take, map, All, Contains, Option, Some, None, is_some, IfNone, Result, Ok, Err, IfErr, IfOk, IsTrue, sym, ap, subst, ◌∙◌}
use Rattle.std.specs.Result.{is_err}
use Rattle.std.proofs.lemmas.List.{append-nil, get_or-map, length-map, map-append, take_more}
use Rattle.std.proofs.lemmas.List.Elements.{All-contains_itself, All-filter, All-map, All-weaker, filter-append, filter_map-append}
use Rattle.sysmem_counts.specs.declared.field.Field.{Field}
use Rattle.sysmem_counts.specs.declared.usage.Usage.{Usage}
use Rattle.sysmem_memory.specs.declared.domain.CoherencyDomain.{CoherencyDomain}
use Rattle.sysmem_memory.specs.Heap.{HeapFacts}
use Rattle.sysmem_memory.specs.PlaceTable.{PlaceDemand}
use Rattle.sysmem_memory.specs.Wishes.{MemoryWishes}
use Rattle.sysmem_merge.specs.Best.{IsBest, IsUnmet}
use Rattle.sysmem_merge.specs.Settings.{MeetsAs}
use Rattle.sysmem_merge.specs.declared.reason.Reason.{Reason}
use Rattle.sysmem_merge.specs.declared.settings.Settings.{Settings}
use Rattle.offer_fits.specs.Demands.{place_demand, place_demands}
use Rattle.negotiation_inputs.specs.Participant.{Participant}
use Rattle.negotiation_inputs.specs.Platform.{PlatformFacts}
use Rattle.settings_reasons.specs.True.{AreInTheWay, PlaceRefusal, refused_to}
use Rattle.value_sources.specs.declared.participant.NamedParticipant.{NamedParticipant}
use Rattle.value_sources.specs.Sources.{all_asked}

-- what is read of each, of one more
map_more : {X Y : Type 0} (f : X → Y) (xs : List X) (i : ℕ) (x : X) → i < length xs → x ≡ get_or xs i x → map f (take i xs) ++ f x ∷ [] ≡ map f (take (i + 1) xs)
map_more f xs i x there is =
    ap (λ y. map f (take i xs) ++ f y ∷ []) is
    ∙ (sym (map-append f (take i xs) (get_or xs i x ∷ [])) ∙ ap (map f) (sym (take_more xs i x there)))

-- what all ask, with one more
pub all_more : (participants : List NamedParticipant) (i : ℕ) (one : NamedParticipant) → i < length participants → one ≡ get_or participants i one → all_asked (take i participants) ++ one.asked.now ∷ [] ≡ all_asked (take (i + 1) participants)
all_more participants i one there is = map_more (λ o. o.asked.now) participants i one there is

-- what is read of what each asks, of one more
pub asked_more : {Y : Type 0} (f : Participant → Y) (participants : List NamedParticipant) (i : ℕ) (one : NamedParticipant) → i < length participants → one ≡ get_or participants i one → map f (all_asked (take i participants)) ++ f one.asked.now ∷ [] ≡ map f (all_asked (take (i + 1) participants))
asked_more f participants i one there is =
    sym (map-append f (all_asked (take i participants)) (one.asked.now ∷ [])) ∙ ap (map f) (all_more participants i one there is)

-- a demand of these parts
abbrev demand_of : MemoryWishes → Usage → PlaceDemand
demand_of m u = record { memory = m; usage = u }

-- what is asked of a place, with one more
pub demands_more : (participants : List NamedParticipant) (i : ℕ) (one : NamedParticipant) (m : MemoryWishes) (u : Usage) → i < length participants → one ≡ get_or participants i one → m ≡ one.asked.now.memory → u ≡ one.asked.now.usage
    → place_demands (all_asked (take i participants)) ++ demand_of m u ∷ [] ≡ place_demands (all_asked (take (i + 1) participants))
demands_more participants i one m u there is memory usage =
    let same : demand_of m u ≡ place_demand one.asked.now = λ j. record { memory = memory j; usage = usage j } in
    ap (λ d. place_demands (all_asked (take i participants)) ++ d ∷ []) same ∙ asked_more place_demand participants i one there is

-- what is said of no value holds where there is none
pub none_means : {A : Type 0} (o : Option A) (P : Type 0) (b : Bool) → is_some o ≡ not b → IfNone o P → IsTrue b → P
none_means None P b same holds is = holds
none_means (Some x) P b same holds is = let other : not b ≡ false = ap not is in absurd (cc)

-- what is said of a failure holds where there is one
pub err_means : {A E : Type 0} (r : Result A E) (P : Type 0) (b : Bool) → b ≡ is_err r → IfErr r (λ _. P) → IsTrue b → P
err_means (Err e) P b same holds is = holds
err_means (Ok x) P b same holds is = absurd (cc)

-- where the best settings were found, these meet the participants
pub ok_met : (r : Result Settings Reason) (platform : PlatformFacts) (ps : List Participant) (b : Bool) → b ≡ is_err r → IfOk r (IsBest false platform ps) → IsTrue (not b) → (s : Settings) × MeetsAs false platform ps s
ok_met (Ok s) platform ps b same best isnt = (s, best.meets)
ok_met (Err e) platform ps b same best isnt = let other : not b ≡ false = ap not same in absurd (cc)

-- the same participants are in the way
pub same_in_the_way : (platform : PlatformFacts) (participants some other : List NamedParticipant) → other ≡ some → AreInTheWay platform participants some → AreInTheWay platform participants other
same_in_the_way platform participants some other same way = subst (AreInTheWay platform participants) (sym same) way

-- all are in the way, where no settings meet them
pub all_in_the_way : (platform : PlatformFacts) (participants kept : List NamedParticipant) → kept ≡ participants → 0 < length participants → IsUnmet false platform (all_asked participants) → AreInTheWay platform participants kept
all_in_the_way platform participants kept same some unmet = same_in_the_way platform participants participants kept same (record { some = some; unmet = unmet; among = All-contains_itself participants })

-- so are those without one, where no settings meet these
pub fewer_in_the_way : (platform : PlatformFacts) (participants : List NamedParticipant) (node : ℕ) (kept these rest those : List NamedParticipant) → these ≡ kept → rest ≡ filter (λ one. not (one.node == node)) these → those ≡ rest
    → AreInTheWay platform participants kept → 0 < length those → IsUnmet false platform (all_asked those) → AreInTheWay platform participants rest
fewer_in_the_way platform participants node kept these rest those same left same' way some unmet = record {
  some = subst (λ ps. 0 < length ps) same' some;
  unmet = subst (λ ps. IsUnmet false platform (all_asked ps)) same' unmet;
  among = subst (All (Contains participants)) (sym (left ∙ ap (filter (λ one. not (one.node == node))) same)) (All-filter (λ one. not (one.node == node)) (Contains participants) kept way.among);
}

-- an item of a list is read among what is read of it
Contains-map : {X Y : Type 0} (f : X → Y) (xs : List X) (x : X) → Contains xs x → Contains (map f xs) (f x)
Contains-map f xs x there = (there.0, subst (λ n. there.0 < n) (sym (length-map xs f)) there.1, get_or-map f xs there.0 x (f x) there.1 ∙ ap f there.2)

-- those who are in the way are among all who are asked
pub asked_among : (participants those : List NamedParticipant) → All (Contains participants) those → All (Contains (all_asked participants)) (all_asked those)
asked_among participants those among =
    All-map (Contains (all_asked participants)) (λ o. o.asked.now) those (All-weaker (Contains participants) (λ o. Contains (all_asked participants) o.asked.now) (λ o here. Contains-map (λ (o : NamedParticipant). o.asked.now) participants o here) those among)

-- one more who is asked, and passes a test or not
filter_asked : (test : Participant → Bool) (participants : List NamedParticipant) (i : ℕ) (one : NamedParticipant) (b : Bool) → i < length participants → one ≡ get_or participants i one → test one.asked.now ≡ b
    → filter test (all_asked (take i participants)) ++ cond b (one.asked.now ∷ []) [] ≡ filter test (all_asked (take (i + 1) participants))
filter_asked test participants i one b there is passes =
    ap (λ b. filter test (all_asked (take i participants)) ++ cond b (one.asked.now ∷ []) []) (sym passes)
    ∙ (sym (filter-append test (all_asked (take i participants)) (one.asked.now ∷ [])) ∙ ap (filter test) (all_more participants i one there is))

-- what those ask, with one more
asked_push : (those more : List NamedParticipant) (one : NamedParticipant) → more ≡ those ++ one ∷ [] → all_asked more ≡ all_asked those ++ one.asked.now ∷ []
asked_push those more one pushed = ap all_asked pushed ∙ map-append (λ o. o.asked.now) those (one ∷ [])

-- one who passes the test is kept
pub one_kept : (test : Participant → Bool) (participants those more : List NamedParticipant) (i : ℕ) (one : NamedParticipant) → i < length participants → one ≡ get_or participants i one → test one.asked.now ≡ true → more ≡ those ++ one ∷ []
    → all_asked those ≡ filter test (all_asked (take i participants)) → all_asked more ≡ filter test (all_asked (take (i + 1) participants))
one_kept test participants those more i one there is passes pushed kept =
    asked_push those more one pushed ∙ (ap (λ asked. asked ++ one.asked.now ∷ []) kept ∙ filter_asked test participants i one true there is passes)

-- one who doesn't isn't
pub one_left : (test : Participant → Bool) (participants those : List NamedParticipant) (i : ℕ) (one : NamedParticipant) → i < length participants → one ≡ get_or participants i one → test one.asked.now ≡ false
    → all_asked those ≡ filter test (all_asked (take i participants)) → all_asked those ≡ filter test (all_asked (take (i + 1) participants))
one_left test participants those i one there is passes kept =
    kept ∙ (sym (append-nil (filter test (all_asked (take i participants)))) ∙ filter_asked test participants i one false there is passes)

-- a list that isn't empty asks something
pub some_asked : (those : List NamedParticipant) → 0 < length those → 0 < length (all_asked those)
some_asked those some = subst (λ n. 0 < n) (sym (length-map those (λ o. o.asked.now))) some

-- a reason of these parts
abbrev refusal : HeapFacts → CoherencyDomain → Field → List Participant → PlaceRefusal
refusal h d f ps = record { heap = h; domain = d; field = f; participants = ps }

-- the field refuses the place to nobody
pub refused_none : (heap : HeapFacts) (domain : CoherencyDomain) (field : Field) (those : List NamedParticipant) (asked : List Participant) → all_asked those ≡ asked → length those ≡ 0 → None ≡ refused_to heap domain field asked
refused_none heap domain field [] asked same none = ap (refused_to heap domain field) same
refused_none heap domain field (one ∷ others) asked same none = absurd (cc)

-- it refuses it to these
pub refused_some : (heap : HeapFacts) (domain : CoherencyDomain) (field : Field) (those : List NamedParticipant) (asked : List Participant) → all_asked those ≡ asked → 0 < length those
    → Some (refusal heap domain field (all_asked those)) ≡ refused_to heap domain field asked
refused_some heap domain field [] asked same some = absurd (omega arith)
refused_some heap domain field (one ∷ others) asked same some = ap (refused_to heap domain field) same

-- what the next field gives
next_field : (h : Field → Option PlaceRefusal) (fields : List Field) (i : ℕ) (d : Field) (o : Option PlaceRefusal) → i < length fields → o ≡ h (get_or fields i d)
    → filter_map h (take i fields) ++ filter_map (λ (f : Field). o) (d ∷ []) ≡ filter_map h (take (i + 1) fields)
next_field h fields i d o there same =
    ap (λ o. filter_map h (take i fields) ++ filter_map (λ (f : Field). o) (d ∷ [])) same
    ∙ sym (ap (filter_map h) (take_more fields i d there) ∙ filter_map-append h (take i fields) (get_or fields i d ∷ []))

-- one more field with a reason
pub field_more : (h : Field → Option PlaceRefusal) (fields : List Field) (i : ℕ) (d : Field) (reason : PlaceRefusal) (old new : List PlaceRefusal) → i < length fields → Some reason ≡ h (get_or fields i d) → new ≡ old ++ reason ∷ []
    → old ≡ filter_map h (take i fields) → new ≡ filter_map h (take (i + 1) fields)
field_more h fields i d reason old new there same pushed so_far =
    pushed ∙ (ap (λ l. l ++ reason ∷ []) so_far ∙ next_field h fields i d (Some reason) there same)

-- one more without
pub field_none : (h : Field → Option PlaceRefusal) (fields : List Field) (i : ℕ) (d : Field) (old : List PlaceRefusal) → i < length fields → None ≡ h (get_or fields i d) → old ≡ filter_map h (take i fields) → old ≡ filter_map h (take (i + 1) fields)
field_none h fields i d old there same so_far =
    so_far ∙ (sym (append-nil (filter_map h (take i fields))) ∙ next_field h fields i d None there same)
