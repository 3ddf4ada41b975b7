-- What is kept, of either kind of domain.
use Rattle.std.proofs.Common.{◌≡◌, ◌≤◌, ◌<◌, ◌^◌, ◌+◌, ◌*◌, ℕ, Bool, true, false, List, [], ◌++◌, Option, Some, None, length, is_some, refl, sym, ◌∙◌, ap, subst, arith}
use Rattle.std.specs.Prelude.{◌↔◌, All, IfNone, IfSome, IsTrue, option_map}
use Rattle.std.specs.List.Sorted.{IsPermutation}
use Rattle.std.proofs.lemmas.List.{map-append}
use Rattle.std.proofs.lemmas.List.Elements.{filter_map-append}
use Rattle.std.proofs.lemmas.List.Sorted.{All-permutation, IsPermutation-append_right, IsPermutation-map, IsPermutation-sym, length_permutation}
use Rattle.sysmem_counts.proofs.CallerLemmas.{tally_in_order}
use Rattle.sysmem_counts.specs.Counts.{IsCounted}
use Rattle.sysmem_counts.specs.declared.constraints.CountConstraints.{CountConstraints}
use Rattle.sysmem_counts.specs.Tally.{sum_of}
use Rattle.sysmem_merge.specs.declared.settings.Settings.{Settings}
use Rattle.sysmem_merge.specs.declared.asked.Asked.{Asked}
use Rattle.sysmem_merge.specs.declared.asked.Asked.TheVariants as asked_as
use Rattle.sysmem_merge.specs.Asked.{IsAskedOf, IsOpenFrom}
use Rattle.sysmem_merge.proofs.CallerLemmas as merged
use Rattle.sysmem_merge.specs.Best as best
use Rattle.offer_fits.specs.Demands.{counts_asked}
use Rattle.sysmem_merge.specs.Settings.{CoversOn}
use Rattle.sysmem_merge.specs.Sum.{SumFacts, SumsUp, SumsInAnyOrder}
use Rattle.sysmem_merge.specs.Share.{IsShareOf, ShareFacts}
use Rattle.verdict_claims.specs.Base.{BaseFacts, terms_of}
use Rattle.verdict_claims.specs.Members.{participants, members_at}
use Rattle.verdict_claims.specs.Verdict.{MeetsFixed, MeetsFor, MeetsLooselyFor, IsBestFor}
use Rattle.negotiation_inputs.specs.Participant.{Participant}
use Rattle.negotiation_inputs.specs.Platform.{PlatformFacts}
use Rattle.search_questions.specs.declared.kept.PrefixSum.{PrefixSum}
use Rattle.search_questions.specs.declared.kept.PrefixSum.TheVariants as kept_as
use Rattle.search_questions.specs.declared.kept.ChoiceShare.{ChoiceShare}
use Rattle.search_questions.specs.declared.kept.ChoiceShare.TheVariants as part_as
use Rattle.search_questions.specs.declared.on_base.OnBase.{OnBase}
use Rattle.search_questions.specs.Kept.{TakesBase, IsKeptFor, IsKeptOf, IsPart, IsPartFor, HasRoom, HaveRoom}
use Rattle.search_questions.specs.Asking.{MeetsAs, IsAnswer, IsAnswerAt, IsBestAs, IsOpenOf, JoinsPairs, LooksAt}
use Rattle.search_questions.specs.Live.{SomeMeet}
use Rattle.search_questions.specs.Question.{MeetsOf, MeetsSoFar}
use Rattle.verdict_claims.specs.Matter.{Matter}
use Rattle.verdict_claims.specs.Asked.{asked_in}
use Rattle.search_questions.proofs.Shapes.{member_asks}
use Rattle.search_questions.proofs.AskedMembers.{accepted_asked}
use Rattle.search_questions.proofs.Taking.{few_asked_of}
use Rattle.sysmem_tree.specs.Forest.{Forest, settled}
use Rattle.sysmem_tree.specs.Node.{NodeFacts}
use Rattle.sysmem_tree.specs.Shape.{Member}

-- with a base, a part is how its participants take it
pub part_taken : (platform : PlatformFacts) (base : Option BaseFacts) (b : BaseFacts) (settings : Settings) (kept : OnBase) (ps : List Participant) → base ≡ Some b → settings ≡ b.settings
    → IsPart platform base (part_as.OnBase kept) ps → TakesBase platform settings [] kept ps
part_taken platform base b settings kept ps some is h = subst (λ s. TakesBase platform s [] kept ps) (sym is) (subst (λ o. IsPart platform o (part_as.OnBase kept) ps) some h)

pub taken_part : (platform : PlatformFacts) (base : Option BaseFacts) (b : BaseFacts) (settings : Settings) (kept : OnBase) (ps : List Participant) → base ≡ Some b → settings ≡ b.settings
    → TakesBase platform settings [] kept ps → IsPart platform base (part_as.OnBase kept) ps
taken_part platform base b settings kept ps some is h = subst (λ o. IsPart platform o (part_as.OnBase kept) ps) (sym some) (subst (λ s. TakesBase platform s [] kept ps) is h)

-- settings that the participants take behind those accepted before
-- are settings that meet the members
pub fixed_met : (platform : PlatformFacts) (nodes : List NodeFacts) (b : BaseFacts) (ms : List Member) (met : Bool)
    → IsTrue met ↔ (All (CoversOn platform b.settings) (participants ms) × IsCounted (counts_asked (asked_in nodes b.accepted) ++ counts_asked (participants ms)) b.settings.count)
    → IsTrue met ↔ MeetsFixed platform (terms_of nodes b) ms b.settings
fixed_met platform nodes b ms met h =
    let same : counts_asked (participants (members_at nodes b.accepted ++ ms)) ≡ counts_asked (asked_in nodes b.accepted) ++ counts_asked (participants ms) =
    ap counts_asked (filter_map-append member_asks (members_at nodes b.accepted) ms ∙ ap (λ xs. xs ++ participants ms) (accepted_asked nodes b.accepted))
    ∙ map-append (λ p. p.counts) (asked_in nodes b.accepted) (participants ms) in (
      λ is. record { same = refl; covers = (h.0 is).0; counted = subst (λ xs. IsCounted xs b.settings.count) (sym same) (h.0 is).1 },
      λ m. h.1 (m.covers, subst (λ xs. IsCounted xs b.settings.count) same m.counted),
    )

-- the test of settings that are a base's, behind what is kept
abbrev pub Suits : PlatformFacts → Settings → OnBase → Bool → Type 0
Suits platform settings kept met = (platform' : PlatformFacts) (earlier ps : List Participant) → TakesBase platform' settings earlier kept ps
    → IsTrue met ↔ (All (CoversOn platform' settings) ps × IsCounted (counts_asked earlier ++ counts_asked ps) settings.count)

module _ (platform : PlatformFacts) (nodes : List NodeFacts) (base : Option BaseFacts) (ms : List Member) where
  module _ (b : BaseFacts) (some : base ≡ Some b) (settings : Settings) (is : settings ≡ b.settings) (kept : OnBase) (met : Bool) (suits : Suits platform settings kept met)
      (keeps : IsKeptOf platform nodes base (kept_as.OnBase kept) (participants ms)) where
    test : IsTrue met ↔ MeetsFixed platform (terms_of nodes b) ms b.settings
    test = fixed_met platform nodes b ms met (subst (λ s. Suits platform s kept met) is suits platform (asked_in nodes b.accepted) (participants ms)
        (subst (λ o. IsKeptOf platform nodes o (kept_as.OnBase kept) (participants ms)) some keeps))

    pub base_best : met ≡ true → IsBestFor platform (option_map (terms_of nodes) base) ms settings
    base_best yes' = subst (λ o. IsBestFor platform (option_map (terms_of nodes) o) ms settings) (sym some) (subst (MeetsFixed platform (terms_of nodes b) ms) (sym is) (test.0 yes'))

    pub base_none : met ≡ false → (t : Settings) → ¬ (MeetsFor platform (option_map (terms_of nodes) base) ms t)
    base_none no' = subst (λ o. (t : Settings) → ¬ (MeetsFor platform (option_map (terms_of nodes) o) ms t)) (sym some)
        (λ t meets. never met no' (test.1 (subst (MeetsFixed platform (terms_of nodes b) ms) meets.same meets))) where
          never : (x : Bool) → x ≡ false → IsTrue x → ⊥
          never true e t = absurd (cc)
          never false e t = absurd (cc)

module _ (m : Matter) (ms : List Member) (b : BaseFacts) (some : m.base ≡ Some b) (settings : Settings) (is : settings ≡ b.settings) (kept : OnBase) (met : Bool)
    (suits : Suits m.platform settings kept met) (keeps : IsKeptFor m (kept_as.OnBase kept) (participants ms)) where
  -- as more members may come, all settings that meet them are the base's too
  loosely : (t : Settings) → MeetsSoFar m ms t → MeetsOf m ms t
  loosely t meets = subst (λ o. MeetsLooselyFor m.platform (option_map (terms_of m.nodes) o) ms t → MeetsFor m.platform (option_map (terms_of m.nodes) o) ms t) (sym some) (λ x. x) meets

  pub base_best_as : (whole : Bool) → met ≡ true → IsBestAs whole m ms settings
  base_best_as true yes' = base_best m.platform m.nodes m.base ms b some settings is kept met suits keeps yes'
  base_best_as false yes' = subst (λ o. IsBestFor m.platform (option_map (terms_of m.nodes) o) ms settings → MeetsLooselyFor m.platform (option_map (terms_of m.nodes) o) ms settings) (sym some) (λ x. x)
      (base_best m.platform m.nodes m.base ms b some settings is kept met suits keeps yes')

  pub base_none_as : (whole : Bool) → met ≡ false → (t : Settings) → ¬ (MeetsAs whole m ms t)
  base_none_as true no' = base_none m.platform m.nodes m.base ms b some settings is kept met suits keeps no'
  base_none_as false no' = λ t meets. base_none m.platform m.nodes m.base ms b some settings is kept met suits keeps no' t (loosely t meets)

-- a sum is kept only of an initial domain
pub sum_initial : (m : Matter) (s : SumFacts) (ps : List Participant) → IsKeptFor m (kept_as.Sum s) ps → (m.base ≡ None) × SumsUp s m.platform ps
sum_initial m s ps = by m.base where
  by : (o : Option BaseFacts) → IsKeptOf m.platform m.nodes o (kept_as.Sum s) ps → (o ≡ None) × SumsUp s m.platform ps
  by None keeps = (refl, keeps)
  by (Some b) keeps = absurd keeps

pub kept_sum : (m : Matter) (s : SumFacts) (ps : List Participant) → m.base ≡ None → SumsUp s m.platform ps → IsKeptFor m (kept_as.Sum s) ps
kept_sum m s ps none sums = subst (λ o. IsKeptOf m.platform m.nodes o (kept_as.Sum s) ps) (sym none) sums

-- and what is kept on a base is of none
pub base_no_initial : (m : Matter) (kept : OnBase) (ps : List Participant) → m.base ≡ None → IsKeptFor m (kept_as.OnBase kept) ps → ⊥
base_no_initial m kept ps none keeps = subst (λ o. IsKeptOf m.platform m.nodes o (kept_as.OnBase kept) ps) none keeps

pub part_no_initial : (m : Matter) (kept : OnBase) (ps : List Participant) → m.base ≡ None → IsPartFor m (part_as.OnBase kept) ps → ⊥
part_no_initial m kept ps none is = subst (λ o. IsPart m.platform o (part_as.OnBase kept) ps) none is

pub part_share : (m : Matter) (share : ShareFacts) (ps : List Participant) → m.base ≡ None → IsPartFor m (part_as.Share share) ps → IsShareOf share m.platform ps
part_share m share ps none is = subst (λ o. IsPart m.platform o (part_as.Share share) ps) none is

-- what is best for the participants of an initial domain is best for the members, and where they
-- have none the members have none
pub best_as : (whole : Bool) (m : Matter) (ms : List Member) (s : Settings) → m.base ≡ None → best.IsBest whole m.platform (participants ms) s → IsBestAs whole m ms s
best_as true m ms s none is = subst (λ o. IsBestFor m.platform (option_map (terms_of m.nodes) o) ms s) (sym none) is
best_as false m ms s none is = subst (λ o. MeetsLooselyFor m.platform (option_map (terms_of m.nodes) o) ms s) (sym none) is.meets

pub none_as : (whole : Bool) (m : Matter) (ms : List Member) → m.base ≡ None → best.IsUnmet whole m.platform (participants ms) → (t : Settings) → ¬ (MeetsAs whole m ms t)
none_as true m ms none unmet = subst (λ o. (t : Settings) → ¬ (MeetsFor m.platform (option_map (terms_of m.nodes) o) ms t)) (sym none) unmet
none_as false m ms none unmet = subst (λ o. (t : Settings) → ¬ (MeetsLooselyFor m.platform (option_map (terms_of m.nodes) o) ms t)) (sym none) unmet

-- what is told of participants, of the members whose they are
abbrev pub IsTold : Bool → Matter → List Member → Asked → Type 0
IsTold whole m ms (asked_as.Met s) = IsBestAs whole m ms s
IsTold whole m ms (asked_as.Unmet reason) = (t : Settings) → ¬ (MeetsAs whole m ms t)
IsTold whole m ms (asked_as.Open n) = IsOpenOf n whole m ms

told_of : (whole : Bool) (m : Matter) (ms : List Member) (asked : Asked) → m.base ≡ None → IsAskedOf whole m.platform (participants ms) asked → IsTold whole m ms asked
told_of whole m ms (asked_as.Met s) none is = best_as whole m ms s none is
told_of whole m ms (asked_as.Unmet reason) none is = none_as whole m ms none is.0
told_of whole m ms (asked_as.Open n) none is = record { initial = none; from = is }

-- a sum tells it
pub sum_told : (whole : Bool) (m : Matter) (ms : List Member) (kept : PrefixSum) (sum : SumFacts) (platform : PlatformFacts) (asked told : Asked) → platform ≡ m.platform → kept ≡ kept_as.Sum sum → asked ≡ told
    → ((ps : List Participant) → SumsUp sum platform ps → IsAskedOf whole platform ps asked) → IsKeptFor m kept (participants ms) → IsTold whole m ms told
sum_told whole m ms kept sum platform asked told same is one asks keeps =
    let sums = sum_initial m sum (participants ms) (subst (λ k. IsKeptFor m k (participants ms)) is keeps) in
    told_of whole m ms told sums.0
    (subst (IsAskedOf whole m.platform (participants ms)) one
    (subst (λ p. (ps : List Participant) → SumsUp sum p ps → IsAskedOf whole p ps asked) same asks (participants ms) sums.1))

-- what a look at a sum's pair gives
abbrev pub SumLooks : PlatformFacts → ℕ → Bool → SumFacts → SumFacts → Option Settings → Type 0
SumLooks platform index whole old new found = (ps : List Participant) → SumsUp old platform ps → index < old.joined → IsOpenFrom index whole platform ps
    → IfSome found (best.IsBest whole platform ps) × IfNone found (IsOpenFrom (index + 1) whole platform ps) × SumsUp new platform ps

-- of the members whose participants they are
pub sum_looked : (index : ℕ) (whole : Bool) (m : Matter) (old new : SumFacts) (found : Option Settings) → SumLooks m.platform index whole old new found → new.joined ≡ old.joined
    → LooksAt index whole m (kept_as.Sum old) (kept_as.Sum new) found
sum_looked index whole m old new found looks same = (
  λ ms keeps has open'.
      let (some, none, sums) = looks (participants ms) (sum_initial m old (participants ms) keeps).1 (omega (arith, has)) open'.from in (
        told ms found open'.initial some none,
        kept_sum m new (participants ms) open'.initial sums,
      ),
  λ k has. omega (arith, has, same),
) where
  told : (ms : List Member) (found : Option Settings) → m.base ≡ None → IfSome found (best.IsBest whole m.platform (participants ms)) → IfNone found (IsOpenFrom (index + 1) whole m.platform (participants ms))
      → IsAnswerAt index whole m ms found
  told ms (Some s) none is more = best_as whole m ms s none is
  told ms None none is more = record { initial = none; from = more }

-- a sum's pairs are joined from the sum above and a share
pub sums_joined : (n : ℕ) (above old new : SumFacts) (share : ShareFacts) → ((platform : PlatformFacts) (all ps qs : List Participant) → IsPermutation (ps ++ qs) all → n ≤ above.joined
    → SumsUp old platform all → SumsUp above platform ps → IsShareOf share platform qs → SumsUp new platform all) → n ≤ new.joined
    → JoinsPairs (kept_as.Sum above) (part_as.Share share) n (kept_as.Sum old) (kept_as.Sum new)
sums_joined n above old new share joins joined m all ps qs order has keeps above_keeps is =
    let sums = sum_initial m old all keeps in (
      kept_sum m new all sums.0 (joins m.platform all ps qs order has sums.1 (sum_initial m above ps above_keeps).1 (part_share m share qs sums.0 is)),
      joined,
    )

-- where each pair was looked at, none meet the members
pub none_left : (n : ℕ) (whole : Bool) (m : Matter) (ms : List Member) → length m.platform.pairs ≤ n → IsOpenOf n whole m ms → (t : Settings) → ¬ (MeetsAs whole m ms t)
none_left n whole m ms all open' =
    none_as whole m ms open'.initial (merged.none_left whole m.platform (participants ms) n all open'.from.no_image open'.from.before)

-- there is an answer exactly where some settings meet
pub told_met : (m : Matter) (d : Forest Member) (answer : Option Settings) (found : Bool) → found ≡ is_some answer → IsAnswer false m (settled d) answer
    → IsTrue found ↔ SomeMeet (MeetsSoFar m) d
told_met m d None found is none = (λ yes'. absurd (cc), λ some. absurd (none some.0 some.1))
told_met m d (Some s) found is met = (λ yes'. (s, met), λ some. is)

-- what is kept of a prefix and of a choice, joined
pub joined_base : (above more joined : OnBase) → ((platform : PlatformFacts) (settings : Settings) (earlier ps qs : List Participant) → TakesBase platform settings earlier above ps
    → TakesBase platform settings [] more qs → TakesBase platform settings earlier joined (ps ++ qs)) → (platform : PlatformFacts) (nodes : List NodeFacts) (base : Option BaseFacts) (ps qs : List Participant)
    → IsKeptOf platform nodes base (kept_as.OnBase above) ps → IsPart platform base (part_as.OnBase more) qs → IsKeptOf platform nodes base (kept_as.OnBase joined) (ps ++ qs)
joined_base above more joined join platform nodes None ps qs keeps is = absurd keeps
joined_base above more joined join platform nodes (Some b) ps qs keeps is = join platform b.settings (asked_in nodes b.accepted) ps qs keeps is

-- a part of at most 128 participants takes one more
pub has_room : (platform : PlatformFacts) (base : Option BaseFacts) (part : ChoiceShare) (ps : List Participant) → IsPart platform base part ps → length ps ≤ 128 → HasRoom part
has_room platform None (part_as.Share share) ps is few = omega (arith, is.sums.many, few)
has_room platform None (part_as.OnBase kept) ps is few = absurd is
has_room platform (Some b) (part_as.Share share) ps is few = absurd is
has_room platform (Some b) (part_as.OnBase kept) ps is few = omega (arith, is.small, few)

-- a prefix and a choice of so few participants fit together
pub have_room : (platform : PlatformFacts) (nodes : List NodeFacts) (base : Option BaseFacts) (kept : PrefixSum) (part : ChoiceShare) (ps qs : List Participant) → (IsKeptOf platform nodes base kept ps) → IsPart platform base part qs
    → ((b : BaseFacts) → base ≡ Some b → length b.accepted ≤ 128) → length ps ≤ 128 → length qs ≤ 128 → HaveRoom kept part
have_room platform nodes None (kept_as.Sum s) (part_as.Share share) ps qs keeps is few a b = omega (arith, keeps.many, is.sums.many, a, b)
have_room platform nodes None (kept_as.Sum s) (part_as.OnBase kept) ps qs keeps is few a b = tt
have_room platform nodes None (kept_as.OnBase s) (part_as.Share share) ps qs keeps is few a b = tt
have_room platform nodes None (kept_as.OnBase s) (part_as.OnBase kept) ps qs keeps is few a b = absurd keeps
have_room platform nodes (Some base) (kept_as.Sum s) (part_as.Share share) ps qs keeps is few a b = absurd keeps
have_room platform nodes (Some base) (kept_as.Sum s) (part_as.OnBase kept) ps qs keeps is few a b = tt
have_room platform nodes (Some base) (kept_as.OnBase s) (part_as.Share share) ps qs keeps is few a b = tt
have_room platform nodes (Some base) (kept_as.OnBase s) (part_as.OnBase kept) ps qs keeps is few a b =
    let accepted = few base refl in omega (arith, keeps.small, is.small, few_asked_of nodes base.accepted, accepted, a, b)

-- what is kept of participants is kept of them in any order
pub kept_in_order : SumsInAnyOrder → (platform : PlatformFacts) (nodes : List NodeFacts) (base : Option BaseFacts) (kept : PrefixSum) (ps qs : List Participant) → IsPermutation ps qs
    → IsKeptOf platform nodes base kept ps → IsKeptOf platform nodes base kept qs
kept_in_order law platform nodes None (kept_as.Sum s) ps qs order keeps = law s platform ps qs order keeps
kept_in_order law platform nodes None (kept_as.OnBase s) ps qs order keeps = absurd keeps
kept_in_order law platform nodes (Some base) (kept_as.Sum s) ps qs order keeps = absurd keeps
kept_in_order law platform nodes (Some base) (kept_as.OnBase s) ps qs order keeps =
    let earlier = counts_asked (asked_in nodes base.accepted) in
    let mixed = IsPermutation-append_right earlier (counts_asked ps) (counts_asked qs) (IsPermutation-map (λ (p : Participant). p.counts) ps qs order) in record {
      counts = record {
        tallied = keeps.counts.tallied ∙ tally_in_order (earlier ++ counts_asked ps) (earlier ++ counts_asked qs) mixed;
        fits = All-permutation (λ (q : CountConstraints). q.max_buffer_count < 2 ^ 32) (earlier ++ counts_asked ps) (earlier ++ counts_asked qs) mixed keeps.counts.fits;
      };
      small = subst (λ n. sum_of s.counts ≤ (length (asked_in nodes base.accepted) + n) * 2 ^ 33) (sym (length_permutation ps qs order)) keeps.small;
      accept = (
        λ is. All-permutation (CoversOn platform base.settings) ps qs order (keeps.accept.0 is),
        λ all. keeps.accept.1 (All-permutation (CoversOn platform base.settings) qs ps (IsPermutation-sym ps qs order) all),
      );
    }
