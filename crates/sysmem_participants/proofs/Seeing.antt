-- Stubs that were seen one after the other.
use Rattle.std.proofs.Common.{◌≡◌, ◌<◌, ℕ, zero, suc, ◌+◌, Bool, true, false, List, [], ◌∷◌, Option, Some, None, length, replicate, get_or, map, slice_get, slice_set, refl, sym, ◌∙◌, ap, subst, arith, inl, inr}
use Rattle.std.specs.Prelude.{◌↔◌, IfSome}
use Rattle.std.proofs.lemmas.Bool.{cases_eq}
use Rattle.std.proofs.lemmas.List.{get_or-set_same, get_or-set_other, length-set}
use Rattle.std.proofs.lemmas.Option.{same_Some}
use Rattle.sysmem_alloc.specs.Book.{BookFacts}
use Rattle.sysmem_room.specs.declared.outcome.Outcome.{Outcome}
use Rattle.sysmem_room.specs.Agreeing.{IsKnown, book_log}
use Rattle.negotiation_inputs.specs.Platform.{PlatformFacts}
use Rattle.sysmem_tree.specs.Path.{node_at}
use Rattle.sysmem_participants.specs.Audit.{AreFor, AreMatched, AreRead, HasAt, HaveCalls, HaveVerdicts, IsAmong, IsAmongPaths, IsOf, IsRead}
use Rattle.sysmem_participants.specs.Held.{Left}
use Rattle.sysmem_participants.proofs.Noted.{known_on}

abbrev HasCalls : BookFacts → Left → Type 0
HasCalls b s = HasAt b s (λ i. book_log b.history i ≡ s.deeds)

abbrev HasVerdict : BookFacts → Left → Type 0
HasVerdict b s = HasAt b s (λ i. IsKnown b i s.known)

abbrev IsMarked : BookFacts → List Bool → Left → Type 0
IsMarked b marks s = HasAt b s (λ i. get_or marks i false ≡ true)

-- the stubs before an index: the node of each is marked, and each marked node has one; and what each has in common with its node
pub record SeenTo (b : BookFacts) (stubs : List Left) (marks : List Bool) (same_calls same_verdicts : Bool) (index : ℕ) : Type 0 where
  pub each : (k : ℕ) (d : Left) → k < index → IsMarked b marks (get_or stubs k d)
  pub marked : (i : ℕ) → get_or marks i false ≡ true → IsAmongPaths b stubs index i
  pub calls : (same_calls ≡ true) ↔ ((k : ℕ) (d : Left) → k < index → HasCalls b (get_or stubs k d))
  pub verdicts : (same_verdicts ≡ true) ↔ ((k : ℕ) (d : Left) → k < index → HasVerdict b (get_or stubs k d))

none_marked : (many k : ℕ) → get_or (replicate many false) k false ≡ true → ⊥
none_marked zero k is = absurd (cc)
none_marked (suc many) zero is = absurd (cc)
none_marked (suc many) (suc k) is = none_marked many k is

pub seen_none : (b : BookFacts) (stubs : List Left) → SeenTo b stubs (replicate 128 false) true true 0
seen_none b stubs = record {
  each = λ k d less. absurd (omega (arith, less));
  marked = λ i is. absurd (none_marked 128 i is);
  calls = (λ is k d less. absurd (omega (arith, less)), λ each. refl);
  verdicts = (λ is k d less. absurd (omega (arith, less)), λ each. refl);
}

-- what is true of each stub before an index and of the one that is written there
push_each : (P : Left → Type 0) (stubs : List Left) (index : ℕ) (s : Left) → index < length stubs → P s → ((k : ℕ) (d : Left) → k < index → P (get_or stubs k d))
    → (k : ℕ) (d : Left) → k < index + 1 → P (get_or (slice_set stubs index s) k d)
push_each P stubs index s less own each k d below = elim (cases_eq k index) [
  | inl same ↦ subst (λ j. P (get_or (slice_set stubs index s) j d)) (sym same) (subst P (sym (get_or-set_same stubs index s d less)) own)
  | inr other ↦ subst P (sym (get_or-set_other stubs index k s d other)) (each k d (omega (arith, below, other)))
]

-- and back
each_back : (P : Left → Type 0) (stubs : List Left) (index : ℕ) (s : Left) → index < length stubs → ((k : ℕ) (d : Left) → k < index + 1 → P (get_or (slice_set stubs index s) k d))
    → P s × ((k : ℕ) (d : Left) → k < index → P (get_or stubs k d))
each_back P stubs index s less each = (
  subst P (get_or-set_same stubs index s s less) (each index s (omega arith)),
  λ k d below. subst P (get_or-set_other stubs index k s d (λ e. omega (arith, e, below))) (each k d (omega (arith, below))),
)

-- what is true of the node at a stub's path is true of the node that was found there
found_at : (b : BookFacts) (s : Left) (node : ℕ) (P : ℕ → Type 0) → node_at b.state.tree.nodes s.path ≡ Some node → HasAt b s P → P node
found_at b s node P at has = let (i, here, is) = has in subst P (same_Some i node (sym here ∙ at)) is

-- a mark more leaves the others
still_marked : (marks : List Bool) (node i : ℕ) → node < length marks → get_or marks i false ≡ true → get_or (slice_set marks node true) i false ≡ true
still_marked marks node i less is = elim (cases_eq i node) [
  | inl same ↦ subst (λ j. get_or (slice_set marks node true) j false ≡ true) (sym same) (get_or-set_same marks node true false less)
  | inr other ↦ get_or-set_other marks node i true false other ∙ is
]

pub seen_more : (b : BookFacts) (stubs : List Left) (marks : List Bool) (calls verdicts calls' verdicts' : Bool) (index node : ℕ) (s : Left) → index < length stubs → node < length marks
    → node_at b.state.tree.nodes s.path ≡ Some node → ((calls' ≡ true) ↔ ((calls ≡ true) × (book_log b.history node ≡ s.deeds))) → ((verdicts' ≡ true) ↔ ((verdicts ≡ true) × IsKnown b node s.known))
    → SeenTo b stubs marks calls verdicts index → SeenTo b (slice_set stubs index s) (slice_set marks node true) calls' verdicts' (index + 1)
seen_more b stubs marks calls verdicts calls' verdicts' index node s less there at has knows seen = record {
  each = push_each (IsMarked b (slice_set marks node true)) stubs index s less (node, at, get_or-set_same marks node true false there)
      (λ k d below. let (i, path, is) = seen.each k d below in (i, path, still_marked marks node i there is));
  marked = λ i is. elim (cases_eq i node) [
    | inl same ↦ (index, omega arith, λ d. subst (λ (x : Left). node_at b.state.tree.nodes x.path ≡ Some i) (sym (get_or-set_same stubs index s d less)) (at ∙ ap Some (sym same)))
    | inr other ↦
        let (k, below, path) = seen.marked i (sym (get_or-set_other marks node i true false other) ∙ is) in
        (k, omega (arith, below), λ d. subst (λ (x : Left). node_at b.state.tree.nodes x.path ≡ Some i) (sym (get_or-set_other stubs index k s d (λ e. omega (arith, e, below)))) (path d))
  ];
  calls = (
    λ is. let (was, own) = has.0 is in push_each (HasCalls b) stubs index s less (node, at, own) (seen.calls.0 was),
    λ each. let (own, before) = each_back (HasCalls b) stubs index s less each in has.1 (seen.calls.1 before, found_at b s node (λ i. book_log b.history i ≡ s.deeds) at own),
  );
  verdicts = (
    λ is. let (was, own) = knows.0 is in push_each (HasVerdict b) stubs index s less (node, at, own) (seen.verdicts.0 was),
    λ each. let (own, before) = each_back (HasVerdict b) stubs index s less each in knows.1 (seen.verdicts.1 before, found_at b s node (λ i. IsKnown b i s.known) at own),
  );
}

-- the stubs of which all were seen, and all nodes are marked
pub all_matched : (b : BookFacts) (stubs : List Left) (marks : List Bool) (calls verdicts : Bool) (index : ℕ) → index ≡ length stubs → length stubs ≡ length b.state.tree.nodes
    → ((i : ℕ) → i < length b.state.tree.nodes → get_or marks i false ≡ true) → SeenTo b stubs marks calls verdicts index → AreMatched b stubs
all_matched b stubs marks calls verdicts index end many are seen = record {
  each = λ k d below. let (i, path, is) = seen.each k d (omega (arith, below, end)) in (i, path, tt);
  all = λ i less. subst (λ n. IsAmongPaths b stubs n i) end (seen.marked i (are i less));
  many = many;
}

-- where one stub is of each node, each node is marked
pub marked_all : (b : BookFacts) (stubs : List Left) (marks : List Bool) (calls verdicts : Bool) (index : ℕ) → index ≡ length stubs → SeenTo b stubs marks calls verdicts index
    → AreMatched b stubs → (i : ℕ) → i < length b.state.tree.nodes → get_or marks i false ≡ true
marked_all b stubs marks calls verdicts index end seen matched i less =
    let (k, below, path) = matched.all i less in
    let d : Left = record { path = []; deeds = []; cell = 0; known = None; platform = b.platform } in
    let (j, at, is) = seen.each k d (omega (arith, below, end)) in
    let same : j ≡ i = same_Some j i (sym at ∙ path d) in
    subst (λ n. get_or marks n false ≡ true) same is

pub have_calls : (b : BookFacts) (stubs : List Left) (marks : List Bool) (calls verdicts : Bool) (index : ℕ) → index ≡ length stubs → calls ≡ true → SeenTo b stubs marks calls verdicts index
    → HaveCalls b stubs
have_calls b stubs marks calls verdicts index end is seen k d below = seen.calls.0 is k d (omega (arith, below, end))

-- where the calls of a stub differ, not all stubs have their calls, and so for the verdicts
pub lack_calls : (b : BookFacts) (stubs : List Left) (marks : List Bool) (calls verdicts : Bool) (index : ℕ) → index ≡ length stubs → calls ≡ false → SeenTo b stubs marks calls verdicts index
    → HaveCalls b stubs → ⊥
lack_calls b stubs marks calls verdicts index end is seen have =
    let all : calls ≡ true = seen.calls.1 (λ k d below. have k d (omega (arith, below, end))) in
    absurd (cc (sym all ∙ is))

pub lack_verdicts : (b : BookFacts) (stubs : List Left) (marks : List Bool) (calls verdicts : Bool) (index : ℕ) → index ≡ length stubs → verdicts ≡ false → SeenTo b stubs marks calls verdicts index
    → HaveVerdicts b stubs → ⊥
lack_verdicts b stubs marks calls verdicts index end is seen have =
    let all : verdicts ≡ true = seen.verdicts.1 (λ k d below. have k d (omega (arith, below, end))) in
    absurd (cc (sym all ∙ is))

-- a stub that is at a node, with its calls and its verdict, is of that node
is_of : (b : BookFacts) (s : Left) (i j k : ℕ) → node_at b.state.tree.nodes s.path ≡ Some i → node_at b.state.tree.nodes s.path ≡ Some j → node_at b.state.tree.nodes s.path ≡ Some k
    → book_log b.history j ≡ s.deeds → IsKnown b k s.known → IsOf b s i
is_of b s i j k at calls_at verdict_at calls verdict =
    let one : j ≡ i = same_Some j i (sym calls_at ∙ at) in
    let two : k ≡ i = same_Some k i (sym verdict_at ∙ at) in
    record { at = at; log = subst (λ n. book_log b.history n ≡ s.deeds) one calls; verdict = subst (λ n. IsKnown b n s.known) two verdict }

-- each of the stubs that were seen is of a node
pub each_of : (b : BookFacts) (stubs : List Left) (marks : List Bool) (calls verdicts : Bool) (index : ℕ) → index ≡ length stubs → calls ≡ true → verdicts ≡ true
    → SeenTo b stubs marks calls verdicts index → (k : ℕ) (d : Left) → k < length stubs → (i : ℕ) × IsOf b (get_or stubs k d) i
each_of b stubs marks calls verdicts index end all_calls all_verdicts seen k d below =
    let less : k < index = omega (arith, below, end) in
    let (i, at, is) = seen.each k d less in
    let (j, calls_at, has) = seen.calls.0 all_calls k d less in
    let (n, verdict_at, knows) = seen.verdicts.0 all_verdicts k d less in
    (i, is_of b (get_or stubs k d) i j n at calls_at verdict_at has knows)

-- each node has one of the stubs that were seen
pub all_of : (b : BookFacts) (stubs : List Left) (marks : List Bool) (calls verdicts : Bool) (index : ℕ) → index ≡ length stubs → calls ≡ true → verdicts ≡ true
    → SeenTo b stubs marks calls verdicts index → (i : ℕ) → get_or marks i false ≡ true → IsAmong b stubs (length stubs) i
all_of b stubs marks calls verdicts index end all_calls all_verdicts seen i is =
    let (k, less, path) = seen.marked i is in (
      k,
      omega (arith, less, end),
      λ d.
          let (j, calls_at, has) = seen.calls.0 all_calls k d less in
          let (n, verdict_at, knows) = seen.verdicts.0 all_verdicts k d less in
          is_of b (get_or stubs k d) i j n (path d) calls_at verdict_at has knows,
    )

-- a stub that is at no node is one too many
pub none_there : (b : BookFacts) (stubs : List Left) (index : ℕ) (d : Left) → index < length stubs → node_at b.state.tree.nodes (get_or stubs index d).path ≡ None → AreMatched b stubs → ⊥
none_there b stubs index d less none matched =
    let (i, at, is) = matched.each index d less in
    absurd (cc (sym at ∙ none))

known_stays : (o : Option Outcome) → IfSome o (λ x. o ≡ Some x)
known_stays None = tt
known_stays (Some x) = refl

read_nothing : (s : Left) → IsRead s s
read_nothing s = record { path = refl; deeds = refl; cell = refl; known = known_stays s.known; platform = refl }

pub none_read : (stubs : List Left) → AreRead stubs stubs
none_read stubs = record { many = refl; each = λ k d less. read_nothing (get_or stubs k d) }

read_on : (a b c : Left) → IsRead a b → IsRead b c → IsRead a c
read_on a b c one two = record { path = two.path ∙ one.path; deeds = two.deeds ∙ one.deeds; cell = two.cell ∙ one.cell; known = known_on a.known b.known c.known one.known two.known; platform = two.platform ∙ one.platform }

same_default : (xs : List Left) (k : ℕ) (d e : Left) → k < length xs → get_or xs k d ≡ get_or xs k e
same_default [] k d e less = absurd (omega (arith, less))
same_default (x ∷ xs) zero d e less = refl
same_default (x ∷ xs) (suc k) d e less = same_default xs k d e (omega (arith, less))

-- one more stub was read
pub read_more : (old stubs : List Left) (index : ℕ) (s d : Left) → index < length stubs → IsRead (get_or stubs index d) s → AreRead old stubs → AreRead old (slice_set stubs index s)
read_more old stubs index s d less own read = record {
  many = length-set stubs index s ∙ read.many;
  each = λ k e below. elim (cases_eq k index) [
    | inl same ↦
        let was : IsRead (get_or old k d) (get_or stubs k d) = read.each k d below in
        let now : IsRead (get_or stubs k d) s = subst (λ j. IsRead (get_or stubs j d) s) (sym same) own in
        let here : get_or (slice_set stubs index s) k e ≡ s = ap (λ j. get_or (slice_set stubs index s) j e) same ∙ get_or-set_same stubs index s e less in
        subst (IsRead (get_or old k e)) (sym here) (subst (λ x. IsRead x s) (same_default old k d e below) (read_on (get_or old k d) (get_or stubs k d) s was now))
    | inr other ↦ subst (IsRead (get_or old k e)) (sym (get_or-set_other stubs index k s e other)) (read.each k e below)
  ];
}

-- as many actions are found in stubs that were read
pub same_deeds : (old new : List Left) → AreRead old new → map (λ (s : Left). s.deeds) new ≡ map (λ (s : Left). s.deeds) old
same_deeds old new read = by old new read.many read.each where
  by : (xs ys : List Left) → length ys ≡ length xs → ((k : ℕ) (d : Left) → k < length xs → IsRead (get_or xs k d) (get_or ys k d)) → map (λ (s : Left). s.deeds) ys ≡ map (λ (s : Left). s.deeds) xs
  by [] [] many each = refl
  by [] (y ∷ ys) many each = absurd (omega (arith, many))
  by (x ∷ xs) [] many each = absurd (omega (arith, many))
  by (x ∷ xs) (y ∷ ys) many each =
      let own : y.deeds ≡ x.deeds = (each 0 x (omega arith)).deeds in
      let rest : map (λ (s : Left). s.deeds) ys ≡ map (λ (s : Left). s.deeds) xs = by xs ys (omega (arith, many)) (λ k d less. each (suc k) d (omega (arith, less))) in
      ap (λ z. z ∷ map (λ (s : Left). s.deeds) ys) own ∙ ap (λ zs. x.deeds ∷ zs) rest

-- the stubs before an index are for a platform
abbrev pub ForFirst : PlatformFacts → List Left → ℕ → Type 0
ForFirst platform stubs index = (k : ℕ) (d : Left) → k < index → (get_or stubs k d).platform ≡ platform

-- stubs that were read are for the same platform
pub for_read : (platform : PlatformFacts) (old new : List Left) → AreRead old new → AreFor platform old → AreFor platform new
for_read platform old new read are k d less =
    let below : k < length old = omega (arith, less, read.many) in
    (read.each k d below).platform ∙ are k d below

pub for_more : (platform : PlatformFacts) (stubs : List Left) (index : ℕ) (s : Left) → slice_get stubs index ≡ Some s → s.platform ≡ platform → ForFirst platform stubs index
    → ForFirst platform stubs (index + 1)
for_more platform stubs index s at own first k d below = elim (cases_eq k index) [
  | inl same ↦ ap (λ (x : Left). x.platform) (ap (λ j. get_or stubs j d) same ∙ found stubs index at) ∙ own
  | inr other ↦ first k d (omega (arith, below, other))
] where
  found : (xs : List Left) (i : ℕ) → slice_get xs i ≡ Some s → get_or xs i d ≡ s
  found [] i here = absurd (cc)
  found (x ∷ xs) zero here = same_Some x s here
  found (x ∷ xs) (suc i) here = found xs i here
