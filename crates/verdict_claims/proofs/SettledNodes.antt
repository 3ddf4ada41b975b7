-- The participants that choices settle, by their numbers, stand for the members that they do.
use Rattle.std.proofs.Common.{◌≡◌, ◌≢◌, ◌<◌, ◌≤◌, inl, inr, ℕ, suc, Bool, true, false, List, [], ◌∷◌, ◌++◌, length, Option, Some, None, map, slice_get, refl, sym, ◌∙◌, ap, subst, arith, eqb}
use Rattle.std.specs.Prelude.{◌||◌, All, AllPairs, filter, is_some, option_map, unwrap_or, IsSomeAnd}
use Rattle.std.specs.List.{AllByRecursion, IsDistinct, cons_option, list_any}
use Rattle.std.proofs.lemmas.Bool.{cases_eq, ne_eqb}
use Rattle.std.proofs.lemmas.List.Elements.{All-nil, All-cons, All-head, All-tail, All-weaker, All-append, All-filter, filter_map-append}
use Rattle.std.proofs.lemmas.List.Kept.{AllPairs-cons, AllPairs-filter}
use Rattle.std.proofs.lemmas.Map.Steps.{length-le_from_distinct_below}
use Rattle.std.proofs.lemmas.List.{map-append}
use Rattle.std.proofs.lemmas.Option.{same_Some, slice_get_within}
use Rattle.negotiation_inputs.specs.Participant.{Participant}
use Rattle.sysmem_tree.specs.Domain.{HasDomain}
use Rattle.sysmem_tree.specs.Forest.{Forest, settled}
use Rattle.sysmem_tree.specs.Laws.{AreOneForest, OnePath, PathsDiffer}
use Rattle.sysmem_tree.specs.Members.{AreItsNodes}
use Rattle.sysmem_tree.specs.Node.{NodeFacts}
use Rattle.sysmem_tree.specs.Nodes.{HasNode, IsTree}
use Rattle.sysmem_tree.specs.Path.{node_at}
use Rattle.sysmem_tree.specs.Selection.{after}
use Rattle.sysmem_tree.specs.Shape.{Member, by_path, shape_of, members_of, participants_of}
use Rattle.sysmem_tree.specs.Sublist.{IsSublist, ended, taken, left_out}
use Rattle.sysmem_tree.proofs.CallerLemmas.{node_within}
use Rattle.verdict_claims.specs.Base.{IsElsewhere}
use Rattle.verdict_claims.specs.Members.{StandFor, participants, member_at, members_at}
use Rattle.verdict_claims.proofs.Growing.{sub_itself, sub_both}
use Rattle.verdict_claims.proofs.Labels.{IsLabel, both_all}
use Rattle.verdict_claims.specs.Asked.{asks_at}
use Rattle.verdict_claims.proofs.Rolls.{number, member, labels_at, members_labelled, numbers_labelled, all_labelled, settled_both, numbers_settled, members_settled, all_settled, root_within}

-- a member has constraints
abbrev pub asks : Member → Bool
asks m = is_some m.constraints

-- a list without what fails a test
pub filter_sub : {X : Type 0} (p : X → Bool) (xs : List X) → IsSublist (filter p xs) xs
filter_sub p [] = ended
filter_sub p (x ∷ xs) = by (p x) refl (filter_sub p xs) where
  by : (t : Bool) → p x ≡ t → IsSublist (filter p xs) xs → IsSublist (filter p (x ∷ xs)) (x ∷ xs)
  by true is rest = rw is (taken x (filter p xs) xs rest)
  by false is rest = rw is (left_out x (filter p xs) xs rest)

-- the members without constraints ask nothing
pub asked_alike : (ms : List Member) → participants (filter asks ms) ≡ participants ms
asked_alike [] = refl
asked_alike (m ∷ ms) = by m.constraints refl (asked_alike ms) where
  by : (c : Option Participant) → m.constraints ≡ c → participants (filter asks ms) ≡ participants ms → participants (filter asks (m ∷ ms)) ≡ participants (m ∷ ms)
  by None is rest = rw is rest
  by (Some p) is rest = rw is (ap (λ ps. p ∷ ps) rest)

-- pairs of two lists one behind the other
pairs_append : {X : Type 0} (R : X → X → Type 0) (xs ys : List X) → AllPairs R xs → AllPairs R ys → All (λ x. All (R x) ys) xs → AllPairs R (xs ++ ys)
pairs_append R [] ys a b across = b
pairs_append R (x ∷ xs) ys a b across = AllPairs-cons R x (xs ++ ys)
    (All-append (R x) xs ys (λ k d less. a 0 (suc k) d (omega arith) (omega (arith, less))) (All-head (λ y. All (R y) ys) x xs across))
    (pairs_append R xs ys (λ i j d below within. a (suc i) (suc j) d (omega (arith, below)) (omega (arith, within))) b (All-tail (λ y. All (R y) ys) x xs across))

-- numbers that differ are distinct
distinct : (ns : List ℕ) → AllPairs (λ i j. i ≢ j) ns → IsDistinct eqb ns
unfolding IsDistinct
distinct [] pairs = tt
distinct (n ∷ ns) pairs = (
  heads ns (λ k d less. pairs 0 (suc k) d (omega arith) (omega (arith, less))),
  distinct ns (λ i j d below within. pairs (suc i) (suc j) d (omega (arith, below)) (omega (arith, within))),
) where
  heads : (ms : List ℕ) → All (λ m. n ≢ m) ms → AllByRecursion (λ m. eqb n m ≡ false) ms
  heads [] all = tt
  heads (m ∷ ms) all = (ne_eqb n m (All-head (λ k. n ≢ k) m ms all), heads ms (All-tail (λ k. n ≢ k) m ms all))

-- numbers of nodes that differ are at most as many as the nodes
few_numbers : (ns : List ℕ) (many : ℕ) → All (λ i. i < many) ns → AllPairs (λ i j. i ≢ j) ns → length ns ≤ many
few_numbers ns many within pairs = length-le_from_distinct_below ns many (distinct ns pairs) (below ns within) where
  below : (ms : List ℕ) → All (λ i. i < many) ms → (q : ℕ) → list_any (eqb q) ms ≡ true → q < many
  below [] all q h = absurd (cc)
  below (m ∷ ms) all q h = elim (cases_eq q m) [
    | inl same ↦ subst (λ i. i < many) (sym same) (All-head (λ i. i < many) m ms all)
    | inr other ↦ below ms (All-tail (λ i. i < many) m ms all) q (sym (ap (λ b. b || list_any (eqb q) ms) (ne_eqb q m other)) ∙ h)
  ]

-- a node that is elsewhere is there, and isn't one of the domain's
is_there : (nodes : List NodeFacts) (r i : ℕ) → IsElsewhere nodes r i → i < length nodes
is_there nodes r i else' = by (slice_get nodes i) refl else' where
  by : (o : Option NodeFacts) → slice_get nodes i ≡ o → IsSomeAnd o (λ n. n.domain ≢ r) → i < length nodes
  by None is h = absurd h
  by (Some n) is h = slice_get_within nodes i n is

is_other : (nodes : List NodeFacts) (r i j : ℕ) → IsElsewhere nodes r i → IsSomeAnd (slice_get nodes j) (λ n. n.domain ≡ r) → i ≢ j
is_other nodes r i j else' own same = by (slice_get nodes j) (subst (λ k. IsElsewhere nodes r k) same else') own where
  by : (o : Option NodeFacts) → IsSomeAnd o (λ n. n.domain ≢ r) → IsSomeAnd o (λ n. n.domain ≡ r) → ⊥
  by None a b = a
  by (Some n) a b = a b

module _ (nodes : List NodeFacts) (tree : IsTree nodes) (law : OnePath) where
  -- what is shown of a label's number is its member
  shown : (l : ℕ × Member) → IsLabel nodes l → member_at nodes l.0 ≡ Some l.1
  shown l is =
      let here = (law nodes l.0 tree (node_within nodes tree l.1.path l.0 is.leads)).only l.1.path is.leads in
      ap (λ path. option_map (by_path l.0 path) (slice_get nodes l.0)) (sym here) ∙ is.shows

  members_numbered : (ls : List (ℕ × Member)) → AllByRecursion (IsLabel nodes) ls → members_at nodes (map number ls) ≡ map member ls
  members_numbered [] all = refl
  members_numbered (l ∷ ls) all = ap (λ o. cons_option o (members_at nodes (map number ls))) (shown l all.0) ∙ ap (λ ms. l.1 ∷ ms) (members_numbered ls all.1)

  -- those with constraints, of labels
  abbrev asking : List (ℕ × Member) → List (ℕ × Member)
  asking ls = filter (λ l. asks l.1) ls

  asking_labels : (ls : List (ℕ × Member)) → AllByRecursion (IsLabel nodes) ls → AllByRecursion (IsLabel nodes) (asking ls)
  asking_labels [] all = tt
  asking_labels (l ∷ ls) all = by (asks l.1) refl (asking_labels ls all.1) where
    by : (t : Bool) → asks l.1 ≡ t → AllByRecursion (IsLabel nodes) (asking ls) → AllByRecursion (IsLabel nodes) (asking (l ∷ ls))
    by true is rest = rw is (all.0, rest)
    by false is rest = rw is rest

  asking_numbers : (ls : List (ℕ × Member)) → AllByRecursion (IsLabel nodes) ls → filter (λ i. is_some (asks_at nodes i)) (map number ls) ≡ map number (asking ls)
  asking_numbers [] all = refl
  asking_numbers (l ∷ ls) all = by (asks l.1) refl (asking_numbers ls all.1) where
    by : (t : Bool) → asks l.1 ≡ t → filter (λ i. is_some (asks_at nodes i)) (map number ls) ≡ map number (asking ls)
        → filter (λ i. is_some (asks_at nodes i)) (map number (l ∷ ls)) ≡ map number (asking (l ∷ ls))
    by true is rest = (let same : is_some (asks_at nodes l.0) ≡ true = ap is_some all.0.asks ∙ is in rw (same, is) (ap (λ ns. l.0 ∷ ns) rest))
    by false is rest = (let same : is_some (asks_at nodes l.0) ≡ false = ap is_some all.0.asks ∙ is in rw (same, is) rest)

  asking_members : (ls : List (ℕ × Member)) → map member (asking ls) ≡ filter asks (map member ls)
  asking_members [] = refl
  asking_members (l ∷ ls) = by (asks l.1) refl (asking_members ls) where
    by : (t : Bool) → asks l.1 ≡ t → map member (asking ls) ≡ filter asks (map member ls) → map member (asking (l ∷ ls)) ≡ filter asks (map member (l ∷ ls))
    by true is rest = rw is (ap (λ ms. l.1 ∷ ms) rest)
    by false is rest = rw is rest

  -- labels of nodes that differ have paths of their own
  paths_apart : (ls : List (ℕ × Member)) → AllByRecursion (IsLabel nodes) ls → AllPairs (λ i j. i ≢ j) (map number ls) → PathsDiffer (map member ls)
  paths_apart [] all pairs = λ i j d below within. absurd (omega (arith, within))
  paths_apart (l ∷ ls) all pairs = AllPairs-cons (λ a b. a.path ≢ b.path) l.1 (map member ls)
      (heads ls all.1 (λ k d less. pairs 0 (suc k) d (omega arith) (omega (arith, less))))
      (paths_apart ls all.1 (λ i j d below within. pairs (suc i) (suc j) d (omega (arith, below)) (omega (arith, within)))) where
        heads : (ms : List (ℕ × Member)) → AllByRecursion (IsLabel nodes) ms → All (λ n. l.0 ≢ n) (map number ms) → All (λ m. l.1.path ≢ m.path) (map member ms)
        heads [] labels differ = All-nil (λ m. l.1.path ≢ m.path)
        heads (m ∷ ms) labels differ = All-cons (λ m. l.1.path ≢ m.path) m.1 (map member ms)
            (λ same. All-head (λ n. l.0 ≢ n) m.0 (map number ms) differ (same_Some l.0 m.0 (sym all.0.leads ∙ (ap (node_at nodes) same ∙ labels.0.leads))))
            (heads ms labels.1 (All-tail (λ n. l.0 ≢ n) m.0 (map number ms) differ))

  module _ (r : ℕ) (has : HasDomain nodes r) (one : AreOneForest nodes r) (cs : List ℕ) (own : AreItsNodes nodes r (members_of nodes r cs)) (accepted : List ℕ)
      (else' : All (IsElsewhere nodes r) accepted) (once : AllPairs (λ i j. i ≢ j) accepted) where
    within : All (λ i. i < length nodes) accepted
    within = All-weaker (IsElsewhere nodes r) (λ i. i < length nodes) (is_there nodes r) accepted else'

    abbrev ours : List (ℕ × Member)
    ours = settled_both nodes tree law r (root_within nodes r has) one cs

    abbrev theirs : List (ℕ × Member)
    theirs = labels_at nodes tree law accepted

    our_labels : AllByRecursion (IsLabel nodes) ours
    our_labels = all_settled nodes tree law r (root_within nodes r has) one cs

    our_numbers : members_of nodes r cs ≡ map number ours
    our_numbers = numbers_settled nodes tree law r (root_within nodes r has) one cs

    our_members : (d : Forest Member) → after (shape_of nodes r) cs ≡ Some d → settled d ≡ map member ours
    our_members d leads = sym (ap (λ o. unwrap_or (option_map settled o) []) leads) ∙ members_settled nodes tree law r (root_within nodes r has) one cs

    across : All (λ i. All (λ j. i ≢ j) (members_of nodes r cs)) accepted
    across = All-weaker (IsElsewhere nodes r) (λ i. All (λ j. i ≢ j) (members_of nodes r cs))
        (λ i e. All-weaker (λ j. IsSomeAnd (slice_get nodes j) (λ n. n.domain ≡ r)) (λ j. i ≢ j) (λ j o. is_other nodes r i j e o) (members_of nodes r cs) own.own) accepted else'

    all_differ : AllPairs (λ i j. i ≢ j) (accepted ++ members_of nodes r cs)
    all_differ = pairs_append (λ i j. i ≢ j) accepted (members_of nodes r cs) once own.once across

    own_within : All (λ i. i < length nodes) (members_of nodes r cs)
    own_within = All-weaker (λ j. IsSomeAnd (slice_get nodes j) (λ n. n.domain ≡ r)) (λ i. i < length nodes) (λ i h. by i (slice_get nodes i) refl h) (members_of nodes r cs) own.own where
      by : (i : ℕ) (o : Option NodeFacts) → slice_get nodes i ≡ o → IsSomeAnd o (λ n. n.domain ≡ r) → i < length nodes
      by i None is h = absurd h
      by i (Some n) is h = slice_get_within nodes i n is

    -- they are nodes of the tree, and few
    pub all_there : All (HasNode nodes) (accepted ++ participants_of nodes r cs)
    all_there = All-append (λ i. i < length nodes) accepted (participants_of nodes r cs) within
        (All-filter (λ i. is_some (asks_at nodes i)) (λ i. i < length nodes) (members_of nodes r cs) own_within)

    pub few_there : length (accepted ++ participants_of nodes r cs) ≤ 128
    few_there = let few = few_numbers (accepted ++ participants_of nodes r cs) (length nodes) all_there
        (pairs_append (λ i j. i ≢ j) accepted (participants_of nodes r cs) once
        (AllPairs-filter (λ i j. i ≢ j) (λ i. is_some (asks_at nodes i)) (members_of nodes r cs) own.once)
        (All-weaker (λ i. All (λ j. i ≢ j) (members_of nodes r cs)) (λ i. All (λ j. i ≢ j) (participants_of nodes r cs))
        (λ i all. All-filter (λ j. is_some (asks_at nodes j)) (λ j. i ≢ j) (members_of nodes r cs) all) accepted across)) in
        omega (arith, few, tree.few)

    module _ (d : Forest Member) (leads : after (shape_of nodes r) cs ≡ Some d) where
      numbered : members_at nodes (participants_of nodes r cs) ≡ filter asks (settled d)
      numbered = ap (λ ns. members_at nodes (filter (λ i. is_some (asks_at nodes i)) ns)) our_numbers
          ∙ (ap (members_at nodes) (asking_numbers ours our_labels)
          ∙ (members_numbered (asking ours) (asking_labels ours our_labels)
          ∙ (asking_members ours ∙ ap (filter asks) (sym (our_members d leads)))))

      everyone : members_at nodes (accepted ++ participants_of nodes r cs) ≡ members_at nodes accepted ++ filter asks (settled d)
      everyone = filter_map-append (member_at nodes) accepted (participants_of nodes r cs) ∙ ap (λ ms. members_at nodes accepted ++ ms) numbered

      all_apart : PathsDiffer (members_at nodes accepted ++ settled d)
      all_apart = subst PathsDiffer
          (map-append member theirs ours ∙ (ap (λ ms. ms ++ map member ours) (members_labelled nodes tree law accepted) ∙ ap (λ ms. members_at nodes accepted ++ ms) (sym (our_members d leads))))
          (paths_apart (theirs ++ ours) (both_all (IsLabel nodes) theirs ours (all_labelled nodes tree law accepted within) our_labels)
          (subst (AllPairs (λ i j. i ≢ j))
          (sym (map-append number theirs ours ∙ (ap (λ ns. ns ++ map number ours) (numbers_labelled nodes tree law accepted within) ∙ ap (λ ns. accepted ++ ns) (sym our_numbers))))
          all_differ))

      -- and stand for those accepted before with what is settled
      pub stand_for : StandFor (members_at nodes (accepted ++ participants_of nodes r cs)) (members_at nodes accepted ++ settled d)
      stand_for = record {
        among = subst (λ ms. IsSublist ms (members_at nodes accepted ++ settled d)) (sym everyone)
            (sub_both (members_at nodes accepted) (members_at nodes accepted) (filter asks (settled d)) (settled d) (sub_itself (members_at nodes accepted)) (filter_sub asks (settled d)));
        same = ap participants everyone
            ∙ (filter_map-append (λ m. m.constraints) (members_at nodes accepted) (filter asks (settled d))
            ∙ (ap (λ ps. participants (members_at nodes accepted) ++ ps) (asked_alike (settled d))
            ∙ sym (filter_map-append (λ m. m.constraints) (members_at nodes accepted) (settled d))));
        apart = all_apart;
      }

-- of nobody
pub no_pairs : AllPairs {X = ℕ} (λ i j. i ≢ j) []
no_pairs = λ i j d below within. absurd (omega (arith, within))
