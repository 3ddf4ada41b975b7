-- Whom a path names of a roll.
use Rattle.std.proofs.Common.{eqb, ◌≤◌, rules, tests, ◌≡◌, ◌≢◌, ◌<◌, ℕ, suc, Bool, true, false, List, [], ◌∷◌, ◌++◌, Option, Some, None, length, map, slice_get, refl, sym, ◌∙◌, ap, subst, arith, inl, inr}
use Rattle.std.specs.Prelude.{◌==◌, ◌||◌, All, AllPairs, slice_index_or, is_some, option_map, option_and_then, unwrap_or, IsSome, IsSomeAnd, if◌then◌else◌}
use Rattle.std.specs.List.{AllByRecursion, IsDistinct, cons_option, filter_map, list_any}
use Rattle.std.proofs.lemmas.Bool.{cases_eq, ne_eqb}
use Rattle.std.proofs.lemmas.Map.Steps.{length-le_from_distinct_below}
use Rattle.std.proofs.lemmas.List.{length-map, map-append}
use Rattle.std.proofs.lemmas.Option.{same_Some, none-some, slice_get_within}
use Rattle.list_lemmas.proofs.CallerLemmas.{slice_get_some}
use Rattle.negotiation_inputs.specs.Participant.{Participant}
use Rattle.negotiation_inputs.specs.Platform.{PlatformFacts}
use Rattle.sysmem_tree.specs.Domain.{HasDomain}
use Rattle.sysmem_tree.specs.Forest.{Forest, settled, relabel}
use Rattle.sysmem_tree.specs.Laws.{by_both, AreOneForest, OnePath}
use Rattle.sysmem_tree.specs.LayoutLaws.{Both, LeaveOneForest}
use Rattle.sysmem_tree.specs.Node.{NodeFacts}
use Rattle.sysmem_tree.specs.Nodes.{HasNode, IsTree}
use Rattle.sysmem_tree.specs.Path.{node_at, path_of}
use Rattle.sysmem_tree.specs.Selection.{after, settled_by, IsPrefix}
use Rattle.sysmem_tree.specs.Shape.{Member, by_number, by_path, forest_of, shape_of, members_of}
use Rattle.sysmem_tree.proofs.CallerLemmas.{settled_relabel, after_relabel, node_within}
use Rattle.verdict_claims.specs.Base.{BaseFacts, IsGivenBase}
use Rattle.verdict_claims.specs.Fault.{AreNamed}
use Rattle.verdict_claims.specs.Asked.{asked_in, asks_at}
use Rattle.verdict_claims.specs.Members.{members_at, participants}
use Rattle.verdict_claims.specs.Naming.{same_path, asked_at}
use Rattle.verdict_claims.specs.Roll.{RollFacts, listed}
use Rattle.verdict_claims.proofs.Labels.{IsLabel, both_all, in_settled_by, labels_are}
use Rattle.verdict_claims.proofs.Naming.{asked_here, asked_later, one_path, path_itself}

abbrev pub number : ℕ × Member → ℕ
number l = l.0

abbrev pub member : ℕ × Member → Member
member l = l.1

-- what is found of the participant with the number i, where it may be there
abbrev pub told_of : List NodeFacts → List ℕ → ℕ → Option Participant
told_of nodes ns i = if list_any (λ j. j == i) ns then asks_at nodes i else None

module _ (nodes : List NodeFacts) (tree : IsTree nodes) (law : OnePath) where
  within : (i : ℕ) (path : List ℕ) → i < length nodes → node_at nodes path ≡ Some i → path ≡ path_of nodes i
  within i path less leads = (law nodes i tree less).only path leads

  -- at the path of a node the members tell what it asks, where its number is among them
  at_node : (path : List ℕ) (i : ℕ) → i < length nodes → node_at nodes path ≡ Some i → (ls : List (ℕ × Member)) → AllByRecursion (IsLabel nodes) ls
      → asked_at (map member ls) path ≡ told_of nodes (map number ls) i
  at_node path i less leads [] all = refl
  at_node path i less leads (l ∷ ls) all = by (at_node path i less leads ls all.1) (same_path l.1.path path) refl where
    put : (t : Bool) → (l.0 == i) ≡ t → told_of nodes (map number (l ∷ ls)) i ≡ (if t || list_any (λ j. j == i) (map number ls) then asks_at nodes i else None)
    put t is = rw is refl

    by : asked_at (map member ls) path ≡ told_of nodes (map number ls) i → (t : Bool) → same_path l.1.path path ≡ t → asked_at (map member (l ∷ ls)) path ≡ told_of nodes (map number (l ∷ ls)) i
    by rest true same =
        let paths : l.1.path ≡ path = one_path l.1.path path same in
        let is : l.0 ≡ i = same_Some l.0 i (sym all.0.leads ∙ (ap (node_at nodes) paths ∙ leads)) in
        let yes' : (l.0 == i) ≡ true = search (rules, tests, is) in
        asked_here l.1 (map member ls) path same ∙ (sym all.0.asks ∙ (ap (asks_at nodes) is ∙ sym (put true yes')))
    by rest false other = elim (cases_eq l.0 i) [
      | inl is ↦
          let one = within i l.1.path less (all.0.leads ∙ ap (λ j. Some j) is) in
          let two = within i path less leads in
          absurd (differ l.1.path path other (one ∙ sym two))
      | inr differs ↦ (let no' : (l.0 == i) ≡ false = search (rules, tests, differs) in
          asked_later l.1 (map member ls) path other ∙ (rest ∙ sym (put false no')))
    ] where
      differ : (a b : List ℕ) → same_path a b ≡ false → a ≢ b
      differ a b is same = let yes' : same_path a b ≡ true = subst (λ c. same_path a c ≡ true) same (path_itself a) in absurd (cc)

  -- where no node is, they tell nothing
  at_nowhere : (path : List ℕ) → node_at nodes path ≡ None → (ls : List (ℕ × Member)) → AllByRecursion (IsLabel nodes) ls → asked_at (map member ls) path ≡ None
  at_nowhere path none [] all = refl
  at_nowhere path none (l ∷ ls) all = by (at_nowhere path none ls all.1) (same_path l.1.path path) refl where
    by : asked_at (map member ls) path ≡ None → (t : Bool) → same_path l.1.path path ≡ t → asked_at (map member (l ∷ ls)) path ≡ None
    by rest true same = let leads = all.0.leads in let e = sym leads ∙ (ap (node_at nodes) (one_path l.1.path path same) ∙ none) in absurd (cc)
    by rest false other = asked_later l.1 (map member ls) path other ∙ rest

  -- nodes that are there as labels
  abbrev pub label_at : (i : ℕ) → Option NodeFacts → List (ℕ × Member)
  label_at i None = []
  label_at i (Some n) = by_both i (path_of nodes i) n ∷ []

  abbrev pub labels_at : List ℕ → List (ℕ × Member)
  labels_at [] = []
  labels_at (i ∷ is) = label_at i (slice_get nodes i) ++ labels_at is

  pub members_labelled : (is : List ℕ) → map member (labels_at is) ≡ members_at nodes is
  members_labelled [] = refl
  members_labelled (i ∷ is) = by (slice_get nodes i) (members_labelled is) where
    by : (o : Option NodeFacts) → map member (labels_at is) ≡ members_at nodes is
        → map member (label_at i o ++ labels_at is) ≡ cons_option (option_map (by_path i (path_of nodes i)) o) (members_at nodes is)
    by None h = h
    by (Some n) h = ap (λ ms. by_path i (path_of nodes i) n ∷ ms) h

  pub numbers_labelled : (is : List ℕ) → All (λ i. i < length nodes) is → map number (labels_at is) ≡ is
  numbers_labelled [] all = refl
  numbers_labelled (i ∷ is) all = by (slice_get nodes i) (slice_get_some nodes i (all 0 i (omega arith))).1 (numbers_labelled is (λ k d less. all (suc k) d (omega (arith, less)))) where
    by : (o : Option NodeFacts) → o ≡ Some (slice_get_some nodes i (all 0 i (omega arith))).0 → map number (labels_at is) ≡ is → map number (label_at i o ++ labels_at is) ≡ i ∷ is
    by None e h = absurd (cc)
    by (Some n) e h = ap (λ js. i ∷ js) h

  pub all_labelled : (is : List ℕ) → All (λ i. i < length nodes) is → AllByRecursion (IsLabel nodes) (labels_at is)
  all_labelled [] all = tt
  all_labelled (i ∷ is) all = by (slice_get nodes i) refl (all_labelled is (λ k d less. all (suc k) d (omega (arith, less)))) where
    by : (o : Option NodeFacts) → slice_get nodes i ≡ o → AllByRecursion (IsLabel nodes) (labels_at is) → AllByRecursion (IsLabel nodes) (label_at i o ++ labels_at is)
    by None e h = h
    by (Some n) e h = (
      record {
        leads = (law nodes i tree (all 0 i (omega arith))).leads;
        asks = ap (option_and_then (λ (x : NodeFacts). x.constraints)) e;
        shows = ap (option_map (by_path i (path_of nodes i))) e;
      },
      h,
    )

  module _ (r : ℕ) (there : r < length nodes) (one : AreOneForest nodes r) (cs : List ℕ) where
    abbrev pub both : Forest (ℕ × Member)
    both = forest_of by_both nodes r (path_of nodes r)

    abbrev pub settled_both : List (ℕ × Member)
    settled_both = unwrap_or (settled_by both cs) []

    mapped : {B : Type 0} (f : ℕ × Member → B) → unwrap_or (settled_by (relabel f both) cs) [] ≡ map f settled_both
    mapped f = ap (λ o. unwrap_or (option_map settled o) []) (after_relabel f cs both) ∙ by (after both cs) where
      by : (o : Option (Forest (ℕ × Member))) → unwrap_or (option_map settled (option_map (relabel f) o)) [] ≡ map f (unwrap_or (option_map settled o) [])
      by None = refl
      by (Some e) = settled_relabel f e

    pub numbers_settled : members_of nodes r cs ≡ map number settled_both
    numbers_settled = ap (λ d. unwrap_or (settled_by d cs) []) (sym one.numbers) ∙ mapped number

    pub members_settled : unwrap_or (settled_by (shape_of nodes r) cs) [] ≡ map member settled_both
    members_settled = ap (λ d. unwrap_or (settled_by d cs) []) (sym one.members) ∙ mapped member

    pub all_settled : AllByRecursion (IsLabel nodes) settled_both
    all_settled = in_settled_by (IsLabel nodes) both cs (labels_are nodes r (path_of nodes r) tree (law nodes r tree there).leads)

    asked_labels : (ms : List (ℕ × Member)) → AllByRecursion (IsLabel nodes) ms → asked_in nodes (map number ms) ≡ participants (map member ms)
    asked_labels [] all = refl
    asked_labels (m ∷ ms) all = ap (λ o. cons_option o (asked_in nodes (map number ms))) all.0.asks ∙ ap (cons_option m.1.constraints) (asked_labels ms all.1)

    -- what the settled nodes ask
    pub asked_settled : asked_in nodes (members_of nodes r cs) ≡ participants (unwrap_or (settled_by (shape_of nodes r) cs) [])
    asked_settled = ap (asked_in nodes) numbers_settled ∙ (asked_labels settled_both all_settled ∙ ap participants (sym members_settled))

    module _ (accepted : List ℕ) (inside : All (λ i. i < length nodes) accepted) where
      abbrev roll : RollFacts
      roll = record { nodes = nodes; domain = r; choices = cs; accepted = accepted }

      abbrev ls : List (ℕ × Member)
      ls = labels_at accepted ++ settled_both

      all_ls : AllByRecursion (IsLabel nodes) ls
      all_ls = both_all (IsLabel nodes) (labels_at accepted) settled_both (all_labelled accepted inside) all_settled

      listed_ls : map member ls ≡ listed roll
      listed_ls = map-append member (labels_at accepted) settled_both ∙ (ap (λ ms. ms ++ map member settled_both) (members_labelled accepted) ∙ ap (λ ms. members_at nodes accepted ++ ms) (sym members_settled))

      numbers_ls : map number ls ≡ accepted ++ members_of nodes r cs
      numbers_ls = map-append number (labels_at accepted) settled_both ∙ (ap (λ ms. ms ++ map number settled_both) (numbers_labelled accepted inside) ∙ ap (λ ms. accepted ++ ms) (sym numbers_settled))

      -- where no node is at a path, it names nobody
      pub names_nobody : (path : List ℕ) → node_at nodes path ≡ None → asked_at (listed roll) path ≡ None
      names_nobody path none = ap (λ ms. asked_at ms path) (sym listed_ls) ∙ at_nowhere path none ls all_ls

      -- a node that is there is named where it is one of the roll, with what it asks
      pub names_node : (path : List ℕ) (i : ℕ) → i < length nodes → node_at nodes path ≡ Some i → asked_at (listed roll) path ≡ told_of nodes (accepted ++ members_of nodes r cs) i
      names_node path i less leads = ap (λ ms. asked_at ms path) (sym listed_ls) ∙ (at_node path i less leads ls all_ls ∙ ap (λ ns. told_of nodes ns i) numbers_ls)

-- the root of a domain is one of the nodes
pub root_within : (nodes : List NodeFacts) (r : ℕ) → HasDomain nodes r → r < length nodes
root_within nodes r h = by (slice_get nodes r) refl h where
  by : (o : Option NodeFacts) → slice_get nodes r ≡ o → IsSomeAnd o (λ n. n.domain ≡ r) → r < length nodes
  by None is h = absurd h
  by (Some n) is h = slice_get_within nodes r n is

-- choices for a domain's shape are choices for its numbers
pub prefix_numbers : (nodes : List NodeFacts) (r : ℕ) (cs : List ℕ) → LeaveOneForest nodes r cs → IsPrefix (shape_of nodes r) cs → IsPrefix (forest_of by_number nodes r []) cs
prefix_numbers nodes r cs one prefix = subst IsSome (sym one.numbers) (by one.left (subst IsSome one.members prefix)) where
  by : (o : Option (Forest Both)) → IsSome (option_map (relabel member) o) → IsSome (option_map (relabel number) o)
  by None h = absurd (cc)
  by (Some e) h = refl

module _ (nodes : List NodeFacts) (tree : IsTree nodes) (law : OnePath) (r : ℕ) (has : HasDomain nodes r) (one : AreOneForest nodes r) (cs accepted : List ℕ)
    (inside : All (λ i. i < length nodes) accepted) (path : List ℕ) where
  abbrev these : RollFacts
  these = record { nodes = nodes; domain = r; choices = cs; accepted = accepted }

  -- nobody is told where no node is at the path
  pub told_nowhere : node_at nodes path ≡ None → None ≡ asked_at (listed these) path
  told_nowhere none = sym (names_nobody nodes tree law r (root_within nodes r has) one cs accepted inside path none)

  -- of a node that is there, what it asks if it is marked
  pub told_marked : (i : ℕ) → i < length nodes → node_at nodes path ≡ Some i → (marked : Bool) → marked ≡ list_any (λ j. j == i) (accepted ++ members_of nodes r cs)
      → (if marked then asks_at nodes i else None) ≡ asked_at (listed these) path
  told_marked i less leads marked is = ap (λ b. if b then asks_at nodes i else None) is ∙ sym (names_node nodes tree law r (root_within nodes r has) one cs accepted inside path i less leads)

  -- a node is where a path names somebody
  node_named : asked_at (listed these) path ≢ None → (i : ℕ) × (node_at nodes path ≡ Some i) × (i < length nodes)
  node_named some = by (node_at nodes path) refl where
    by : (o : Option ℕ) → node_at nodes path ≡ o → (i : ℕ) × (node_at nodes path ≡ Some i) × (i < length nodes)
    by None at = absurd (some (sym (told_nowhere at)))
    by (Some i) at = (i, at, node_within nodes tree path i at)

-- the number of the node at a path
abbrev number_at : List NodeFacts → List ℕ → ℕ
number_at nodes path = unwrap_or (node_at nodes path) 0

module _ (nodes : List NodeFacts) (tree : IsTree nodes) (law : OnePath) where
  abbrev IsThere : List ℕ → Type 0
  IsThere path = (i : ℕ) × (node_at nodes path ≡ Some i) × (i < length nodes)

  below : (path : List ℕ) → IsThere path → number_at nodes path < length nodes
  below path (i, at, less) = subst (λ o. unwrap_or o 0 < length nodes) (sym at) less

  apart : (a b : List ℕ) → IsThere a → IsThere b → a ≢ b → number_at nodes a ≢ number_at nodes b
  apart a b (i, at, less) (j, at', less') differ same =
      let e : i ≡ j = sym (ap (λ o. unwrap_or o 0) at) ∙ (same ∙ ap (λ o. unwrap_or o 0) at') in
      differ ((law nodes i tree less).only a at ∙ sym ((law nodes i tree less).only b (at' ∙ ap (λ k. Some k) (sym e))))

  heads_apart : (x : List ℕ) (xs : List (List ℕ)) → IsThere x → AllByRecursion IsThere xs → AllByRecursion (λ y. x ≢ y) xs → AllByRecursion (λ n. eqb (number_at nodes x) n ≡ false) (map (number_at nodes) xs)
  heads_apart x [] here all differ = tt
  heads_apart x (y ∷ xs) here all differ = (ne_eqb (number_at nodes x) (number_at nodes y) (apart x y here all.0 differ.0), heads_apart x xs here all.1 differ.1)

  all_differ : (x : List ℕ) (xs : List (List ℕ)) → ((k : ℕ) (d : List ℕ) → k < length xs → x ≢ slice_index_or xs k d) → AllByRecursion (λ y. x ≢ y) xs
  all_differ x [] h = tt
  all_differ x (y ∷ xs) h = (h 0 y (omega arith), all_differ x xs (λ k d less. h (suc k) d (omega (arith, less))))

  distinct_numbers : (xs : List (List ℕ)) → AllByRecursion IsThere xs → AllPairs (λ a b. a ≢ b) xs → IsDistinct eqb (map (number_at nodes) xs)
  unfolding IsDistinct
  distinct_numbers [] all pairs = tt
  distinct_numbers (x ∷ xs) all pairs = (
    heads_apart x xs all.0 all.1 (all_differ x xs (λ k d less. pairs 0 (suc k) d (omega arith) (omega (arith, less)))),
    distinct_numbers xs all.1 (λ i j d less inside. pairs (suc i) (suc j) d (omega (arith, less)) (omega (arith, inside))),
  )

  numbers_below : (xs : List (List ℕ)) → AllByRecursion IsThere xs → (q : ℕ) → list_any (eqb q) (map (number_at nodes) xs) ≡ true → q < length nodes
  numbers_below [] all q h = absurd (cc)
  numbers_below (x ∷ xs) all q h = elim (cases_eq q (number_at nodes x)) [
    | inl same ↦ subst (λ n. n < length nodes) (sym same) (below x all.0)
    | inr other ↦ numbers_below xs all.1 q (sym (ap (λ b. b || list_any (eqb q) (map (number_at nodes) xs)) (ne_eqb q (number_at nodes x) other)) ∙ h)
  ]

  few_there : (xs : List (List ℕ)) → AllByRecursion IsThere xs → AllPairs (λ a b. a ≢ b) xs → length xs ≤ 128
  few_there xs all pairs =
      let few = length-le_from_distinct_below (map (number_at nodes) xs) (length nodes) (distinct_numbers xs all pairs) (numbers_below xs all) in
      let long = length-map xs (number_at nodes) in
      omega (arith, few, long, tree.few)

  module _ (r : ℕ) (has : HasDomain nodes r) (one : AreOneForest nodes r) (cs accepted : List ℕ) (inside : All (λ i. i < length nodes) accepted) where
    all_there : (xs : List (List ℕ)) (ps : List Participant) → map (asked_at (listed (these nodes tree law r has one cs accepted inside []))) xs ≡ map (λ p. Some p) ps → AllByRecursion IsThere xs
    all_there [] ps each = tt
    all_there (x ∷ xs) [] each = absurd (cc (each))
    all_there (x ∷ xs) (p ∷ ps) each = (node_named nodes tree law r has one cs accepted inside x (λ e. none-some p (sym e ∙ head each)), all_there xs ps (tail each)) where
      head : {X : Type 0} {a b : X} {as' bs : List X} → (a ∷ as') ≡ (b ∷ bs) → a ≡ b
      head e = cc (e)

      tail : {X : Type 0} {a b : X} {as' bs : List X} → (a ∷ as') ≡ (b ∷ bs) → as' ≡ bs
      tail e = cc (e)

    -- participants that are named, each once, are at most as many as the nodes
    pub few_named : (xs : List (List ℕ)) → AreNamed (listed (record { nodes = nodes; domain = r; choices = cs; accepted = accepted })) xs → length xs ≤ 128
    few_named xs named = few_there xs (all_there xs named.0 named.1.each) named.1.once

-- what all on a roll ask, by their numbers
all_asked : (nodes : List NodeFacts) (ls : List (ℕ × Member)) → AllByRecursion (IsLabel nodes) ls → participants (map member ls) ≡ filter_map (asks_at nodes) (map number ls)
all_asked nodes [] all = refl
all_asked nodes (l ∷ ls) all = ap (λ o. cons_option o (participants (map member ls))) (sym all.0.asks) ∙ ap (cons_option (asks_at nodes l.0)) (all_asked nodes ls all.1)

pub asked_by_numbers : (nodes : List NodeFacts) (tree : IsTree nodes) (law : OnePath) (r : ℕ) → HasDomain nodes r → AreOneForest nodes r → (cs accepted : List ℕ) → All (λ i. i < length nodes) accepted
    → participants (listed (record { nodes = nodes; domain = r; choices = cs; accepted = accepted })) ≡ filter_map (asks_at nodes) (accepted ++ members_of nodes r cs)
asked_by_numbers nodes tree law r has one cs accepted inside =
    ap participants (sym (listed_ls nodes tree law r (root_within nodes r has) one cs accepted inside))
    ∙ (all_asked nodes (ls nodes tree law r (root_within nodes r has) one cs accepted inside) (all_ls nodes tree law r (root_within nodes r has) one cs accepted inside)
    ∙ ap (filter_map (asks_at nodes)) (numbers_ls nodes tree law r (root_within nodes r has) one cs accepted inside))

-- whom choices settle, alone or behind those accepted
pub listed_with : (nodes : List NodeFacts) (r : ℕ) (cs accepted : List ℕ) (d : Forest Member) → after (shape_of nodes r) cs ≡ Some d
    → listed (record { nodes = nodes; domain = r; choices = cs; accepted = accepted }) ≡ members_at nodes accepted ++ settled d
listed_with nodes r cs accepted d leads = ap (λ o. members_at nodes accepted ++ unwrap_or (option_map settled o) []) leads

pub listed_settled : (nodes : List NodeFacts) (r : ℕ) (cs : List ℕ) (d : Forest Member) → after (shape_of nodes r) cs ≡ Some d
    → listed (record { nodes = nodes; domain = r; choices = cs; accepted = [] }) ≡ settled d
listed_settled nodes r cs d leads = listed_with nodes r cs [] d leads

-- those accepted before are nodes
pub accepted_there : (platform : PlatformFacts) (nodes : List NodeFacts) (domain : ℕ) (given : Option BaseFacts) (base : BaseFacts) → IsGivenBase platform nodes domain given → given ≡ Some base
    → All (HasNode nodes) base.accepted
accepted_there platform nodes domain given base is some k d less =
    let one = (subst (IsGivenBase platform nodes domain) some is).1 in
    by (slice_index_or base.accepted k d) (slice_get nodes (slice_index_or base.accepted k d)) refl (one.elsewhere k d less) where
      by : (i : ℕ) (o : Option NodeFacts) → slice_get nodes i ≡ o → IsSomeAnd o (λ n. n.domain ≢ domain) → i < length nodes
      by i None at h = absurd h
      by i (Some n) at h = slice_get_within nodes i n at

-- what is made of an option is there where it is
pub some_mapped : {X Y : Type 0} (f : X → Y) (o : Option X) → is_some (option_map f o) ≡ is_some o
some_mapped f None = refl
some_mapped f (Some x) = refl
