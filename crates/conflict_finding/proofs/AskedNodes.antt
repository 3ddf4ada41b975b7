-- What one more node among those of participants adds.
use Rattle.std.proofs.Common.{◌≡◌, ◌<◌, ◌≤◌, ℕ, ◌+◌, Bool, true, false, List, [], ◌∷◌, ◌++◌, length, Option, Some, None, map, take, get_or, slice_get, refl, sym, ◌∙◌, ap, subst, append-nil}
use Rattle.std.specs.Prelude.{if◌then◌else◌, All, IfSome, option_map}
use Rattle.std.specs.Option.{option_map_or}
use Rattle.std.specs.List.{cons_option}
use Rattle.std.proofs.lemmas.List.{map-append, take_more, take_all}
use Rattle.std.proofs.lemmas.List.Elements.{filter_map-append, filter-append}
use Rattle.list_lemmas.proofs.CallerLemmas.{slice_get_some}
use Rattle.offer_fits.specs.Demands.{counts_asked, offer_demand, offer_demands}
use Rattle.negotiation_inputs.specs.Participant.{Participant}
use Rattle.sysmem_tree.specs.Node.{NodeFacts}
use Rattle.sysmem_tree.specs.Nodes.{HasNode}
use Rattle.sysmem_tree.specs.Path.{path_of}
use Rattle.sysmem_tree.specs.Shape.{Member, by_path}
use Rattle.conflict_finding.specs.declared.whom.Whom.{Whom}
use Rattle.conflict_finding.specs.declared.whom.Whom.TheVariants as whoms
use Rattle.verdict_claims.specs.Members.{participants, member_at, members_at}
use Rattle.conflict_finding.specs.Whom.{names, members_named}

abbrev Path : Member → List ℕ
Path m = m.path

-- whether a line names the one at a node
module _ (nodes : List NodeFacts) (n : ℕ) (less : n < length nodes) (o : Option Participant) (asks : IfSome (slice_get nodes n) (λ x. o ≡ x.constraints)) where
  pub one_named : (whom : Whom) (t : Bool) → t ≡ option_map_or (names whom) o false → (b : Bool) → t ≡ b
      → map Path (members_named whom (members_at nodes (n ∷ []))) ≡ (if b then path_of nodes n ∷ [] else [])
  one_named whom t is b at = by (slice_get nodes n) (slice_get_some nodes n less).1 asks where
    in_case : (x : NodeFacts) (c : Bool) → option_map_or (names whom) x.constraints false ≡ c → map Path (members_named whom (by_path n (path_of nodes n) x ∷ [])) ≡ (if c then path_of nodes n ∷ [] else [])
    in_case x true yes' = rw yes' refl
    in_case x false no' = rw no' refl

    by : (u : Option NodeFacts) → u ≡ Some (slice_get_some nodes n less).0 → IfSome u (λ x. o ≡ x.constraints)
        → map Path (members_named whom (cons_option (option_map (by_path n (path_of nodes n)) u) [])) ≡ (if b then path_of nodes n ∷ [] else [])
    by None e h = absurd (cc)
    by (Some x) e h = in_case x b (ap (λ c. option_map_or (names whom) c false) (sym h) ∙ (sym is ∙ at))

  -- who is named at all has the path of a line that names him alone
  pub named_alone : (whom : Whom) (t : Bool) → t ≡ option_map_or (names whom) o false → t ≡ true → map Path (members_named whoms.All (members_at nodes (n ∷ []))) ≡ path_of nodes n ∷ []
  named_alone whom t is yes' = one_named whoms.All true (by o (sym is ∙ yes')) true refl where
    by : (c : Option Participant) → option_map_or (names whom) c false ≡ true → true ≡ option_map_or (names whoms.All) c false
    by None e = absurd (cc)
    by (Some p) e = refl

module _ (nodes : List NodeFacts) where
  -- of one node
  pub asked_one : (n : ℕ) (o : Option Participant) → n < length nodes → IfSome (slice_get nodes n) (λ x. o ≡ x.constraints) → participants (members_at nodes (n ∷ [])) ≡ cons_option o []
  asked_one n o less asks = by (slice_get nodes n) (slice_get_some nodes n less).1 asks where
    by : (u : Option NodeFacts) → u ≡ Some (slice_get_some nodes n less).0 → IfSome u (λ x. o ≡ x.constraints) → participants (cons_option (option_map (by_path n (path_of nodes n)) u) []) ≡ cons_option o []
    by None is h = absurd (cc)
    by (Some x) is h = ap (λ c. cons_option c []) (sym h)

  module _ (ns : List ℕ) (k n : ℕ) (inside : k < length ns) (here : n ≡ get_or ns k n) where
    members_more : members_at nodes (take (k + 1) ns) ≡ members_at nodes (take k ns) ++ members_at nodes (n ∷ [])
    members_more = ap (members_at nodes) (take_more ns k n inside ∙ ap (λ y. take k ns ++ y ∷ []) (sym here)) ∙ filter_map-append (member_at nodes) (take k ns) (n ∷ [])

    module _ (there : All (HasNode nodes) ns) where
      pub node_there : n < length nodes
      node_there = subst (λ i. i < length nodes) (sym here) (there k n inside)

      module _ (o : Option Participant) (asks : IfSome (slice_get nodes n) (λ x. o ≡ x.constraints)) where
        -- what the participants so far ask, and what the one behind them does
        pub asked_more : participants (members_at nodes (take k ns)) ++ cons_option o [] ≡ participants (members_at nodes (take (k + 1) ns))
        asked_more = sym (ap participants members_more
            ∙ (filter_map-append (λ m. m.constraints) (members_at nodes (take k ns)) (members_at nodes (n ∷ []))
            ∙ ap (λ ps. participants (members_at nodes (take k ns)) ++ ps) (asked_one n o node_there asks)))

        pub counts_more : counts_asked (participants (members_at nodes (take k ns))) ++ counts_asked (cons_option o []) ≡ counts_asked (participants (members_at nodes (take (k + 1) ns)))
        counts_more = sym (map-append (λ p. p.counts) (participants (members_at nodes (take k ns))) (cons_option o [])) ∙ ap counts_asked asked_more

        pub offers_more : offer_demands (participants (members_at nodes (take k ns))) ++ offer_demands (cons_option o []) ≡ offer_demands (participants (members_at nodes (take (k + 1) ns)))
        offers_more = sym (map-append offer_demand (participants (members_at nodes (take k ns))) (cons_option o [])) ∙ ap offer_demands asked_more

        -- whom a line names so far, and whether the one behind them is one
        module _ (whom : Whom) (t : Bool) (is : t ≡ option_map_or (names whom) o false) where
          named_more : (b : Bool) → t ≡ b → map Path (members_named whom (members_at nodes (take (k + 1) ns))) ≡ map Path (members_named whom (members_at nodes (take k ns))) ++ (if b then path_of nodes n ∷ [] else [])
          named_more b at = ap (λ ms. map Path (members_named whom ms)) members_more
              ∙ (ap (map Path) (filter-append (λ m. option_map_or (names whom) m.constraints false) (members_at nodes (take k ns)) (members_at nodes (n ∷ [])))
              ∙ (map-append Path (members_named whom (members_at nodes (take k ns))) (members_named whom (members_at nodes (n ∷ [])))
              ∙ ap (λ ps. map Path (members_named whom (members_at nodes (take k ns))) ++ ps) (one_named nodes n node_there o asks whom t is b at)))

          pub named_push : (paths new : List (List ℕ)) (path : List ℕ) → paths ≡ map Path (members_named whom (members_at nodes (take k ns))) → new ≡ paths ++ path ∷ [] → path ≡ path_of nodes n → t ≡ true
              → new ≡ map Path (members_named whom (members_at nodes (take (k + 1) ns)))
          named_push paths new path so is_new is_path yes' = is_new ∙ (ap (λ q. paths ++ q ∷ []) is_path ∙ (ap (λ ps. ps ++ path_of nodes n ∷ []) so ∙ sym (named_more true yes')))

          pub named_past : (paths : List (List ℕ)) → paths ≡ map Path (members_named whom (members_at nodes (take k ns))) → t ≡ false → paths ≡ map Path (members_named whom (members_at nodes (take (k + 1) ns)))
          named_past paths so no' = so ∙ (sym (append-nil (map Path (members_named whom (members_at nodes (take k ns))))) ∙ sym (named_more false no'))

        -- two lines that name the same so far do so with the one behind them, if both or neither names him
        pub named_alike : (one other : Whom) (t u : Bool) → t ≡ option_map_or (names one) o false → u ≡ option_map_or (names other) o false → t ≡ u
            → map Path (members_named one (members_at nodes (take k ns))) ≡ map Path (members_named other (members_at nodes (take k ns)))
            → map Path (members_named one (members_at nodes (take (k + 1) ns))) ≡ map Path (members_named other (members_at nodes (take (k + 1) ns)))
        named_alike one other t u is are same so = named_more one t is t refl
            ∙ (ap (λ ps. ps ++ (if t then path_of nodes n ∷ [] else [])) so
            ∙ (ap (λ b. map Path (members_named other (members_at nodes (take k ns))) ++ (if b then path_of nodes n ∷ [] else [])) same
            ∙ sym (named_more other u are u refl)))

  -- past the last
  pub members_whole : (ns : List ℕ) (k : ℕ) → length ns ≤ k → members_at nodes (take k ns) ≡ members_at nodes ns
  members_whole ns k over = ap (members_at nodes) (take_all k ns over)
