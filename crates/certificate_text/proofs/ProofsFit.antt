-- What proves a verdict of a domain of a tree can be read.
use Rattle.std.proofs.Common.{◌≡◌, ℕ, zero, suc, ◌≤◌, ◌++◌, Bool, true, false, List, [], ◌∷◌, length, map, take, All, Option, Some, None, IsSomeAnd, is_none, slice_get, option_map, refl, sym, subst, ◌∙◌, arith}
use Rattle.std.specs.List.{AllByRecursion, AllZip}
use Rattle.std.specs.Cmp.Lexicographic.{same_text}
use Rattle.std.proofs.lemmas.List.Elements.{All-nil, All-cons, All-head}
use Rattle.std.proofs.lemmas.Option.{none-some}
use Rattle.negotiation_inputs.specs.Participant.{Participant}
use Rattle.sysmem_memory.specs.Listed.{places_of}
use Rattle.negotiation_inputs.specs.Platform.{PlatformFacts, offers_of}
use Rattle.sysmem_tree.specs.Forest.{Forest, choices, settled}
use Rattle.sysmem_tree.specs.LayoutLaws.{ChoicesLeaveOneForest, FewChildren, FewChoices}
use Rattle.sysmem_tree.specs.Node.{NodeFacts}
use Rattle.sysmem_tree.specs.Nodes.{IsTree}
use Rattle.sysmem_tree.specs.Shape.{Member, shape_of}
use Rattle.sysmem_merge.specs.declared.settings.Settings.{Settings}
use Rattle.verdict_claims.specs.declared.conflict.Conflict.{Conflict}
use Rattle.verdict_claims.specs.declared.conflict.Conflict.TheVariants.{Count, Places, Offers, Fixed}
use Rattle.verdict_claims.specs.declared.refutation.Item.{Item}
use Rattle.verdict_claims.specs.declared.refutation.Item.TheVariants.{Split, Leaf}
use Rattle.verdict_claims.specs.Base.{BaseFacts, Terms, terms_of}
use Rattle.verdict_claims.specs.Certificate.{Refutes, RefutesEarlier, HoldBefore, RefuseBeforeFor, IsCertificate, IsRefutation}
use Rattle.verdict_claims.specs.CertificateFacts.{CertificateFacts}
use Rattle.verdict_claims.specs.Conflict.{RefusesPlace, RefusesOffer, IsConflictFor}
use Rattle.verdict_claims.specs.Line.{LineFacts}
use Rattle.verdict_claims.specs.Naming.{same_path, asked_at, IsTrueOf}
use Rattle.certificate_text.specs.CanBeRead.{HasSteps, NamesNodes, IsReadableConflict, IsReadableItem, IsReadableRefutation, IsReadableCertificate}
use Rattle.verdict_claims.proofs.CallerLemmas.{both_all, in_settled}
use Rattle.certificate_text.proofs.Shapes.{HasPath, accepted_paths, IsReached, whole_reached, choice_reached, choices_reached, selected_reached, reached_paths, few_there}

-- ---- lines

asked_later : (m : Member) (ms : List Member) (path : List ℕ) → same_path m.path path ≡ false → asked_at (m ∷ ms) path ≡ asked_at ms path
asked_later m ms path other = rw other refl

-- who is asked at a path has that path
asked_steps : (ms : List Member) → AllByRecursion HasPath ms → (path : List ℕ) (p : Participant) → asked_at ms path ≡ Some p → HasSteps path
asked_steps [] all path p is = absurd (none-some p is)
asked_steps (m ∷ ms) all path p is = by (same_path m.path path) refl (asked_steps ms all.1 path p) where
  by : (t : Bool) → same_path m.path path ≡ t → (asked_at ms path ≡ Some p → HasSteps path) → HasSteps path
  by true same rest = subst HasSteps (same_text m.path path (sym same)) all.0
  by false other rest = rest (sym (asked_later m ms path other) ∙ is)

all_asked : (ms : List Member) → AllByRecursion HasPath ms → (paths : List (List ℕ)) (ps : List Participant) → map (asked_at ms) paths ≡ map (λ p. Some p) ps → All HasSteps paths
all_asked ms all [] ps is = All-nil HasSteps
all_asked ms all (path ∷ paths) [] is = absurd (cc)
all_asked ms all (path ∷ paths) (p ∷ ps) is = All-cons HasSteps path paths (asked_steps ms all path p (head is)) (all_asked ms all paths ps (tail is)) where
  head : {X : Type 0} {a b : X} {as' bs : List X} → (a ∷ as') ≡ (b ∷ bs) → a ≡ b
  head e = cc (e)

  tail : {X : Type 0} {a b : X} {as' bs : List X} → (a ∷ as') ≡ (b ∷ bs) → as' ≡ bs
  tail e = cc (e)

-- whom a true line names has paths that can be read
named_steps : (ms : List Member) → AllByRecursion HasPath ms → (paths : List (List ℕ)) (P : List Participant → Type 0) → IsTrueOf ms paths P → All HasSteps paths
named_steps ms all paths P said = all_asked ms all paths said.0 said.1.each

-- lines one for each of a list
each_line : {X Y : Type 0} (R : X → Y → Type 0) (P : Y → Type 0) → ((x : X) (y : Y) → R x y → P y) → (xs : List X) (ys : List Y) → AllZip R xs ys → All P ys
each_line R P f [] [] h = All-nil P
each_line R P f [] (y ∷ ys) h = absurd h
each_line R P f (x ∷ xs) [] h = absurd h
each_line R P f (x ∷ xs) (y ∷ ys) h = All-cons P y ys (f x y h.0) (each_line R P f xs ys h.1)

each_before : {X : Type 0} (R : X → LineFacts → Type 0) → ((x : X) (line : LineFacts) → R x line → NamesNodes line) → (xs : List X) (x : X) (lines : List LineFacts)
    → HoldBefore R xs x lines → All NamesNodes lines
each_before R f xs x lines h = each_line R NamesNodes f h.before lines h.each

module _ (nodes : List NodeFacts) (r : ℕ) (tree : IsTree nodes) (one : ChoicesLeaveOneForest) (children : FewChildren) (few : FewChoices) (platform : PlatformFacts) where
  -- the terms of a base, of which the accepted members have paths that can be read
  abbrev terms : Option BaseFacts → Option Terms
  terms base = option_map (terms_of nodes) base

  reached_settled : (e : Forest Member) → IsReached nodes r tree e → AllByRecursion HasPath (settled e)
  reached_settled e reached = in_settled HasPath e (reached_paths nodes r tree e reached)

  conflict_fits : (base : Option BaseFacts) (e : Forest Member) → IsReached nodes r tree e → (c : Conflict) → IsConflictFor platform (terms base) e c → IsReadableConflict c
  conflict_fits None e reached (Count line) h = named_steps (settled e) (reached_settled e reached) line.nodes _ h
  conflict_fits None e reached (Fixed field node) h = absurd h
  conflict_fits None e reached (Places lines) h =
      each_line (RefusesPlace (settled e)) NamesNodes (λ p line said. named_steps (settled e) (reached_settled e reached) line.nodes _ said) (places_of platform.heaps) lines h
  conflict_fits None e reached (Offers lines) h =
      each_line (RefusesOffer (is_none (choices e)) (settled e)) NamesNodes (λ o line said. named_steps (settled e) (reached_settled e reached) line.nodes _ said) (offers_of platform) lines h
  conflict_fits (Some base) e reached (Count line) h =
      let t : Terms = terms_of nodes base in
      named_steps (t.accepted ++ settled e) (both_all HasPath t.accepted (settled e) (accepted_paths nodes tree base.accepted) (reached_settled e reached)) line.nodes _ h
  conflict_fits (Some base) e reached (Fixed field node) h = All-head HasSteps node [] (named_steps (settled e) (reached_settled e reached) (node ∷ []) _ h)
  conflict_fits (Some base) e reached (Places lines) h = absurd h
  conflict_fits (Some base) e reached (Offers lines) h = absurd h

  -- ---- refutations

  module _ (base : Option BaseFacts) where
    abbrev Refuted : List Item → List (Forest Member) → Type 0
    Refuted items ds = Refutes (IsConflictFor platform (terms base)) items ds

    refutes_fits : (items : List Item) (ds : List (Forest Member)) → AllByRecursion (IsReached nodes r tree) ds → Refuted items ds → All IsReadableItem items
    refutes_fits [] ds reached h = All-nil IsReadableItem
    refutes_fits (Leaf c ∷ items) [] reached h = absurd h
    refutes_fits (Split n ∷ items) [] reached h = absurd h
    refutes_fits (Leaf c ∷ items) (d ∷ ds) reached h = All-cons IsReadableItem (Leaf c) items (conflict_fits base d reached.0 c h.0) (refutes_fits items ds reached.1 h.1)
    refutes_fits (Split n ∷ items) (d ∷ ds) reached h = by (choices d) refl h (λ es all k. refutes_fits items (es ++ ds) all k) where
      by : (o : Option (List (Forest Member))) → choices d ≡ o → IsSomeAnd o (λ es. (length es ≡ n) × Refuted items (es ++ ds))
          → ((es : List (Forest Member)) → AllByRecursion (IsReached nodes r tree) (es ++ ds) → Refuted items (es ++ ds) → All IsReadableItem items) → All IsReadableItem (Split n ∷ items)
      by None open' k rest = absurd k
      by (Some es) open' k rest =
          let many : length es ≡ n = k.0 in
          let small : length es ≤ 128 = few_there nodes r tree one children few d es reached.0 open' in
          All-cons IsReadableItem (Split n) items (omega (arith, many, small))
          (rest es (both_all (IsReached nodes r tree) es ds (choices_reached nodes r tree d es reached.0 open') reached.1) k.1)

    refutation_fits : (d : Forest Member) (items : List Item) → IsReached nodes r tree d → Refuted items (d ∷ []) → IsReadableRefutation items
    refutation_fits d items reached h = refutes_fits items (d ∷ []) (reached, tt) h

    each_refuted : (ds : List (Forest Member)) (rs : List (List Item)) → AllByRecursion (IsReached nodes r tree) ds → AllZip (λ e items. Refuted items (e ∷ [])) ds rs → All IsReadableRefutation rs
    each_refuted [] [] reached h = All-nil IsReadableRefutation
    each_refuted [] (items ∷ rs) reached h = absurd h
    each_refuted (d ∷ ds) [] reached h = absurd h
    each_refuted (d ∷ ds) (items ∷ rs) reached h = All-cons IsReadableRefutation items rs (refutation_fits d items reached.0 h.0) (each_refuted ds rs reached.1 h.1)

    first_reached : (c : ℕ) (es : List (Forest Member)) → AllByRecursion (IsReached nodes r tree) es → AllByRecursion (IsReached nodes r tree) (take c es)
    first_reached zero es all = tt
    first_reached (suc c) [] all = tt
    first_reached (suc c) (e ∷ es) all = (all.0, first_reached c es all.1)

    abbrev AreReadable : List (List Item) → Type 0
    AreReadable rs = All IsReadableRefutation rs

    earlier_fits : (cs : List ℕ) (d : Forest Member) (rss : List (List (List Item))) → IsReached nodes r tree d → RefutesEarlier (IsConflictFor platform (terms base)) d cs rss → All AreReadable rss
    earlier_fits [] d [] reached h = All-nil AreReadable
    earlier_fits [] d (rs ∷ rss) reached h = absurd h
    earlier_fits (c ∷ cs) d [] reached h = absurd h
    earlier_fits (c ∷ cs) d (rs ∷ rss) reached h = by (choices d) refl h (λ x on k. earlier_fits cs x rss on k) where
      at : (es : List (Forest Member)) → choices d ≡ Some es → (o : Option (Forest Member)) → slice_get es c ≡ o → IsSomeAnd o (λ e. RefutesEarlier (IsConflictFor platform (terms base)) e cs rss)
          → ((x : Forest Member) → IsReached nodes r tree x → RefutesEarlier (IsConflictFor platform (terms base)) x cs rss → All AreReadable rss) → All AreReadable rss
      at es open' None here k rest = absurd k
      at es open' (Some x) here k rest = rest x (choice_reached nodes r tree d x es c reached open' here) k

      by : (o : Option (List (Forest Member))) → choices d ≡ o
          → IsSomeAnd o (λ es. AllZip (λ e items. Refuted items (e ∷ [])) (take c es) rs × IsSomeAnd (slice_get es c) (λ e. RefutesEarlier (IsConflictFor platform (terms base)) e cs rss))
          → ((x : Forest Member) → IsReached nodes r tree x → RefutesEarlier (IsConflictFor platform (terms base)) x cs rss → All AreReadable rss) → All AreReadable (rs ∷ rss)
      by None open' k rest = absurd k
      by (Some es) open' k rest = All-cons AreReadable rs rss
          (each_refuted (take c es) rs (first_reached c es (choices_reached nodes r tree d es reached open')) k.0)
          (at es open' (slice_get es c) refl k.1 rest)

  -- ---- certificates

  offers_fit : (base : Option BaseFacts) (e : Forest Member) (s : Settings) (certificate : CertificateFacts) → IsReached nodes r tree e
      → RefuseBeforeFor platform (terms base) (settled e) s certificate → All NamesNodes certificate.offers
  offers_fit None e s certificate reached h =
      each_before (RefusesOffer true (settled e)) (λ o line said. named_steps (settled e) (reached_settled e reached) line.nodes _ said) (offers_of platform) s.offer certificate.offers h.offers
  offers_fit (Some base) e s certificate reached h = subst (All NamesNodes) (sym h.offers) (All-nil NamesNodes)

  places_fit : (base : Option BaseFacts) (e : Forest Member) (s : Settings) (certificate : CertificateFacts) → IsReached nodes r tree e
      → RefuseBeforeFor platform (terms base) (settled e) s certificate → All NamesNodes certificate.places
  places_fit None e s certificate reached h =
      each_before (RefusesPlace (settled e)) (λ p line said. named_steps (settled e) (reached_settled e reached) line.nodes _ said) (places_of platform.heaps) h.places.at certificate.places h.places.each
  places_fit (Some base) e s certificate reached h = subst (All NamesNodes) (sym h.places) (All-nil NamesNodes)

  pub certificate_fits : (base : Option BaseFacts) (selection : List ℕ) (s : Settings) (certificate : CertificateFacts)
      → IsCertificate platform (terms base) (shape_of nodes r) selection s certificate → IsReadableCertificate certificate
  certificate_fits base selection s certificate is =
      let reached : IsReached nodes r tree is.members = selected_reached nodes r tree selection is.members is.selects.leads in
      record {
        earlier = earlier_fits base selection (shape_of nodes r) certificate.earlier (whole_reached nodes r tree) is.earlier;
        offers = offers_fit base is.members s certificate reached is.before;
        places = places_fit base is.members s certificate reached is.before;
      }

  pub items_fit : (base : Option BaseFacts) (items : List Item) → IsRefutation platform (terms base) (shape_of nodes r) items → IsReadableRefutation items
  items_fit base items is = refutation_fits base (shape_of nodes r) items (whole_reached nodes r tree) is
