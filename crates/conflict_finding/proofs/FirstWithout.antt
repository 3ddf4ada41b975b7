-- The first of some participants without a property: by their nodes, and among
-- all members for whom these stand.
use Rattle.std.proofs.Common.{◌≡◌, ◌<◌, ◌≤◌, ℕ, zero, suc, ◌+◌, List, [], ◌∷◌, ◌++◌, length, Option, Some, None, take, drop, get_or, slice_get, refl, sym, ◌∙◌, ap, subst, arith}
use Rattle.std.specs.Prelude.{All, IfSome, IsSomeAnd, option_map}
use Rattle.std.specs.List.{cons_option}
use Rattle.std.proofs.lemmas.List.{take_all, take-append-drop, take-append-le}
use Rattle.std.proofs.lemmas.List.Elements.{All-nil, All-cons, All-head, All-tail, filter_map-append}
use Rattle.std.proofs.lemmas.Option.{none-some, slice_get-get_or}
use Rattle.list_lemmas.proofs.CallerLemmas.{slice_get_some}
use Rattle.negotiation_inputs.specs.Participant.{Participant}
use Rattle.sysmem_tree.specs.Node.{NodeFacts}
use Rattle.sysmem_tree.specs.Nodes.{HasNode}
use Rattle.sysmem_tree.specs.Path.{path_of}
use Rattle.sysmem_tree.specs.Shape.{Member, by_path}
use Rattle.sysmem_tree.specs.Sublist.{IsSublist, ended, taken, left_out}
use Rattle.verdict_claims.specs.FirstConflict.{IsFirstWithout}
use Rattle.verdict_claims.specs.Members.{participants, member_at, members_at, StandFor}
use Rattle.conflict_finding.proofs.AskedNodes.{node_there}
use Rattle.conflict_finding.proofs.BeforeBest.{at_behind}
use Rattle.conflict_finding.proofs.Sofar.{left_at}

-- what all participants have, each member has or asks nothing
each_has : (P : Participant → Type 0) (ms : List Member) → All P (participants ms) → All (λ m. IfSome m.constraints P) ms
each_has P [] all = All-nil (λ m. IfSome m.constraints P)
each_has P (m ∷ ms) all = by m.constraints refl all (each_has P ms) where
  by : (c : Option Participant) → m.constraints ≡ c → All P (cons_option c (participants ms)) → (All P (participants ms) → All (λ m. IfSome m.constraints P) ms) → All (λ m. IfSome m.constraints P) (m ∷ ms)
  by None is all rest = All-cons (λ m. IfSome m.constraints P) m ms (subst (λ c. IfSome c P) (sym is) tt) (rest all)
  by (Some p) is all rest = All-cons (λ m. IfSome m.constraints P) m ms (subst (λ c. IfSome c P) (sym is) (All-head P p (participants ms) all)) (rest (All-tail P p (participants ms) all))

-- those before an element are the front of a list
front : {X : Type 0} (xs ys : List X) → take (length xs) (xs ++ ys) ≡ xs
front xs ys = take-append-le (length xs) xs ys (omega arith) ∙ take_all (length xs) xs (omega arith)

module _ (nodes : List NodeFacts) (ns : List ℕ) (there : All (HasNode nodes) ns) (k n : ℕ) (inside : k < length ns) (here : n ≡ get_or ns k n) (o : Option Participant)
    (asks : IfSome (slice_get nodes n) (λ x. o ≡ x.constraints)) (Has Says : Participant → Type 0) where
  -- who has not what all before him have is the first without it
  pub first_here : All Has (participants (members_at nodes (take k ns))) → IsSomeAnd o Says → IsFirstWithout Has Says (members_at nodes ns) (path_of nodes n)
  first_here all says = by (slice_get nodes n) refl asks where
    before : List Member
    before = members_at nodes (take k ns)

    split : (u : Option NodeFacts) → slice_get nodes n ≡ u → members_at nodes ns ≡ before ++ cons_option (option_map (by_path n (path_of nodes n)) u) (members_at nodes (drop (k + 1) ns))
    split u is =
        let at : slice_get ns k ≡ Some n = slice_get-get_or ns k n inside ∙ ap (λ i. Some i) (sym here) in
        ap (members_at nodes) (sym (take-append-drop k ns) ∙ ap (λ ys. take k ns ++ ys) (left_at ns k n at))
        ∙ (filter_map-append (member_at nodes) (take k ns) (n ∷ drop (k + 1) ns) ∙ ap (λ v. before ++ cons_option (option_map (by_path n (path_of nodes n)) v) (members_at nodes (drop (k + 1) ns))) is)

    by : (u : Option NodeFacts) → slice_get nodes n ≡ u → IfSome u (λ x. o ≡ x.constraints) → IsFirstWithout Has Says (members_at nodes ns) (path_of nodes n)
    by None is h = absurd (none-some (slice_get_some nodes n (node_there nodes ns k n inside here there)).0 (sym is ∙ (slice_get_some nodes n (node_there nodes ns k n inside here there)).1))
    by (Some x) is h = record {
      index = length before;
      first = by_path n (path_of nodes n) x;
      here = ap (λ ms. slice_get ms (length before)) (split (Some x) is) ∙ at_behind before (members_at nodes (drop (k + 1) ns)) (by_path n (path_of nodes n) x);
      at = refl;
      before = subst (All (λ m. IfSome m.constraints Has)) (sym (ap (take (length before)) (split (Some x) is) ∙ front before (by_path n (path_of nodes n) x ∷ members_at nodes (drop (k + 1) ns))))
          (each_has Has before all);
      says = subst (λ c. IsSomeAnd c Says) h says;
    }

-- fewer members ask no more
fewer : (some all : List Member) → IsSublist some all → length (participants some) ≤ length (participants all)
fewer _ _ ended = omega arith
fewer _ _ (taken x some all among) = by x.constraints (fewer some all among) where
  by : (c : Option Participant) → length (participants some) ≤ length (participants all) → length (cons_option c (participants some)) ≤ length (cons_option c (participants all))
  by None h = h
  by (Some p) h = omega (arith, h)
fewer _ _ (left_out x some all among) = by x.constraints (fewer some all among) where
  by : (c : Option Participant) → length (participants some) ≤ length (participants all) → length (participants some) ≤ length (cons_option c (participants all))
  by None h = h
  by (Some p) h = omega (arith, h)

-- where as much is asked of both, the first of some is the first of all
module _ (P : Participant → Type 0) where
  record StandsIn (ms : List Member) (m : Member) : Type 0 where
    index : ℕ
    here : slice_get ms index ≡ Some m
    before : All (λ x. IfSome x.constraints P) (take index ms)

  one_later : (x m : Member) (ms : List Member) → IfSome x.constraints P → StandsIn ms m → StandsIn (x ∷ ms) m
  one_later x m ms own s = record { index = suc s.index; here = s.here; before = All-cons (λ y. IfSome y.constraints P) x (take s.index ms) own s.before }

  stands_in : (some all : List Member) (m : Member) → IsSublist some all → length (participants some) ≡ length (participants all) → StandsIn some m → StandsIn all m
  stands_in _ _ m ended same s = s
  stands_in _ _ m (taken x some all among) same s = by s.index s.here s.before (stands_in some all m among) where
    less : (c : Option Participant) → length (cons_option c (participants some)) ≡ length (cons_option c (participants all)) → length (participants some) ≡ length (participants all)
    less None h = h
    less (Some p) h = omega (arith, h)

    by : (i : ℕ) → slice_get (x ∷ some) i ≡ Some m → All (λ y. IfSome y.constraints P) (take i (x ∷ some))
        → (length (participants some) ≡ length (participants all) → StandsIn some m → StandsIn all m) → StandsIn (x ∷ all) m
    by zero here before rest = record { index = 0; here = here; before = All-nil (λ y. IfSome y.constraints P) }
    by (suc i) here before rest = one_later x m all (All-head (λ y. IfSome y.constraints P) x (take i some) before)
        (rest (less x.constraints same) (record { index = i; here = here; before = All-tail (λ y. IfSome y.constraints P) x (take i some) before }))
  stands_in _ _ m (left_out x some all among) same s = by x.constraints refl same (stands_in some all m among) where
    by : (c : Option Participant) → x.constraints ≡ c → length (participants some) ≡ length (cons_option c (participants all))
        → (length (participants some) ≡ length (participants all) → StandsIn some m → StandsIn all m) → StandsIn (x ∷ all) m
    by None is h rest = one_later x m all (subst (λ c. IfSome c P) (sym is) tt) (rest h s)
    by (Some p) is h rest = let most = fewer some all among in absurd (omega (arith, h, most))

pub first_of_all : (Has Says : Participant → Type 0) (some all : List Member) (path : List ℕ) → StandFor some all → IsFirstWithout Has Says some path → IsFirstWithout Has Says all path
first_of_all Has Says some all path stand f =
    let s = stands_in Has some all f.first stand.among (ap length stand.same) (record { index = f.index; here = f.here; before = f.before }) in
    record { index = s.index; first = f.first; here = s.here; at = f.at; before = s.before; says = f.says }
