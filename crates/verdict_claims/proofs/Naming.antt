-- The participants that a list of paths names are some of those that there are.
use Rattle.std.proofs.Common.{◌≡◌, ◌≢◌, arith, ℕ, suc, Bool, true, false, List, [], ◌∷◌, ◌++◌, Option, Some, None, map, All, refl, sym, ◌∙◌}
use Rattle.std.specs.List.Sorted.{IsPermutation}
use Rattle.std.specs.Cmp.Lexicographic.{same_text}
use Rattle.std.proofs.lemmas.Cmp.{nat_list_eq_equiv}
use Rattle.std.proofs.lemmas.List.Elements.{All-head, All-tail}
use Rattle.std.proofs.lemmas.List.Sorted.{IsPermutation-refl, IsPermutation-cons, IsPermutation-trans, IsPermutation-middle}
use Rattle.std.proofs.lemmas.Option.{none-some}
use Rattle.list_lemmas.specs.Some.{AreSomeOf}
use Rattle.list_lemmas.proofs.CallerLemmas.{some_trans}
use Rattle.negotiation_inputs.specs.Participant.{Participant}
use Rattle.sysmem_tree.specs.Shape.{Member}
use Rattle.sysmem_tree.specs.Sublist.{IsSublist}
use Rattle.verdict_claims.specs.Members.{participants}
use Rattle.verdict_claims.specs.Naming.{same_path, asked_at, Names}
use Rattle.verdict_claims.proofs.Cutting.{participants_among}

-- paths
pub one_path : (a b : List ℕ) → same_path a b ≡ true → a ≡ b
one_path a b same = same_text a b (sym same)

pub path_itself : (a : List ℕ) → same_path a a ≡ true
path_itself a = nat_list_eq_equiv.refl a

pub other_path : (a b : List ℕ) → a ≢ b → same_path a b ≡ false
other_path a b differ = by_test (same_path a b) refl where
  by_test : (t : Bool) → same_path a b ≡ t → same_path a b ≡ false
  by_test true is = absurd (differ (one_path a b is))
  by_test false is = is

-- the first member at a path, and what is left without it
record Taken (ms : List Member) (path : List ℕ) (p : Participant) : Type 0 where
  rest : List Member
  order : IsPermutation (p ∷ participants rest) (participants ms)
  others : (other : List ℕ) → path ≢ other → asked_at rest other ≡ asked_at ms other

behind : (m : Member) (ms rest : List Member) (p : Participant) (c : Option Participant) → m.constraints ≡ c → IsPermutation (p ∷ participants rest) (participants ms)
    → IsPermutation (p ∷ participants (m ∷ rest)) (participants (m ∷ ms))
behind m ms rest p None none order = rw none order
behind m ms rest p (Some q) has order = rw has (IsPermutation-trans (p ∷ q ∷ participants rest) (q ∷ p ∷ participants rest) (q ∷ participants ms)
    (IsPermutation-middle (p ∷ []) q (participants rest)) (IsPermutation-cons q (p ∷ participants rest) (participants ms) order))

same_left : (m : Member) (ms rest : List Member) (other : List ℕ) (t : Bool) → same_path m.path other ≡ t → asked_at rest other ≡ asked_at ms other
    → asked_at (m ∷ rest) other ≡ asked_at (m ∷ ms) other
same_left m ms rest other true u same = rw u refl
same_left m ms rest other false u same = rw u same

pub asked_here : (m : Member) (ms : List Member) (path : List ℕ) → same_path m.path path ≡ true → asked_at (m ∷ ms) path ≡ m.constraints
asked_here m ms path same = rw same refl

pub asked_later : (m : Member) (ms : List Member) (path : List ℕ) → same_path m.path path ≡ false → asked_at (m ∷ ms) path ≡ asked_at ms path
asked_later m ms path other = rw other refl

take_at : (ms : List Member) (path : List ℕ) (p : Participant) → asked_at ms path ≡ Some p → Taken ms path p
take_at [] path p is = absurd (none-some p is)
take_at (m ∷ ms) path p is = by_test (take_at ms path p) (same_path m.path path) refl where
  by_test : (asked_at ms path ≡ Some p → Taken ms path p) → (t : Bool) → same_path m.path path ≡ t → Taken (m ∷ ms) path p
  by_test inner true same =
      let has : m.constraints ≡ Some p = sym (asked_here m ms path same) ∙ is in
      record {
        rest = ms;
        order = rw has (IsPermutation-refl (p ∷ participants ms));
        others = λ other differ. sym (asked_later m ms other (other_path m.path other (λ e. differ (sym (one_path m.path path same) ∙ e))));
      }
  by_test inner false differs =
      let found : Taken ms path p = inner (sym (asked_later m ms path differs) ∙ is) in
      record {
        rest = m ∷ found.rest;
        order = behind m ms found.rest p m.constraints refl found.order;
        others = λ other differ. same_left m ms found.rest other (same_path m.path other) refl (found.others other differ);
      }

-- the participants named are some of those that there are
pub named_some : (ms : List Member) (paths : List (List ℕ)) (ps : List Participant) → Names ms paths ps → AreSomeOf ps (participants ms)
named_some ms [] [] n = record { others = participants ms; order = IsPermutation-refl (participants ms) }
named_some ms [] (p ∷ ps) n = absurd (cc (n.each))
named_some ms (path ∷ paths) [] n = absurd (cc (n.each))
named_some ms (path ∷ paths) (p ∷ ps) n = more (λ rest. named_some rest paths ps) (take_at ms path p (cons_head n.each)) where
  cons_head : {X : Type 0} {a b : X} {as' bs : List X} → (a ∷ as') ≡ (b ∷ bs) → a ≡ b
  cons_head e = cc (e)

  cons_tail : {X : Type 0} {a b : X} {as' bs : List X} → (a ∷ as') ≡ (b ∷ bs) → as' ≡ bs
  cons_tail e = cc (e)

  others_same : (rest : List Member) → ((other : List ℕ) → path ≢ other → asked_at rest other ≡ asked_at ms other) → (qs : List (List ℕ)) → All (λ q. path ≢ q) qs
      → map (asked_at rest) qs ≡ map (asked_at ms) qs
  others_same rest same [] all = refl
  others_same rest same (q ∷ qs) all = rw (same q (All-head (λ r. path ≢ r) q qs all), others_same rest same qs (All-tail (λ r. path ≢ r) q qs all)) refl

  more : ((rest : List Member) → Names rest paths ps → AreSomeOf ps (participants rest)) → Taken ms path p → AreSomeOf (p ∷ ps) (participants ms)
  more inner t =
      let found = inner t.rest (record {
        each = others_same t.rest t.others paths (λ k d below. n.once 0 (suc k) d (omega arith) (omega (arith, below))) ∙ cons_tail n.each;
        once = λ i j d below inside. n.once (suc i) (suc j) d (omega (arith, below)) (omega (arith, inside));
      }) in
      record {
        others = found.others;
        order = IsPermutation-trans (p ∷ (ps ++ found.others)) (p ∷ participants t.rest) (participants ms)
            (IsPermutation-cons p (ps ++ found.others) (participants t.rest) found.order) t.order;
      }

-- whom paths name of some members, they are some of the participants among all
pub named_of : (some all : List Member) (paths : List (List ℕ)) (ps : List Participant) → IsSublist some all → Names some paths ps → AreSomeOf ps (participants all)
named_of some all paths ps among names =
    some_trans ps (participants some) (participants all) (named_some some paths ps names) (participants_among some all among)
