-- Terms of two trees, and what was frozen against a book.
use Rattle.std.proofs.Common.{◌≡◌, ◌≢◌, ◌↔◌, ℕ, zero, suc, ◌+◌, inl, inr, ◌<◌, ◌≤◌, IsTrue, Bool, true, false, List, [], ◌∷◌, length, drop, filter, get_or, Option, Some, None, slice_get, refl, sym, ◌∙◌, ap, subst, arith}
use Rattle.std.specs.Prelude.{All, IsSomeAnd, IfSome, option_map, if◌then◌else◌}
use Rattle.std.specs.List.{filter_map, cons_option}
use Rattle.std.proofs.lemmas.Bool.{cases_lt}
use Rattle.std.proofs.lemmas.List.Elements.{All-weaker}
use Rattle.std.proofs.lemmas.Option.{same_Some, slice_get_within}
use Rattle.sysmem_merge.specs.declared.settings.Settings.{Settings}
use Rattle.verdict_claims.specs.Base.{BaseFacts, IsElsewhere, IsGivenBase, Terms, terms_of}
use Rattle.verdict_claims.specs.Members.{member_at, members_at}
use Rattle.negotiation_inputs.specs.Platform.{PlatformFacts}
use Rattle.sysmem_tree.specs.Domain.{TreeFacts}
use Rattle.sysmem_tree.specs.Node.{NodeFacts}
use Rattle.sysmem_tree.specs.Nodes.{HasNode}
use Rattle.sysmem_tree.specs.Path.{path_of}
use Rattle.sysmem_tree.specs.Shape.{Member, by_path}
use Rattle.sysmem_tree.proofs.CallerLemmas.{front}
use Rattle.list_lemmas.proofs.CallerLemmas.{slice_get_some}
use Rattle.book_events.specs.declared.entry.Entry.{Entry}
use Rattle.sysmem_alloc.specs.Accepted.{marked_of}
use Rattle.sysmem_alloc.specs.Book.{BookFacts, kept_book}
use Rattle.sysmem_alloc.specs.Entry.{decision_in}
use Rattle.sysmem_alloc.specs.State.{State, next_ready, base_of, chosen_in, open_in}
use Rattle.sysmem_alloc.proofs.Next.{still_kept}

-- a node that is there shows something
shows : (nodes : List NodeFacts) (i : ℕ) → HasNode nodes i → (m : Member) × (member_at nodes i ≡ Some m)
shows nodes i within = let (n, here) = slice_get_some nodes i within in (by_path i (path_of nodes i) n, ap (option_map (by_path i (path_of nodes i))) here)

at_front : (nodes : List NodeFacts) (i : ℕ) (is : List ℕ) (m : Member) → member_at nodes i ≡ Some m → members_at nodes (i ∷ is) ≡ m ∷ members_at nodes is
at_front nodes i is m e = ap (λ o. cons_option o (members_at nodes is)) e

-- where heads are there, lists show the same exactly where the heads and the rests do
module _ (xs ys : List NodeFacts) (i j : ℕ) (is js : List ℕ) (own : HasNode xs i) (other : HasNode ys j) where
  pub heads_same : member_at xs i ≡ member_at ys j → (members_at xs is ≡ members_at ys js) ↔ (members_at xs (i ∷ is) ≡ members_at ys (j ∷ js))
  heads_same e =
      let (m, here) = shows xs i own in
      let here' : member_at ys j ≡ Some m = sym e ∙ here in
      let a = at_front xs i is m here in
      let b = at_front ys j js m here' in (
        λ rest. a ∙ (ap (λ ms. m ∷ ms) rest ∙ sym b),
        λ all. (let both = sym a ∙ (all ∙ b) in cc),
      )

  pub heads_differ : member_at xs i ≢ member_at ys j → members_at xs (i ∷ is) ≢ members_at ys (j ∷ js)
  heads_differ apart all =
      let (m, here) = shows xs i own in
      let (k, here') = shows ys j other in
      let both = sym (at_front xs i is m here) ∙ (all ∙ at_front ys j js k here') in
      let same : m ≡ k = cc in
      apart (here ∙ (ap (λ z. Some z) same ∙ sym here'))

-- one shows something, and the other nothing
pub some_none : (xs ys : List NodeFacts) (i : ℕ) (is : List ℕ) → HasNode xs i → members_at xs (i ∷ is) ≢ members_at ys []
some_none xs ys i is own all = let (m, here) = shows xs i own in absurd (let both = sym (at_front xs i is m here) ∙ all in cc)

pub none_some : (xs ys : List NodeFacts) (j : ℕ) (js : List ℕ) → HasNode ys j → members_at xs [] ≢ members_at ys (j ∷ js)
none_some xs ys j js other all = let (m, here) = shows ys j other in absurd (let both = all ∙ at_front ys j js m here in cc)

-- the next of the marked nodes
pub next_marked : (marks : List Bool) (n : ℕ) (ns : List ℕ) (b : Bool) → get_or marks n false ≡ b → marked_of marks (n ∷ ns) ≡ (if b then n ∷ marked_of marks ns else marked_of marks ns)
next_marked marks n ns b e = ap (λ (c : Bool). if c then n ∷ marked_of marks ns else marked_of marks ns) e

pub drop_next : (ns : List ℕ) (k d : ℕ) → k < length ns → drop k ns ≡ get_or ns k d ∷ drop (k + 1) ns
drop_next [] k d less = absurd (omega (arith, less))
drop_next (n ∷ ns) zero d less = refl
drop_next (n ∷ ns) (suc k) d less = let z : suc (k + 1) ≡ suc k + 1 = omega arith in drop_next ns k d (omega (arith, less)) ∙ ap (λ (j : ℕ). get_or ns k d ∷ drop j (n ∷ ns)) z

pub drop_all : (ns : List ℕ) (k : ℕ) → length ns ≤ k → drop k ns ≡ []
drop_all [] zero over = refl
drop_all [] (suc k) over = refl
drop_all (n ∷ ns) zero over = absurd (omega (arith, over))
drop_all (n ∷ ns) (suc k) over = drop_all ns k (omega (arith, over))

-- an item by its index
pub item_at : (ns : List ℕ) (k n : ℕ) → k < length ns → n ≡ get_or ns k n → get_or ns k 0 ≡ n
item_at [] k n less is = absurd (omega (arith, less))
item_at (x ∷ ns) zero n less is = sym is
item_at (x ∷ ns) (suc k) n less is = item_at ns k n (omega (arith, less)) is

-- a loop over both lists: where it stands, and a step
module _ (xs ys : List NodeFacts) (marks : List Bool) (chosen accepted : List ℕ) (own : All (HasNode xs) chosen) (other : All (HasNode ys) accepted) where
  abbrev Left : ℕ → ℕ → Type 0
  Left k at = members_at xs (marked_of marks (drop k chosen)) ≡ members_at ys (drop at accepted)

  unmarked : (k : ℕ) → k < length chosen → get_or marks (get_or chosen k 0) false ≡ false → marked_of marks (drop k chosen) ≡ marked_of marks (drop (k + 1) chosen)
  unmarked k less off = ap (marked_of marks) (drop_next chosen k 0 less) ∙ next_marked marks (get_or chosen k 0) (drop (k + 1) chosen) false off

  marked : (k : ℕ) → k < length chosen → get_or marks (get_or chosen k 0) false ≡ true → marked_of marks (drop k chosen) ≡ get_or chosen k 0 ∷ marked_of marks (drop (k + 1) chosen)
  marked k less on = ap (marked_of marks) (drop_next chosen k 0 less) ∙ next_marked marks (get_or chosen k 0) (drop (k + 1) chosen) true on

  -- a node that isn't marked is passed over
  pub passed : (k at : ℕ) → k < length chosen → get_or marks (get_or chosen k 0) false ≡ false → Left (k + 1) at ↔ Left k at
  passed k at less off =
      let e = ap (members_at xs) (unmarked k less off) in (λ h. e ∙ h, λ h. sym e ∙ h)

  -- one that is, and shows what the next of the others does
  pub taken : (k at : ℕ) → k < length chosen → at < length accepted → get_or marks (get_or chosen k 0) false ≡ true → member_at xs (get_or chosen k 0) ≡ member_at ys (get_or accepted at 0) → Left (k + 1) (at + 1) ↔ Left k at
  taken k at less less' on same =
      let a = ap (members_at xs) (marked k less on) in
      let b = ap (members_at ys) (drop_next accepted at 0 less') in
      let heads = heads_same xs ys (get_or chosen k 0) (get_or accepted at 0) (marked_of marks (drop (k + 1) chosen)) (drop (at + 1) accepted) (own k 0 less) (other at 0 less') same in
      (λ h. a ∙ (heads.0 h ∙ sym b), λ h. heads.1 (sym a ∙ (h ∙ b)))

  -- that shows something else
  pub differs : (k at : ℕ) → k < length chosen → at < length accepted → get_or marks (get_or chosen k 0) false ≡ true → member_at xs (get_or chosen k 0) ≢ member_at ys (get_or accepted at 0) → Left k at → ⊥
  differs k at less less' on apart h =
      heads_differ xs ys (get_or chosen k 0) (get_or accepted at 0) (marked_of marks (drop (k + 1) chosen)) (drop (at + 1) accepted) (own k 0 less) (other at 0 less') apart
      (sym (ap (members_at xs) (marked k less on)) ∙ (h ∙ ap (members_at ys) (drop_next accepted at 0 less')))

  -- for which there is no other
  pub lacks : (k at : ℕ) → k < length chosen → length accepted ≤ at → get_or marks (get_or chosen k 0) false ≡ true → Left k at → ⊥
  lacks k at less over on h =
      some_none xs ys (get_or chosen k 0) (marked_of marks (drop (k + 1) chosen)) (own k 0 less) (sym (ap (members_at xs) (marked k less on)) ∙ (h ∙ ap (members_at ys) (drop_all accepted at over)))

  -- at the end of the chosen ones
  pub at_end : (k at : ℕ) (t : Bool) → length chosen ≤ k → at ≤ length accepted → (t ≡ true → at ≡ length accepted) → (at ≡ length accepted → t ≡ true) → IsTrue t ↔ Left k at
  at_end k at t over within to from = (
    λ yes. ap (λ ns. members_at xs (marked_of marks ns)) (drop_all chosen k over) ∙ sym (ap (members_at ys) (drop_all accepted at (omega (arith, to yes)))),
    λ h. by t refl h,
  ) where
    by : (u : Bool) → t ≡ u → Left k at → t ≡ true
    by true is h = is
    by false is h = elim (cases_lt at (length accepted)) as (λ _. t ≡ true) [
      | inl less ↦ absurd (none_some xs ys (get_or accepted at 0) (drop (at + 1) accepted) (other at 0 less)
          (sym (ap (λ ns. members_at xs (marked_of marks ns)) (drop_all chosen k over)) ∙ (h ∙ ap (members_at ys) (drop_next accepted at 0 less))))
      | inr more ↦ from (omega (arith, within, more))
    ]

abbrev terms : Settings → List Member → Terms
terms z ms = record { settings = z; accepted = ms }

-- the terms of a base
module _ (xs ys : List NodeFacts) where
  pub same_terms : (s t : Settings) (acc : List ℕ) (b : BaseFacts) (o p : Option BaseFacts) → Some (record { settings = s; accepted = acc }) ≡ o → Some b ≡ p → t ≡ b.settings
      → ((s ≡ t) × (members_at xs acc ≡ members_at ys b.accepted)) ↔ (option_map (terms_of xs) o ≡ option_map (terms_of ys) p)
  same_terms s t acc b o p one two its =
      let a : Terms = record { settings = s; accepted = members_at xs acc } in
      let c : Terms = record { settings = b.settings; accepted = members_at ys b.accepted } in
      let left : Some a ≡ option_map (terms_of xs) o = ap (option_map (terms_of xs)) one in
      let right : Some c ≡ option_map (terms_of ys) p = ap (option_map (terms_of ys)) two in (
        λ h. sym left ∙ (ap (λ (z : Settings). Some (terms z (members_at xs acc))) (h.0 ∙ its) ∙ (ap (λ (ms : List Member). Some (terms b.settings ms)) h.1 ∙ right)),
        λ e. (let same : a ≡ c = same_Some a c (left ∙ (e ∙ sym right)) in (ap (λ (z : Terms). z.settings) same ∙ sym its, ap (λ (z : Terms). z.accepted) same)),
      )

  pub only_own : (s : Settings) (acc : List ℕ) (o p : Option BaseFacts) → Some (record { settings = s; accepted = acc }) ≡ o → None ≡ p → option_map (terms_of xs) o ≡ option_map (terms_of ys) p → ⊥
  only_own s acc o p one two e = absurd (let both = ap (option_map (terms_of xs)) one ∙ (e ∙ sym (ap (option_map (terms_of ys)) two)) in cc)

  pub only_other : (b : BaseFacts) (o p : Option BaseFacts) → None ≡ o → Some b ≡ p → option_map (terms_of xs) o ≡ option_map (terms_of ys) p → ⊥
  only_other b o p one two e = absurd (let both = ap (option_map (terms_of xs)) one ∙ (e ∙ sym (ap (option_map (terms_of ys)) two)) in cc)

  pub both_none : (o p : Option BaseFacts) → None ≡ o → None ≡ p → option_map (terms_of xs) o ≡ option_map (terms_of ys) p
  both_none o p one two = sym (ap (option_map (terms_of xs)) one) ∙ ap (option_map (terms_of ys)) two

-- the nodes of a base are nodes of its tree
pub accepted_there : (platform : PlatformFacts) (nodes : List NodeFacts) (domain : ℕ) (b : BaseFacts) → IsGivenBase platform nodes domain (Some b) → All (HasNode nodes) b.accepted
accepted_there platform nodes domain b given = All-weaker (IsElsewhere nodes domain) (HasNode nodes) (λ i h. inside i (slice_get nodes i) refl h) b.accepted given.1.elsewhere where
  inside : (i : ℕ) (o : Option NodeFacts) → slice_get nodes i ≡ o → IsSomeAnd o (λ n. n.domain ≢ domain) → HasNode nodes i
  inside i None is h = absurd h
  inside i (Some n) is h = slice_get_within nodes i n is

-- as long as a domain waits, the marked ones of the chosen are accepted
pub kept_accepted : (platform : PlatformFacts) (t : TreeFacts) (raw : List Entry) (waiting : List ℕ) (marks : List Bool) (chosen : List ℕ) (r : ℕ) → slice_get waiting 0 ≡ Some r
    → chosen ≡ chosen_in t.nodes (filter_map decision_in raw) → marked_of marks chosen ≡ (kept_book platform t raw waiting marks).state.accepted
kept_accepted platform t raw waiting marks chosen r first is =
    ap (marked_of marks) is ∙ sym (still_kept waiting (marked_of marks (chosen_in t.nodes (filter_map decision_in raw))) (open_in t.nodes (filter_map decision_in raw)) r first)
