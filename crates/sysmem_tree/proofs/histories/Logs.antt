-- Maps and the actions at each path.
use Rattle.std.proofs.Common.{◌≡◌, ◌≢◌, ◌⊎◌, ℕ, zero, suc, false, List, [], ◌∷◌, ◌++◌, length, Option, Some, None, slice_get, refl, sym, ◌∙◌, ap, subst, arith, inl, inr, length-append, append-nil}
use Rattle.std.specs.Prelude.{option_map, filter_map, IsSome}
use Rattle.std.proofs.lemmas.Bool.{cases_eq}
use Rattle.std.proofs.lemmas.List.Elements.{filter_map-append}
use Rattle.std.proofs.lemmas.Option.{same_Some, none-some}
use Rattle.sysmem_tree.specs.declared.state.NodeState.{NodeState}
use Rattle.sysmem_tree.specs.ActionKind.{Deed, kind_of}
use Rattle.sysmem_tree.specs.Path.{Shown}
use Rattle.sysmem_tree.specs.Step.{Map, shown_after, shown_new, IsStep, shown_first, made_by, shown_after_all, IsMapOf, IsInitial, top, on}
use Rattle.sysmem_tree.specs.Table.{makes}
use Rattle.sysmem_tree.proofs.steps.Growing.{kids_made, acted_children, makes_childless}
use Rattle.sysmem_tree.proofs.forests.SameForest.{SameKid}

not_some : {X : Type 0} (o : Option X) → o ≡ None → IsSome o → ⊥
not_some None e h = cc
not_some (Some x) e h = cc

-- paths
pub same_or_not : (p q : List ℕ) → (p ≡ q) ⊎ (p ≢ q)
same_or_not [] [] = inl refl
same_or_not [] (b ∷ q) = inr (λ e. absurd (cc))
same_or_not (a ∷ p) [] = inr (λ e. absurd (cc))
same_or_not (a ∷ p) (b ∷ q) = elim (cases_eq a b) [
  | inl same ↦ elim (same_or_not p q) [
    | inl rest ↦ inl (ap (λ x. x ∷ p) same ∙ ap (λ xs. b ∷ xs) rest)
    | inr other ↦ inr (λ e. other (cc))
  ]
  | inr other ↦ inr (λ e. other (cc))
]

pub last_same : (p q : List ℕ) (a b : ℕ) → p ++ a ∷ [] ≡ q ++ b ∷ [] → (p ≡ q) × (a ≡ b)
last_same [] [] a b e = (refl, cc)
last_same [] (c ∷ []) a b e = absurd (cc)
last_same [] (c ∷ (d ∷ q)) a b e = absurd (cc)
last_same (c ∷ []) [] a b e = absurd (cc)
last_same (c ∷ (d ∷ p)) [] a b e = absurd (cc)
last_same (c ∷ p) (d ∷ q) a b e =
    let head : c ≡ d = cc in
    let tail : p ++ a ∷ [] ≡ q ++ b ∷ [] = cc in
    let (rest, end) = last_same p q a b tail in (ap (λ x. x ∷ p) head ∙ ap (λ xs. d ∷ xs) rest, end)

pub longer : (p : List ℕ) (a : ℕ) → p ≢ p ++ a ∷ []
longer p a e = let long = ap length e in omega (arith, long, length-append p (a ∷ []))

-- lists of actions
after_all_push : (z : Shown) (deeds : List Deed) (deed : Deed) → shown_after_all z (deeds ++ deed ∷ []) ≡ shown_after deed (shown_after_all z deeds)
after_all_push z [] deed = refl
after_all_push z (d ∷ deeds) deed = after_all_push (shown_after d z) deeds deed

pub after_all_root : (z : Shown) (deeds : List Deed) → (shown_after_all z deeds).is_domain_root ≡ z.is_domain_root
after_all_root z [] = refl
after_all_root z (d ∷ deeds) = after_all_root (shown_after d z) deeds

after_all_option : (o : Option Shown) (deeds : List Deed) (deed : Deed) → option_map (λ z. shown_after_all z (deeds ++ deed ∷ [])) o ≡ option_map (shown_after deed) (option_map (λ z. shown_after_all z deeds) o)
after_all_option None deeds deed = refl
after_all_option (Some z) deeds deed = ap (λ x. Some x) (after_all_push z deeds deed)

before_end : {X : Type 0} (xs : List X) (x : X) (k : ℕ) → k ≢ length xs → slice_get (xs ++ x ∷ []) k ≡ slice_get xs k
before_end [] x zero other = absurd (other refl)
before_end [] x (suc k) other = refl
before_end (y ∷ xs) x zero other = refl
before_end (y ∷ xs) x (suc k) other = before_end xs x k (λ e. other (ap suc e))

at_last : {X : Type 0} (xs : List X) (x : X) → slice_get (xs ++ x ∷ []) (length xs) ≡ Some x
at_last [] x = refl
at_last (y ∷ xs) x = at_last xs x

born_length : (o : Option NodeState) (deed : Deed) → makes (kind_of deed) ≡ o → length (filter_map made_by (deed ∷ [])) ≡ kids_made o
born_length None deed e = rw e refl
born_length (Some s) deed e = rw e refl

-- the map that goes with logs; each node's children are counted by its log, and nothing
-- was asked where there is no node
pub record IsKept (log : List ℕ → List Deed) (at : Map) : Type 0 where
  pub map : IsMapOf log at
  pub counted : (q : List ℕ) (z : Shown) → at q ≡ Some z → z.state.children ≡ length (filter_map made_by (log q))
  pub nowhere : (q : List ℕ) → at q ≡ None → log q ≡ []

-- after an action at a path
module _ (log log' : List ℕ → List Deed) (at at' : Map) (path : List ℕ) (deed : Deed) (kept : IsKept log at) (step : IsStep at at' path deed)
    (more : log' path ≡ log path ++ deed ∷ []) (rest : (q : List ℕ) → q ≢ path → log' q ≡ log q) where
  abbrev Next : List ℕ
  Next = path ++ step.was.state.children ∷ []

  own_kids : step.was.state.children ≡ length (filter_map made_by (log path))
  own_kids = kept.counted path step.was step.there

  push_born : filter_map made_by (log path ++ deed ∷ []) ≡ filter_map made_by (log path) ++ filter_map made_by (deed ∷ [])
  push_born = filter_map-append made_by (log path) (deed ∷ [])

  root_then : at' [] ≡ Some (shown_after_all shown_first (log' []))
  root_then = elim (same_or_not [] path) [
    | inl same ↦
        let is : step.was ≡ shown_after_all shown_first (log []) = same_Some step.was (shown_after_all shown_first (log [])) (sym step.there ∙ (ap at (sym same) ∙ kept.map.root)) in
        ap at' same ∙ (step.own ∙ ap (λ x. Some x) (ap (shown_after deed) is ∙ (sym (after_all_push shown_first (log []) deed)
        ∙ ap (shown_after_all shown_first) (ap (λ q. log q ++ deed ∷ []) same ∙ (sym more ∙ ap log' (sym same))))))
    | inr other ↦
        step.others [] other (λ _ e. absurd (let long = ap length e in omega (arith, long, length-append path (step.was.state.children ∷ []))))
        ∙ (kept.map.root ∙ ap (λ l. Some (shown_after_all shown_first l)) (sym (rest [] other)))
  ]

  -- a kid of the node that was acted on
  kid_by : (o : Option NodeState) → makes (kind_of deed) ≡ o → (k : ℕ) → at' (path ++ k ∷ []) ≡ option_map (λ z. shown_after_all z (log' (path ++ k ∷ []))) (slice_get (filter_map made_by (log path ++ deed ∷ [])) k)
  kid_by None e k =
      let none : filter_map made_by (deed ∷ []) ≡ [] = rw e refl in
      let away : path ++ k ∷ [] ≢ path = λ same. longer path k (sym same) in
      step.others (path ++ k ∷ []) away (λ some. absurd (not_some (makes (kind_of deed)) e some))
      ∙ (kept.map.kid path k
      ∙ (ap (λ l. option_map (λ z. shown_after_all z l) (slice_get (filter_map made_by (log path)) k)) (sym (rest (path ++ k ∷ []) away))
      ∙ ap (λ ys. option_map (λ z. shown_after_all z (log' (path ++ k ∷ []))) (slice_get ys k)) (sym (push_born ∙ (ap (λ ys. filter_map made_by (log path) ++ ys) none ∙ append-nil (filter_map made_by (log path)))))))
  kid_by (Some s) e k =
      let one : filter_map made_by (deed ∷ []) ≡ shown_new deed s ∷ [] = rw e refl in
      let both : filter_map made_by (log path ++ deed ∷ []) ≡ filter_map made_by (log path) ++ shown_new deed s ∷ [] = push_born ∙ ap (λ ys. filter_map made_by (log path) ++ ys) one in
      let away : path ++ k ∷ [] ≢ path = λ same. longer path k (sym same) in
      elim (cases_eq k step.was.state.children) [
        | inl end ↦
            let empty : log' (path ++ k ∷ []) ≡ [] = rest (path ++ k ∷ []) away ∙ (ap (λ j. log (path ++ j ∷ [])) end ∙ kept.nowhere Next step.free) in
            ap (λ j. at' (path ++ j ∷ [])) end
            ∙ (step.kid s e
            ∙ (ap (option_map (λ z. shown_after_all z [])) (sym (ap (λ j. slice_get (filter_map made_by (log path) ++ shown_new deed s ∷ []) j) (end ∙ own_kids) ∙ at_last (filter_map made_by (log path)) (shown_new deed s)))
            ∙ (ap (λ l. option_map (λ z. shown_after_all z l) (slice_get (filter_map made_by (log path) ++ shown_new deed s ∷ []) k)) (sym empty)
            ∙ ap (λ ys. option_map (λ z. shown_after_all z (log' (path ++ k ∷ []))) (slice_get ys k)) (sym both))))
        | inr apart ↦
            step.others (path ++ k ∷ []) away (λ _ same. apart ((last_same path path k step.was.state.children same).1))
            ∙ (kept.map.kid path k
            ∙ (ap (λ l. option_map (λ z. shown_after_all z l) (slice_get (filter_map made_by (log path)) k)) (sym (rest (path ++ k ∷ []) away))
            ∙ ap (λ o. option_map (λ z. shown_after_all z (log' (path ++ k ∷ []))) o)
            (sym (ap (λ ys. slice_get ys k) both ∙ before_end (filter_map made_by (log path)) (shown_new deed s) k (λ is. apart (is ∙ sym own_kids))))))
      ]

  kid_then : (p : List ℕ) (k : ℕ) → at' (p ++ k ∷ []) ≡ option_map (λ z. shown_after_all z (log' (p ++ k ∷ []))) (slice_get (filter_map made_by (log' p)) k)
  kid_then p k = elim (same_or_not p path) [
    | inl same ↦
        subst (λ q. at' (q ++ k ∷ []) ≡ option_map (λ z. shown_after_all z (log' (q ++ k ∷ []))) (slice_get (filter_map made_by (log' q)) k)) (sym same)
        (kid_by (makes (kind_of deed)) refl k ∙ ap (λ l. option_map (λ z. shown_after_all z (log' (path ++ k ∷ []))) (slice_get (filter_map made_by l) k)) (sym more))
    | inr other ↦ elim (same_or_not (p ++ k ∷ []) path) [
      | inl own ↦
          let logs : log (p ++ k ∷ []) ++ deed ∷ [] ≡ log' (p ++ k ∷ []) = ap (λ q. log q ++ deed ∷ []) own ∙ (sym more ∙ ap log' (sym own)) in
          let was : Some step.was ≡ option_map (λ z. shown_after_all z (log (p ++ k ∷ []))) (slice_get (filter_map made_by (log p)) k) = sym step.there ∙ (ap at (sym own) ∙ kept.map.kid p k) in
          ap at' own ∙ (step.own ∙ (ap (option_map (shown_after deed)) was
          ∙ (sym (after_all_option (slice_get (filter_map made_by (log p)) k) (log (p ++ k ∷ [])) deed)
          ∙ (ap (λ l. option_map (λ z. shown_after_all z l) (slice_get (filter_map made_by (log p)) k)) logs
          ∙ ap (λ l. option_map (λ z. shown_after_all z (log' (p ++ k ∷ []))) (slice_get (filter_map made_by l) k)) (sym (rest p other))))))
      | inr away ↦
          step.others (p ++ k ∷ []) away (λ _ same. other ((last_same p path k step.was.state.children same).0))
          ∙ (kept.map.kid p k ∙ (ap (λ l. option_map (λ z. shown_after_all z l) (slice_get (filter_map made_by (log p)) k)) (sym (rest (p ++ k ∷ []) away))
          ∙ ap (λ l. option_map (λ z. shown_after_all z (log' (p ++ k ∷ []))) (slice_get (filter_map made_by l) k)) (sym (rest p other))))
    ]
  ]

  -- what is at another path: the new node, or what was there
  elsewhere : (q : List ℕ) → q ≢ path → ((s : NodeState) × (makes (kind_of deed) ≡ Some s) × (q ≡ Next)) ⊎ (at' q ≡ at q)
  elsewhere q away = by (makes (kind_of deed)) refl where
    by : (o : Option NodeState) → makes (kind_of deed) ≡ o → ((s : NodeState) × (makes (kind_of deed) ≡ Some s) × (q ≡ path ++ step.was.state.children ∷ [])) ⊎ (at' q ≡ at q)
    by None e = inr (step.others q away (λ some. absurd (not_some (makes (kind_of deed)) e some)))
    by (Some s) e = elim (same_or_not q (path ++ step.was.state.children ∷ [])) [ inl is ↦ inl (s, e, is) | inr other ↦ inr (step.others q away (λ _. other)) ]

  counted_then : (q : List ℕ) (z : Shown) → at' q ≡ Some z → z.state.children ≡ length (filter_map made_by (log' q))
  counted_then q z there = elim (same_or_not q path) [
    | inl same ↦
        let is : shown_after deed step.was ≡ z = same_Some (shown_after deed step.was) z (sym step.own ∙ (ap at' (sym same) ∙ there)) in
        let logs : filter_map made_by (log' q) ≡ filter_map made_by (log path) ++ filter_map made_by (deed ∷ []) = ap (λ p. filter_map made_by (log' p)) same ∙ (ap (filter_map made_by) more ∙ push_born) in
        let sum = ap length logs ∙ length-append (filter_map made_by (log path)) (filter_map made_by (deed ∷ [])) in
        omega (arith, ap (λ (x : Shown). x.state.children) is, acted_children (kind_of deed) step.was.state, own_kids, born_length (makes (kind_of deed)) deed refl, sum)
    | inr away ↦ elim (elsewhere q away) [
      | inl new ↦
          let is : shown_new deed new.0 ≡ z = same_Some (shown_new deed new.0) z (sym (step.kid new.0 new.1) ∙ (ap at' (sym new.2) ∙ there)) in
          let empty : log' q ≡ [] = rest q away ∙ (ap log new.2 ∙ kept.nowhere Next step.free) in
          sym (ap (λ (x : Shown). x.state.children) is) ∙ (makes_childless (kind_of deed) new.0 new.1 ∙ ap (λ l. length (filter_map made_by l)) (sym empty))
      | inr old ↦ kept.counted q z (sym old ∙ there) ∙ ap (λ l. length (filter_map made_by l)) (sym (rest q away))
    ]
  ]

  nowhere_then : (q : List ℕ) → at' q ≡ None → log' q ≡ []
  nowhere_then q none = elim (same_or_not q path) [
    | inl same ↦ absurd (none-some (shown_after deed step.was) (sym none ∙ (ap at' same ∙ step.own)))
    | inr away ↦ elim (elsewhere q away) [
      | inl new ↦ absurd (none-some (shown_new deed new.0) (sym none ∙ (ap at' new.2 ∙ step.kid new.0 new.1)))
      | inr old ↦ rest q away ∙ kept.nowhere q (sym old ∙ none)
    ]
  ]

  pub kept_then : IsKept log' at'
  kept_then = record { map = record { root = root_then; kid = kid_then }; counted = counted_then; nowhere = nowhere_then }

-- two maps whose logs agree on the initial domain of the first
module _ (log log' : List ℕ → List Deed) (at at' : Map) (m : IsMapOf log at) (m' : IsMapOf log' at') (same : (q : List ℕ) → IsInitial at q → log q ≡ log' q) where
  kid_slot : (path : List ℕ) (k : ℕ) → IsInitial at path → (o : Option Shown) → slice_get (filter_map made_by (log path)) k ≡ o
      → (at (path ++ k ∷ []) ≡ option_map (λ z. shown_after_all z (log (path ++ k ∷ []))) o) × (at' (path ++ k ∷ []) ≡ option_map (λ z. shown_after_all z (log' (path ++ k ∷ []))) o)
  kid_slot path k initial o e = (
    m.kid path k ∙ ap (option_map (λ z. shown_after_all z (log (path ++ k ∷ [])))) e,
    m'.kid path k ∙ ap (option_map (λ z. shown_after_all z (log' (path ++ k ∷ [])))) (ap (λ l. slice_get (filter_map made_by l) k) (sym (same path initial)) ∙ e),
  )

  -- a kid of a path of the initial domain: none in both, another domain's root in both, or
  -- the same node of the initial domain
  pub same_kid : (path : List ℕ) (k : ℕ) → IsInitial at path → SameKid (IsInitial at (path ++ k ∷ [])) (at (path ++ k ∷ [])) (at' (path ++ k ∷ []))
  same_kid path k initial = by (slice_get (filter_map made_by (log path)) k) (kid_slot path k initial _ refl) where
    by : (o : Option Shown) → (at (path ++ k ∷ []) ≡ option_map (λ z. shown_after_all z (log (path ++ k ∷ []))) o) × (at' (path ++ k ∷ []) ≡ option_map (λ z. shown_after_all z (log' (path ++ k ∷ []))) o)
        → SameKid (IsInitial at (path ++ k ∷ [])) (at (path ++ k ∷ [])) (at' (path ++ k ∷ []))
    by None e = rw (e.0, e.1) tt
    by (Some z) e =
        let a : Shown = shown_after_all z (log (path ++ k ∷ [])) in
        let b : Shown = shown_after_all z (log' (path ++ k ∷ [])) in
        let both : SameKid (IsInitial at (path ++ k ∷ [])) (Some a) (Some b) = (
          after_all_root z (log (path ++ k ∷ [])) ∙ sym (after_all_root z (log' (path ++ k ∷ []))),
          λ plain. (let here : IsInitial at (path ++ k ∷ []) = on path k a initial e.0 plain in (ap (shown_after_all z) (same (path ++ k ∷ []) here), here)),
        ) in
        subst (λ x. SameKid (IsInitial at (path ++ k ∷ [])) x (at' (path ++ k ∷ []))) (sym e.0) (subst (λ y. SameKid (IsInitial at (path ++ k ∷ [])) (Some a) y) (sym e.1) both)

  from_kid : (W : Type 0) (a b : Option Shown) → SameKid W a b → (z : Shown) → b ≡ Some z → z.is_domain_root ≡ false → W × (a ≡ Some z)
  from_kid W None None s z e plain = absurd (none-some z e)
  from_kid W None (Some y) s z e plain = absurd s
  from_kid W (Some x) None s z e plain = absurd s
  from_kid W (Some x) (Some y) s z e plain =
      let is : y ≡ z = same_Some y z e in
      let (equal, w) = s.1 (s.0 ∙ (ap (λ (v : Shown). v.is_domain_root) is ∙ plain)) in (w, ap (λ v. Some v) (equal ∙ is))

  -- what is a path of the initial domain in the second is one in the first, with the same node
  pub same_path : (q : List ℕ) → IsInitial at' q → IsInitial at q × (at q ≡ at' q)
  same_path _ top = (top, m.root ∙ (ap (λ l. Some (shown_after_all shown_first l)) (same [] top) ∙ sym m'.root))
  same_path _ (on path k z initial e plain) =
      let (before, _) = same_path path initial in
      let (w, is) = from_kid (IsInitial at (path ++ k ∷ [])) (at (path ++ k ∷ [])) (at' (path ++ k ∷ [])) (same_kid path k before) z e plain in
      (w, is ∙ sym e)
