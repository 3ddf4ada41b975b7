-- What an action makes ready is its own domain, if any.
use Rattle.std.proofs.Common.{◌≡◌, ◌≢◌, ◌⊎◌, ℕ, zero, suc, Bool, true, false, not, ◌&&◌, List, [], ◌∷◌, ◌++◌, length, Option, Some, None, Ok, slice_get, refl, sym, ◌∙◌, ap, subst, arith, inl, inr, append-nil}
use Rattle.std.specs.Prelude.{IfSome, filter, option_and_then, if◌then◌else◌}
use Rattle.std.proofs.lemmas.Bool.{cases_Bool, false_from_ne_true}
use Rattle.std.proofs.lemmas.List.Elements.{filter-append}
use Rattle.std.proofs.lemmas.Option.{same_Some}
use Rattle.std.specs.List.{AllByRecursion}
use Rattle.list_lemmas.proofs.CallerLemmas.{and_parts}
use Rattle.sysmem_tree.specs.declared.action.ActionKind.{ActionKind}
use Rattle.sysmem_tree.specs.ActionKind.{Deed, kind_of}
use Rattle.sysmem_tree.specs.Completing.{can_make_ready, ends_wait, unready_of}
use Rattle.sysmem_tree.specs.Domain.{TreeFacts, HasDomain, IsSoundTree, is_ready}
use Rattle.sysmem_tree.specs.Node.{NodeFacts}
use Rattle.sysmem_tree.specs.Tree.{Applied, applied}
use Rattle.sysmem_alloc.specs.Marks.{if_ready}
use Rattle.sysmem_alloc.specs.Sound.{AreDistinct, roots_of}
use Rattle.sysmem_alloc.specs.State.{newly_ready}
use Rattle.sysmem_tree.proofs.CallerLemmas.{accepted, home_root, was_ready, IsAccepted}
use Rattle.sysmem_alloc.proofs.Lists.{all_weaken, none_pass}
use Rattle.sysmem_alloc.proofs.Trees.{acted_there, added, acted_roots, added_unready, domains_apart, domains_there, root_among}

-- where none but one passes, that is what passes
one_passes : (p : ℕ → Bool) (xs : List ℕ) (d k : ℕ) → AreDistinct xs → slice_get xs k ≡ Some d → AllByRecursion (λ r. d ≢ r → p r ≡ false) xs → filter p xs ≡ (if p d then d ∷ [] else [])
one_passes p [] d k apart at others = absurd (cc)
one_passes p (x ∷ xs) d zero apart at others =
    let same : x ≡ d = same_Some x d at in
    ap (λ ys. if p x then x ∷ ys else ys) (none_pass p xs (rest xs (subst (λ y. AllByRecursion (λ r. y ≢ r) xs) same apart.0) others.1)) ∙ ap (λ y. if p y then y ∷ [] else []) same where
      rest : (ys : List ℕ) → AllByRecursion (λ r. d ≢ r) ys → AllByRecursion (λ r. d ≢ r → p r ≡ false) ys → AllByRecursion (λ r. p r ≡ false) ys
      rest [] a b = tt
      rest (y ∷ ys) a b = (b.0 a.0, rest ys a.1 b.1)
one_passes p (x ∷ xs) d (suc k) apart at others =
    ap (λ b. if b then x ∷ filter p xs else filter p xs) (others.0 (λ e. there xs k at apart.0 (sym e))) ∙ one_passes p xs d k apart.1 at others.1 where
      there : (ys : List ℕ) (k : ℕ) → slice_get ys k ≡ Some d → AllByRecursion (λ y. x ≢ y) ys → x ≡ d → ⊥
      there [] k at a e = absurd (cc)
      there (y ∷ ys) zero at a e = a.0 (e ∙ sym (same_Some y d at))
      there (y ∷ ys) (suc k) at a e = there ys k at a.1 e

module _ (t : TreeFacts) (i : ℕ) (deed : Deed) (made : Applied) (sound : IsSoundTree t) (ok : applied t i deed ≡ Ok made) (n : NodeFacts) (fine : IsAccepted t i deed made n) where
  abbrev is_new : ℕ → Bool
  is_new r = is_ready made.tree r && not (is_ready t r)

  -- of the domains that were there no other is newly ready
  not_new : (r : ℕ) → HasDomain t.nodes r → (ends_wait (kind_of deed) ≡ false) ⊎ (n.domain ≢ r) → is_new r ≡ false
  not_new r has other = false_from_ne_true (is_new r) (λ e.
      let (now, unready) = and_parts (is_ready made.tree r) (not (is_ready t r)) e in
      let was = was_ready t i n deed made sound ok fine r has other now in
      let none : not true ≡ true = subst (λ b. not b ≡ true) was unready in
      absurd (cc))

  -- the domain's own
  own_new : (b : Bool) → is_ready t n.domain ≡ b → (if is_ready made.tree n.domain && not b then n.domain ∷ [] else []) ≡ if_ready made.tree (if b then None else Some n.domain)
  own_new true e = by (is_ready made.tree n.domain) where
    by : (c : Bool) → (if c && false then n.domain ∷ [] else []) ≡ []
    by true = refl
    by false = refl
  own_new false e = by (is_ready made.tree n.domain) where
    by : (c : Bool) → (if c && true then n.domain ∷ [] else []) ≡ (if c then n.domain ∷ [] else [])
    by true = refl
    by false = refl

  among_old : filter is_new (roots_of t) ≡ if_ready made.tree (if ends_wait (kind_of deed) then unready_of t n else None)
  among_old = elim (cases_Bool (ends_wait (kind_of deed))) as (λ _. filter is_new (roots_of t) ≡ if_ready made.tree (if ends_wait (kind_of deed) then unready_of t n else None)) [
    | inl ends ↦
        let (k, at) = root_among t n.domain sound.domains (home_root t.nodes sound.tree (suc i) i n (omega arith) fine.there) in
        one_passes is_new (roots_of t) n.domain k (domains_apart t sound) at (all_weaken (HasDomain t.nodes) (λ r. n.domain ≢ r → is_new r ≡ false) (roots_of t) (λ r has away. not_new r has (inr away)) (domains_there t sound))
        ∙ (own_new (is_ready t n.domain) refl ∙ ap (λ b. if_ready made.tree (if b then unready_of t n else None)) (sym ends))
    | inr idle ↦
        none_pass is_new (roots_of t) (all_weaken (HasDomain t.nodes) (λ r. is_new r ≡ false) (roots_of t) (λ r has. not_new r has (inl idle)) (domains_there t sound))
        ∙ ap (λ b. if_ready made.tree (if b then unready_of t n else None)) (sym idle)
  ]

  newly : newly_ready t made.tree ≡ if_ready made.tree (can_make_ready t i (kind_of deed))
  newly =
      let more : List ℕ = added (kind_of deed) (length t.nodes) in
      let roots : roots_of made.tree ≡ roots_of t ++ more = subst (λ (u : TreeFacts). roots_of u ≡ roots_of t ++ more) fine.tree (acted_roots t n (kind_of deed)) in
      let unready = subst (λ (u : TreeFacts). AllByRecursion (λ r. is_ready u r ≡ false) more) fine.tree (added_unready t i n deed) in
      ap (filter is_new) roots
      ∙ (filter-append is_new (roots_of t) more
      ∙ (ap (λ xs. filter is_new (roots_of t) ++ xs) (none_pass is_new more (all_weaken (λ r. is_ready made.tree r ≡ false) (λ r. is_new r ≡ false) more (λ r e. ap (λ b. b && not (is_ready t r)) e) unready))
      ∙ (append-nil (filter is_new (roots_of t))
      ∙ (among_old ∙ ap (λ o. if_ready made.tree (if ends_wait (kind_of deed) then option_and_then (unready_of t) o else None)) (sym fine.there)))))

-- what an action makes ready is the domain that it can make ready, if that is so now
pub acted_newly : (t : TreeFacts) (i : ℕ) (kind : ActionKind) (deed : Deed) (made : Applied) (unready : Option ℕ) → IsSoundTree t → applied t i deed ≡ Ok made → kind ≡ kind_of deed
    → unready ≡ can_make_ready t i kind → newly_ready t made.tree ≡ if_ready made.tree unready
acted_newly t i kind deed made unready sound ok same asked =
    let (n, fine) = accepted t i deed made ok in
    newly t i deed made sound ok n fine ∙ sym (ap (if_ready made.tree) (asked ∙ ap (can_make_ready t i) same))

-- and stays a domain
pub still_domain : (t : TreeFacts) (i : ℕ) (deed : Deed) (made : Applied) (o : Option ℕ) → applied t i deed ≡ Ok made → IfSome o (HasDomain t.nodes) → IfSome o (HasDomain made.tree.nodes)
still_domain t i deed made None ok has = tt
still_domain t i deed made (Some r) ok has = let (n, fine) = accepted t i deed made ok in subst (λ (u : TreeFacts). HasDomain u.nodes r) fine.tree (acted_there t i n deed r fine.there has)
