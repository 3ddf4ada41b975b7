-- From one tree to the next: which domains wait then, and how many are ready.
use Rattle.std.proofs.Common.{◌≡◌, ◌≢◌, ℕ, ◌+◌, Bool, true, false, not, ◌&&◌, List, ◌++◌, length, refl, sym, ◌∙◌, ap, subst, append-nil}
use Rattle.std.specs.Prelude.{filter}
use Rattle.std.proofs.lemmas.List.Elements.{filter-append}
use Rattle.std.specs.List.{AllByRecursion}
use Rattle.list_lemmas.proofs.CallerLemmas.{and_parts}
use Rattle.sysmem_tree.specs.Domain.{TreeFacts, HasDomain, IsSoundTree, decision_of, is_ready, is_undecided}
use Rattle.sysmem_alloc.specs.Sound.{AreDistinct, MayWait, roots_of}
use Rattle.sysmem_alloc.specs.State.{newly_ready}
use Rattle.sysmem_alloc.proofs.Lists.{all_append, all_weaken, all_filter, none_pass, apart_append, apart_filter, pass_more}
use Rattle.sysmem_alloc.proofs.Trees.{domains_there, domains_apart}

-- one tree follows on another, with these new domains
pub record Follows (old new : TreeFacts) (added : List ℕ) : Type 0 where
  pub before : IsSoundTree old
  pub after : IsSoundTree new
  pub roots : roots_of new ≡ roots_of old ++ added
  pub unready : AllByRecursion (λ r. is_ready new r ≡ false) added
  pub there : (r : ℕ) → HasDomain old.nodes r → HasDomain new.nodes r
  pub ready : (r : ℕ) → HasDomain old.nodes r → is_ready old r ≡ true → is_ready new r ≡ true
  pub undecided : (r : ℕ) → is_ready old r ≡ false → decision_of new.domains r ≡ decision_of old.domains r

-- who waits after it
pub record Advances (old new : TreeFacts) (waiting : List ℕ) : Type 0 where
  pub waits : AllByRecursion (MayWait new) (waiting ++ newly_ready old new)
  pub once : AreDistinct (waiting ++ newly_ready old new)
  pub count : length (filter (is_ready new) (roots_of new)) ≡ length (filter (is_ready old) (roots_of old)) + length (newly_ready old new)

not_true : (b : Bool) → not b ≡ true → b ≡ false
not_true true e = absurd (cc)
not_true false e = refl

undecided_if : (b : Bool) → (b ≡ false → ⊥) → b ≡ true
undecided_if true h = refl
undecided_if false h = absurd (h refl)

-- what is newly ready may wait
newly : (old new : TreeFacts) (r : ℕ) → IsSoundTree old → ((r : ℕ) → is_ready old r ≡ false → decision_of new.domains r ≡ decision_of old.domains r)
    → HasDomain new.nodes r → (is_ready new r && not (is_ready old r)) ≡ true → MayWait new r × (is_ready old r ≡ false)
newly old new r sound same has is =
    let (now, before) = and_parts (is_ready new r) (not (is_ready old r)) is in
    let unready : is_ready old r ≡ false = not_true (is_ready old r) before in (
      record {
        there = has;
        ready = now;
        undecided = undecided_if (is_undecided (decision_of new.domains r)) (λ e.
            let ready : is_ready old r ≡ true = (sound.decided r (ap is_undecided (sym (same r unready)) ∙ e)).ready in
            absurd (cc));
      },
      unready,
    )

still : (old new : TreeFacts) (r : ℕ) → ((r : ℕ) → HasDomain old.nodes r → HasDomain new.nodes r) → ((r : ℕ) → HasDomain old.nodes r → is_ready old r ≡ true → is_ready new r ≡ true)
    → MayWait old r × (decision_of new.domains r ≡ decision_of old.domains r) → MayWait new r
still old new r there ready (w, same) = record { there = there r w.there; ready = ready r w.there w.ready; undecided = ap is_undecided same ∙ w.undecided }

pub advance : (old new : TreeFacts) (added waiting : List ℕ) → Follows old new added
    → AllByRecursion (λ r. MayWait old r × (decision_of new.domains r ≡ decision_of old.domains r)) waiting → AreDistinct waiting → Advances old new waiting
advance old new added waiting f waits once = record {
  waits = all_append (MayWait new) waiting (newly_ready old new) (all_weaken (λ r. MayWait old r × (decision_of new.domains r ≡ decision_of old.domains r)) (MayWait new) waiting (λ r w. still old new r f.there f.ready w) waits)
      (all_weaken Fresh (MayWait new) (newly_ready old new) (λ r w. w.0) fresh);
  once = apart_append waiting (newly_ready old new) once (apart_filter more (roots_of new) (domains_apart new f.after))
      (all_weaken (λ r. MayWait old r × (decision_of new.domains r ≡ decision_of old.domains r)) (λ x. AllByRecursion (λ y. x ≢ y) (newly_ready old new)) waiting
      (λ x w. all_weaken Fresh (λ y. x ≢ y) (newly_ready old new) (λ y n same. ready_not old x y w.0.ready n.1 same) fresh) waits);
  count = counted;
} where
  more : ℕ → Bool
  more r = is_ready new r && not (is_ready old r)

  Fresh : ℕ → Type 0
  Fresh r = MayWait new r × (is_ready old r ≡ false)

  fresh : AllByRecursion Fresh (newly_ready old new)
  fresh = all_weaken (λ r. HasDomain new.nodes r × (more r ≡ true)) Fresh (newly_ready old new) (λ r h. newly old new r f.before f.undecided h.0 h.1)
      (all_filter (HasDomain new.nodes) more (roots_of new) (domains_there new f.after))

  ready_not : (old : TreeFacts) (x y : ℕ) → is_ready old x ≡ true → is_ready old y ≡ false → x ≡ y → ⊥
  ready_not old x y is isn't same = let e : is_ready old y ≡ true = subst (λ z. is_ready old z ≡ true) same is in absurd (cc)

  none_more : (b c : Bool) → b ≡ false → (b && not c) ≡ false
  none_more true c e = absurd (cc)
  none_more false c e = refl

  first : filter (is_ready new) (roots_of new) ≡ filter (is_ready new) (roots_of old)
  first = ap (filter (is_ready new)) f.roots ∙ (filter-append (is_ready new) (roots_of old) added ∙ (ap (λ ys. filter (is_ready new) (roots_of old) ++ ys) (none_pass (is_ready new) added f.unready) ∙ append-nil (filter (is_ready new) (roots_of old))))

  second : filter more (roots_of new) ≡ filter more (roots_of old)
  second = ap (filter more) f.roots ∙ (filter-append more (roots_of old) added
      ∙ (ap (λ ys. filter more (roots_of old) ++ ys) (none_pass more added (all_weaken (λ r. is_ready new r ≡ false) (λ r. more r ≡ false) added (λ r e. none_more (is_ready new r) (is_ready old r) e) f.unready)) ∙ append-nil (filter more (roots_of old))))

  counted : length (filter (is_ready new) (roots_of new)) ≡ length (filter (is_ready old) (roots_of old)) + length (newly_ready old new)
  counted =
      let grown = pass_more (is_ready old) (is_ready new) (roots_of old) (all_weaken (HasDomain old.nodes) (λ r. is_ready old r ≡ true → is_ready new r ≡ true) (roots_of old) (λ r has. f.ready r has) (domains_there old f.before)) in
      ap length first ∙ (grown ∙ ap (λ ys. length (filter (is_ready old) (roots_of old)) + length ys) (sym second))
