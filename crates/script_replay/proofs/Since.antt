-- An act that asks for the verdict makes no domain fail.
use Rattle.std.proofs.Common.{◌≡◌, ℕ, ◌++◌, not, ◌&&◌, Bool, true, false, List, [], ◌∷◌, Option, Some, None, get_or, refl, sym, ◌∙◌, ap, subst, append-nil}
use Rattle.std.specs.Prelude.{IfSome, filter, map, if◌then◌else◌}
use Rattle.sysmem_alloc.specs.Sound.{roots_of}
use Rattle.sysmem_tree.specs.ActionKind.{Deed}
use Rattle.sysmem_tree.specs.Domain.{TreeFacts, IsSoundTree, has_failed}
use Rattle.sysmem_tree.specs.Path.{path_of}
use Rattle.script_reading.specs.Call.{ActFacts, checks, waits}
use Rattle.script_reading.specs.Script.{CallFacts}
use Rattle.script_replay.specs.declared.reply.Reply.{Reply}
use Rattle.script_replay.specs.Answer.{AsksFor, AsksVerdict, Replies, to_duplicate, to_create_group, to_bind, to_create_child, to_complete, to_set_none, to_set, to_attach_token, to_release, to_close, to_check, to_wait, skips, misreads, starves, lacks, refuses, accepts, tells}
use Rattle.script_replay.specs.Marks.{AreMarksOf, failed_at}
use Rattle.script_replay.specs.Events.{EventFacts, becomes, failed, failed_events}
use Rattle.script_replay.specs.State.{RunState, collection_tree}
use Rattle.script_replay.proofs.Following.{answered_marks}

-- an act that asks for an action
abbrev IsDeed : ActFacts → Type 0
IsDeed checks = ⊥
IsDeed waits = ⊥
IsDeed _ = Unit {0}

is_deed : (act : ActFacts) (deed : Deed) → AsksFor act deed → IsDeed act
is_deed _ _ (to_duplicate name) = tt
is_deed _ _ (to_create_group name) = tt
is_deed _ _ to_bind = tt
is_deed _ _ (to_create_child name) = tt
is_deed _ _ to_complete = tt
is_deed _ _ to_set_none = tt
is_deed _ _ (to_set d asked read) = tt
is_deed _ _ (to_attach_token name) = tt
is_deed _ _ to_release = tt
is_deed _ _ to_close = tt

no_deed : (act : ActFacts) → AsksVerdict act → IsDeed act → ⊥
no_deed _ to_check deed = deed
no_deed _ to_wait deed = deed

-- it leaves the tree
same_tree : (s t : RunState) (r : CallFacts) (reply : Reply) → AsksVerdict r.act → Replies s r reply t → collection_tree t ≡ collection_tree s
same_tree s _ r _ asks (skips none) = refl
same_tree s _ r _ asks (misreads k d fault here act read) = refl
same_tree s _ r _ asks (starves k d fault here act want lack) = refl
same_tree s _ r _ asks (lacks k d asked here act read) = refl
same_tree s _ r _ asks (refuses k deed refusal here asked why) = refl
same_tree s _ r _ asks (accepts k made deed tree here asked done) = absurd (no_deed r.act asks (is_deed r.act deed asked))
same_tree s _ r _ asks (tells k here asked) = refl

none_new : (t : TreeFacts) (rs : List ℕ) → filter (λ r. has_failed t r && not (has_failed t r)) rs ≡ []
none_new t [] = refl
none_new t (r ∷ rs) = ap (λ b. if b then r ∷ filter (λ r. has_failed t r && not (has_failed t r)) rs else filter (λ r. has_failed t r && not (has_failed t r)) rs) (never (has_failed t r)) ∙ none_new t rs where
  never : (b : Bool) → (b && not b) ≡ false
  never true = refl
  never false = refl

no_events : (t u : TreeFacts) → u ≡ t → failed_events t u ≡ []
no_events t u same =
    ap (failed_events t) same ∙ ap (map (λ r. becomes (path_of t.nodes r) failed)) (none_new t (roots_of t))

-- what failed since the marks were set, where any were
pub since_added : (s t : RunState) (r : CallFacts) (reply : Reply) (u v : TreeFacts) (marks : Option (List Bool)) (before after : List EventFacts) → IsSoundTree (collection_tree s) → u ≡ collection_tree s → v ≡ collection_tree t
    → IfSome marks (λ ms. (k : ℕ) → get_or ms k false ≡ failed_at u k) → (marks ≡ None → AsksVerdict r.act) → Replies s r reply t
    → IfSome marks (λ ms. (old : TreeFacts) → AreMarksOf old v ms → after ≡ before ++ failed_events old v) → (marks ≡ None → after ≡ before)
    → after ≡ before ++ failed_events (collection_tree s) (collection_tree t)
since_added s t r reply u v (Some ms) before after sound was is marked asks replies put none =
    let old = answered_marks s t r reply ms sound (λ k. marked k ∙ ap (λ (x : TreeFacts). failed_at x k) was) replies in
    (subst (λ (x : TreeFacts). (old : TreeFacts) → AreMarksOf old x ms → after ≡ before ++ failed_events old x) is put) (collection_tree s) old
since_added s t r reply u v None before after sound was is marked asks replies put none =
    none refl ∙ (sym (append-nil before) ∙ ap (λ ls. before ++ ls) (sym (no_events (collection_tree s) (collection_tree t) (same_tree s t r reply (asks refl) replies))))
