-- What a hold says of a log and what was seen, said of the handle that has them.
use Rattle.std.proofs.Common.{◌≡◌, ◌≢◌, ◌==◌, ◌++◌, ℕ, true, [], ◌∷◌, Option, Some, None, Result, Ok, Err, slice_get, sym, ◌∙◌, ap, subst, Bor}
use Rattle.std.specs.Prelude.{IfErr, IfOk, IfSome, MatchOption, MatchResult, OnOk, option_map}
use Rattle.once_cell.specs.Once.{Agrees}
use Rattle.sysmem_alloc.specs.Book.{BookFacts, IsBook}
use Rattle.sysmem_tree.specs.declared.refusal.Refusal.{Refusal}
use Rattle.sysmem_tree.specs.declared.refusal.Refusal.TheVariants.{Strange}
use Rattle.sysmem_tree.specs.declared.action.ActionKind.{ActionKind}
use Rattle.sysmem_tree.specs.ActionKind.{Deed, ends_node, kind_of}
use Rattle.sysmem_tree.specs.Node.{NodeFacts}
use Rattle.sysmem_tree.specs.declared.state.NodeState.{NodeState}
use Rattle.sysmem_tree.specs.Step.{shown_after_all}
use Rattle.sysmem_room.specs.declared.outcome.Outcome.{Outcome}
use Rattle.sysmem_room.specs.Agreeing.{AgreesAt, IsOwn}
use Rattle.sysmem_room.specs.Entering.{HasEntered}
use Rattle.node_limits.specs.TreeRefusals.{state_refusal}
use Rattle.sysmem_room.specs.Log.{LogFacts, next_path, shown_by}
use Rattle.sysmem_room.specs.Refusals.{IsDisputed, due}
use Rattle.sysmem_participants.proofs.Answering.{read_known}
use Rattle.sysmem_participants.proofs.Ended.{due_by_log}
use Rattle.sysmem_participants.specs.Held.{Disputes, HasActed, HasOwn, Held, IsInBook, RefusesInBook, log_of, state_of}

-- what was read of the cell is what is noted then
pub read_now : (k new : Option Outcome) (o : Option (Bor Outcome)) → MatchOption o ((k ≡ None) × (new ≡ None)) (λ r. (new ≡ Some r.now) × Agrees k r.now)
    → option_map (λ (b : Bor Outcome). b.now) o ≡ new
read_now k new None h = sym h.1
read_now k new (Some b) h = sym h.0

-- and what was known is
pub noted : (known k new : Option Outcome) (o : Option (Bor Outcome)) → k ≡ known → MatchOption o ((k ≡ None) × (new ≡ None)) (λ r. (new ≡ Some r.now) × Agrees k r.now)
    → IfSome known (λ x. new ≡ Some x)
noted known k new o same h = subst (λ z. IfSome z (λ x. new ≡ Some x)) same (subst (λ z. IfSome k (λ x. z ≡ Some x)) (read_now k new o h) (read_known k new o h))

-- for how many more actions a log has room makes no node a handle's own
own_as : (b : BookFacts) (l m : LogFacts) (seen : Option Outcome) (i : ℕ) → l.path ≡ m.path → l.begun ≡ m.begun → l.deeds ≡ m.deeds → IsOwn b l seen i → IsOwn b m seen i
own_as b l m seen i path begun deeds own = record {
  agrees = subst (λ p. AgreesAt b p m.deeds seen i) path (subst (λ ds. AgreesAt b l.path ds seen i) deeds own.agrees);
  stands = record {
    state = subst (λ ds. IfSome (slice_get b.state.tree.nodes i) (λ (n : NodeFacts). n.state ≡ (shown_after_all m.begun ds).state)) deeds
        (subst (λ z. IfSome (slice_get b.state.tree.nodes i) (λ (n : NodeFacts). n.state ≡ (shown_after_all z l.deeds).state)) begun own.stands.state);
    root = subst (λ z. IfSome (slice_get b.state.tree.nodes i) (λ (n : NodeFacts). (n.domain == i) ≡ z.is_domain_root)) begun own.stands.root;
  };
}

-- a log is a handle's, but for how many more actions it has room
pub record IsLogOf (l : LogFacts) (h : Held) : Type 0 where
  pub path : l.path ≡ h.path
  pub begun : l.begun ≡ h.begun
  pub deeds : l.deeds ≡ h.deeds

own_to : (b : BookFacts) (h : Held) (l : LogFacts) (seen known : Option Outcome) (i : ℕ) → IsLogOf l h → seen ≡ known → IsOwn b l seen i → IsOwn b (log_of h) known i
own_to b h l seen known i its saw own = subst (λ x. IsOwn b (log_of h) x i) saw (own_as b l (log_of h) seen i its.path its.begun its.deeds own)

own_from : (b : BookFacts) (h : Held) (l : LogFacts) (seen known : Option Outcome) (i : ℕ) → IsLogOf l h → seen ≡ known → IsOwn b (log_of h) known i → IsOwn b l seen i
own_from b h l seen known i its saw own = subst (λ x. IsOwn b l x i) (sym saw) (own_as b (log_of h) l known i (sym its.path) (sym its.begun) (sym its.deeds) own)

pub state_as : (h : Held) (l : LogFacts) → IsLogOf l h → (shown_by l).state ≡ state_of h
state_as h l its = ap (λ z. (shown_after_all z l.deeds).state) its.begun ∙ ap (λ ds. (shown_after_all h.begun ds).state) its.deeds

pub has_own : (b : BookFacts) (h : Held) (l : LogFacts) (seen known : Option Outcome) → IsLogOf l h → seen ≡ known → (i : ℕ) × IsOwn b l seen i → HasOwn b h known
has_own b h l seen known its saw own =
    let (i, is) = own in
    (i, own_to b h l seen known i its saw is)

pub lacks_own : (b : BookFacts) (h : Held) (l : LogFacts) (seen known : Option Outcome) → IsLogOf l h → seen ≡ known → ((i : ℕ) → IsOwn b l seen i → ⊥) → HasOwn b h known → ⊥
lacks_own b h l seen known its saw none has =
    let (i, own) = has in
    none i (own_from b h l seen known i its saw own)

-- what was entered on a log's node was on the handle's own
pub acted_on : (b c : BookFacts) (h : Held) (deed : Deed) (l : LogFacts) (seen known : Option Outcome) → IsLogOf l h → seen ≡ known → HasEntered b c l seen deed → HasActed b c h known deed
acted_on b c h deed l seen known its saw entered =
    let (i, own, is) = entered in
    (i, own_to b h l seen known i its saw own, is)

pub owned : {V : Type 0} (result : Result V Refusal) (b : BookFacts) (h : Held) (l : LogFacts) (seen known : Option Outcome) → IsLogOf l h
    → seen ≡ known → IfErr result (λ r. r ≢ Strange → (i : ℕ) × IsOwn b l seen i) → IfErr result (λ r. r ≢ Strange → HasOwn b h known)
owned (Ok v) b h l seen known its saw own = tt
owned (Err r) b h l seen known its saw own = λ not_strange. has_own b h l seen known its saw (own not_strange)

pub disputed : {V : Type 0} (result : Result V Refusal) (b : BookFacts) (h : Held) (deed : Deed) (l : LogFacts) (seen known : Option Outcome) → IsLogOf l h → seen ≡ known
    → IfErr result (λ r. r ≡ Strange → (i : ℕ) → IsOwn b l seen i → IsDisputed b l.path (shown_by l).state seen (kind_of deed) i)
    → IfErr result (λ r. r ≡ Strange → Disputes b h known deed)
disputed (Ok v) b h deed l seen known its saw strange = tt
disputed (Err r) b h deed l seen known its saw strange = λ is i own.
    let said : IsDisputed b l.path (shown_by l).state seen (kind_of deed) i = strange is i (own_from b h l seen known i its saw own) in
    subst (λ x. IsDisputed b h.path (state_of h) x (kind_of deed) i) saw
    (subst (λ s. IsDisputed b h.path s seen (kind_of deed) i) (state_as h l its) (subst (λ p. IsDisputed b p (shown_by l).state seen (kind_of deed) i) its.path said))

pub has_acted : {V : Type 0} (result : Result V Refusal) (b c : BookFacts) (h : Held) (deed : Deed) (l : LogFacts) (seen known : Option Outcome) → IsLogOf l h → seen ≡ known
    → OnOk result (HasEntered b c l seen deed) → OnOk result (HasActed b c h known deed)
has_acted (Ok v) b c h deed l seen known its saw entered = acted_on b c h deed l seen known its saw entered
has_acted (Err r) b c h deed l seen known its saw entered = tt

-- a hold's book has the handle's own node, so some book has
pub in_book : (b : BookFacts) (h : Held) (l : LogFacts) (seen known : Option Outcome) (i : ℕ) → IsLogOf l h → seen ≡ known
    → IfSome h.known (λ o. known ≡ Some o) → IsBook b → IsOwn b l seen i → IsInBook h
in_book b h l seen known i its saw knew legal own = record {
  seen = known;
  knew = knew;
  book = b;
  legal = legal;
  own = (i, own_to b h l seen known i its saw own);
}

pub there : {V : Type 0} (result : Result V Refusal) (b c : BookFacts) (h : Held) (deed : Deed) (l : LogFacts) (seen known : Option Outcome) → IsLogOf l h
    → seen ≡ known → IfSome h.known (λ o. known ≡ Some o) → IsBook b → OnOk result (HasEntered b c l seen deed)
    → IfErr result (λ r. r ≢ Strange → (i : ℕ) × IsOwn b l seen i) → MatchResult result (λ _. IsInBook h) (RefusesInBook h)
there (Ok v) b c h deed l seen known its saw knew legal entered own =
    let (i, is, _) = entered in
    in_book b h l seen known i its saw knew legal is
there (Err r) b c h deed l seen known its saw knew legal entered own = λ not_strange _.
    let (i, is) = own not_strange in
    in_book b h l seen known i its saw knew legal is

-- the path of the child that an action makes, by the log before it
pub next_of : {V : Type 0} (entered : Result V Refusal) (before : V → LogFacts) (h : Held) (l : LogFacts) → IsLogOf l h → IfOk entered (λ e. before e ≡ l)
    → IfOk entered (λ e. next_path (before e) ≡ h.path ++ (state_of h).children ∷ [])
next_of (Ok v) before h l its is =
    ap next_path is ∙ (ap (λ p. p ++ (shown_by l).state.children ∷ []) its.path ∙ ap (λ (s : NodeState). h.path ++ s.children ∷ []) (state_as h l its))
next_of (Err r) before h l its is = tt

-- what is due of an action that ends its node is due by what its log makes of it, whatever was seen
pub due_at_end : (h : Held) (l : LogFacts) (seen : Option Outcome) (kind : ActionKind) (q : Option Refusal) → ends_node kind ≡ true → IsLogOf l h → due seen l.path (shown_by l).state kind ≡ q
    → due h.known h.path (state_of h) kind ≡ q
due_at_end h l seen kind q ends its is =
    due_by_log h.known h.path (state_of h) kind ends ∙ (sym (ap (λ s. state_refusal s kind) (state_as h l its)) ∙ (sym (due_by_log seen l.path (shown_by l).state kind ends) ∙ is))
