-- Where no stub was closed, no node of the book was.
use Rattle.std.proofs.Common.{◌≡◌, ◌<◌, ℕ, ◌==◌, true, false, List, [], ◌∷◌, ◌++◌, None, Result, Ok, Err, length, refl, sym, ◌∙◌, ap, subst, arith, rules, tests}
use Rattle.std.specs.Prelude.{IsOk, if◌then◌else◌}
use Rattle.std.specs.List.{AllByRecursion}
use Rattle.std.proofs.lemmas.List.{append_assoc}
use Rattle.std.proofs.lemmas.Option.{slice_get_within}
use Rattle.negotiation_inputs.specs.Platform.{PlatformFacts}
use Rattle.sysmem_tree.specs.declared.refusal.Refusal.{Refusal}
use Rattle.sysmem_tree.specs.ActionKind.{Deed, kind_of}
use Rattle.sysmem_tree.specs.Domain.{TreeFacts}
use Rattle.sysmem_tree.specs.History.{is_close}
use Rattle.sysmem_tree.specs.Tree.{Applied, applied}
use Rattle.sysmem_tree.proofs.CallerLemmas.{accepted}
use Rattle.sysmem_alloc.specs.Entry.{BookEntry, Acted, Decided}
use Rattle.sysmem_alloc.specs.History.{Allows, AreAllowed, IsLegal, NoEarlyClose, after_entry, replay, replay_from}
use Rattle.sysmem_alloc.specs.Laws.{NumbersStay}
use Rattle.sysmem_alloc.specs.State.{State, first_state}
use Rattle.sysmem_room.specs.Agreeing.{book_log, own_deeds}
use Rattle.sysmem_room.proofs.CallerLemmas.{log_cons}
use Rattle.sysmem_participants.specs.Held.{Left}
use Rattle.sysmem_participants.specs.Laws.{NoneClosed}
use Rattle.sysmem_participants.proofs.TwoAudits.{read_open}

abbrev IsKept : Deed → Type 0
IsKept deed = is_close (kind_of deed) ≡ false

-- what is true of the actions on a node is true of each action on it
own_first : (i : ℕ) (deed : Deed) → own_deeds i (Acted i deed) ≡ deed ∷ []
own_first i deed = let t : (i == i) ≡ true = search (rules, tests) in ap (λ b. if b then deed ∷ [] else []) t

of_rest : (ds es : List Deed) → AllByRecursion IsKept (ds ++ es) → AllByRecursion IsKept es
of_rest [] es all = all
of_rest (d ∷ ds) es all = of_rest ds es all.1

in_log : (es fs : List BookEntry) (i : ℕ) (deed : Deed) → AllByRecursion IsKept (book_log (es ++ Acted i deed ∷ fs) i) → IsKept deed
in_log [] fs i deed all = (subst (AllByRecursion IsKept) (log_cons i (Acted i deed) fs ∙ ap (λ ds. ds ++ book_log fs i) (own_first i deed)) all).0
in_log (e ∷ es) fs i deed all =
    in_log es fs i deed (of_rest (own_deeds i e) (book_log (es ++ Acted i deed ∷ fs) i) (subst (AllByRecursion IsKept) (log_cons i e (es ++ Acted i deed ∷ fs)) all))

-- the state before an entry allows it
allowed_at : (platform : PlatformFacts) (s : State) (es fs : List BookEntry) (e : BookEntry) → AreAllowed platform s (es ++ e ∷ fs) → Allows platform (replay_from s es) e
allowed_at platform s [] fs e all = all.0
allowed_at platform s (x ∷ es) fs e all = allowed_at platform (after_entry s x) es fs e all.1

node_of : (t : TreeFacts) (i : ℕ) (deed : Deed) (o : Result Applied Refusal) → applied t i deed ≡ o → IsOk o → i < length t.nodes
node_of t i deed (Ok after) is ok = let (n, a) = accepted t i deed after is in slice_get_within t.nodes i n a.there
node_of t i deed (Err refusal) is ok = absurd (cc ok)

-- each node that an entry acts on is one of the book's
acted_there : NumbersStay → (platform : PlatformFacts) (es fs : List BookEntry) (i : ℕ) (deed : Deed) → IsLegal platform (es ++ Acted i deed ∷ fs)
    → i < length (replay (es ++ Acted i deed ∷ fs)).tree.nodes
acted_there stay platform es fs i deed legal =
    let ok : IsOk (applied (replay es).tree i deed) = allowed_at platform first_state es fs (Acted i deed) legal in
    let here = node_of (replay es).tree i deed (applied (replay es).tree i deed) refl ok in
    let more = (stay platform es (Acted i deed ∷ fs) legal).grows in
    omega (arith, here, more)

-- no entry of what is left of a history closes a node
none_left : NumbersStay → (platform : PlatformFacts) (all es fs : List BookEntry) → all ≡ es ++ fs → IsLegal platform all
    → ((i : ℕ) → i < length (replay all).tree.nodes → AllByRecursion IsKept (book_log all i)) → NoEarlyClose fs
none_left stay platform all es [] parts legal are = tt
none_left stay platform all es (Decided c ∷ fs) parts legal are = λ _. none_left stay platform all (es ++ Decided c ∷ []) fs (parts ∙ sym (append_assoc es (Decided c ∷ []) fs)) legal are
none_left stay platform all es (Acted i deed ∷ fs) parts legal are = (
  in_log es fs i deed (subst (λ xs. AllByRecursion IsKept (book_log xs i)) parts (are i (subst (λ xs. i < length (replay xs).tree.nodes) (sym parts)
      (acted_there stay platform es fs i deed (subst (IsLegal platform) parts legal))))),
  none_left stay platform all (es ++ Acted i deed ∷ []) fs (parts ∙ sym (append_assoc es (Acted i deed ∷ []) fs)) legal are,
)

pub none_closed : NumbersStay → NoneClosed
none_closed stay b ss read a is reads audited are = none_left stay b.platform b.history [] b.history refl is.legal (λ i less. by i (subst (λ (s : State). i < length s.tree.nodes) (sym is.replayed) less)) where
  empty : Left
  empty = record { path = []; deeds = []; cell = 0; known = None; platform = b.platform }

  by : (i : ℕ) → i < length b.state.tree.nodes → AllByRecursion IsKept (book_log b.history i)
  by i less =
      let (k, below, own) = audited.all i less in
      subst (AllByRecursion IsKept) (sym (own empty).log) (read_open ss read reads are k empty below)
