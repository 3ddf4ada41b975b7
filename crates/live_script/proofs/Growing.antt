-- The calls of a history's entries, one after the other.
use Rattle.std.proofs.Common.{Bor, ◌≡◌, ◌≤◌, ◌+◌, ℕ, suc, Bool, true, false, List, [], ◌∷◌, ◌++◌, length, Option, Some, None, Result, Ok, Err, OnOk, slice_get, refl, sym, ◌∙◌, ap, subst, arith, append-nil}
use Rattle.std.specs.Prelude.{IfOk, if◌then◌else◌, is_some, option_copied, option_map}
use Rattle.std.specs.List.{AllByRecursion}
use Rattle.live_book.specs.Snapshot.{HasLedTo, SnapshotFacts}
use Rattle.live_script.proofs.There.{domain_there, node_there}
use Rattle.live_script.specs.Calls.{HasItsDomain, HasItsNode, IsRead, IsToldOf, nodes_behind, nodes_behind_all}
use Rattle.live_script.specs.Script.{call_told, calls_told, nodes_then}
use Rattle.negotiation_inputs.specs.Platform.{PlatformFacts}
use Rattle.node_names.specs.Names.{NamedNode}
use Rattle.script_reading.specs.Call.{ActFacts}
use Rattle.script_writing.specs.Call.{WrittenCall}
use Rattle.script_writing.specs.Script.{Begun, HasTaken}
use Rattle.sysmem_alloc.specs.Entry.{BookEntry, Acted, Decided}
use Rattle.sysmem_alloc.specs.Laws.{LegalIsSound, NumbersStay}
use Rattle.sysmem_tree.specs.ActionKind.{kind_of}
use Rattle.sysmem_tree.specs.Domain.{TreeFacts}
use Rattle.sysmem_tree.specs.Table.{makes}

pub if_ok : {A E : Type 0} {P Q : A → Type 0} (r : Result A E) → ((a : A) → P a → Q a) → IfOk r P → IfOk r Q
if_ok (Ok a) f p = f a p
if_ok (Err e) f p = tt

pub on_ok : {A E P Q : Type 0} (r : Result A E) → (P → Q) → OnOk r P → OnOk r Q
on_ok (Ok a) f p = f p
on_ok (Err e) f p = tt

-- what holds where a result is Ok, or in any case
pub always : {A E P : Type 0} (r : Result A E) → P → OnOk r P
always (Ok a) p = p
always (Err e) p = tt

-- what a reference to an option gives
pub ref_mapped : {V W : Type 0} (f : V → W) (o : Option (Bor V)) (v : Option V) → option_copied o ≡ v → option_map (λ r. f r.now) o ≡ option_map f v
ref_mapped f None v e = ap (option_map f) e
ref_mapped f (Some r) v e = ap (option_map f) e

pub same_call : (a b : ActFacts) (on there : List ℕ) (x y : Option (List ℕ)) → a ≡ b → on ≡ there → x ≡ y
    → ◌≡◌ {A = WrittenCall} (record { act = a; on = on; actor = x }) (record { act = b; on = there; actor = y })
same_call a b on there x y act at actor =
    let first = ap (λ (z : ActFacts). let c : WrittenCall = record { act = z; on = on; actor = x } in c) act in
    let second = ap (λ (z : List ℕ). let c : WrittenCall = record { act = b; on = z; actor = x } in c) at in
    first ∙ second ∙ ap (λ (z : Option (List ℕ)). let c : WrittenCall = record { act = b; on = there; actor = z } in c) actor

calls_more : (ns : List NamedNode) (n : ℕ) (es : List BookEntry) (e : BookEntry) → calls_told ns n (es ++ e ∷ []) ≡ calls_told ns n es ++ calls_told ns (nodes_behind_all n es) (e ∷ [])
calls_more ns n [] e = refl
calls_more ns n (Acted k deed ∷ es) e = ap (λ cs. call_told ns n k deed ∷ cs) (calls_more ns (nodes_then n deed) es e)
calls_more ns n (Decided c ∷ es) e = calls_more ns n es e

behind_more : (n : ℕ) (es : List BookEntry) (e : BookEntry) → nodes_behind_all n (es ++ e ∷ []) ≡ nodes_behind (nodes_behind_all n es) e
behind_more n [] e = refl
behind_more n (x ∷ es) e = behind_more (nodes_behind n x) es e

read_more : (es : List BookEntry) (e : BookEntry) → AllByRecursion IsRead es → IsRead e → AllByRecursion IsRead (es ++ e ∷ [])
read_more [] e all one = (one, tt)
read_more (x ∷ es) e all one = (all.0, read_more es e all.1 one)

-- one entry more
pub told_more : (s : SnapshotFacts) (old new : Begun) (nodes next : ℕ) (es : List BookEntry) (e : BookEntry) → IsToldOf s old nodes es → HasTaken new s.platform (calls_told s.names 1 es ++ calls_told s.names nodes (e ∷ [])) → IsRead e → next ≡ nodes_behind nodes e
    → IsToldOf s new next (es ++ e ∷ [])
told_more s old new nodes next es e told taken read behind = record {
  taken = subst (HasTaken new s.platform) (ap (λ n. calls_told s.names 1 es ++ calls_told s.names n (e ∷ [])) told.nodes_are ∙ sym (calls_more s.names 1 es e)) taken;
  nodes_are = behind ∙ ap (λ n. nodes_behind n e) told.nodes_are ∙ sym (behind_more 1 es e);
  read = read_more es e told.read read;
}

one_behind : (n : ℕ) (made : Bool) → (if made then n + 1 else n) ≤ n + 1
one_behind n true = omega arith
one_behind n false = omega arith

few_after : (n : ℕ) (e : BookEntry) → nodes_behind n e ≤ n + 1
few_after n (Acted k deed) = one_behind n (is_some (makes (kind_of deed)))
few_after n (Decided c) = omega arith

pub few_behind : (n : ℕ) (es : List BookEntry) → nodes_behind_all n es ≤ n + length es
few_behind n [] = omega arith
few_behind n (e ∷ es) =
    let one : nodes_behind n e ≤ n + 1 = few_after n e in
    let rest : nodes_behind_all (nodes_behind n e) es ≤ nodes_behind n e + length es = few_behind (nodes_behind n e) es in
    let whole : nodes_behind_all (nodes_behind n e) es ≤ n + suc (length es) = omega (arith, one, rest) in whole

-- what an entry names is there
pub its_node : (p : PlatformFacts) (es : List BookEntry) (t : TreeFacts) (i : ℕ) (e : BookEntry) → HasLedTo p es t → slice_get es i ≡ Some e → HasItsNode t.nodes e
its_node p es t i (Acted k deed) led at = node_there p es t i k deed led at
its_node p es t i (Decided c) led at = tt

pub its_domain : LegalIsSound → NumbersStay → (p : PlatformFacts) (es : List BookEntry) (t : TreeFacts) (i : ℕ) (e : BookEntry) → HasLedTo p es t → slice_get es i ≡ Some e → HasItsDomain t.nodes e
its_domain sound stay p es t i (Acted k deed) led at = tt
its_domain sound stay p es t i (Decided c) led at = domain_there sound stay p es t i c led at

-- a decision adds no call
pub none_put : (w : Begun) (p : PlatformFacts) (cs : List WrittenCall) → HasTaken w p cs → HasTaken w p (cs ++ [])
none_put w p cs taken = subst (HasTaken w p) (sym (append-nil cs)) taken
