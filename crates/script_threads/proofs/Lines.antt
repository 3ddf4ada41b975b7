-- Lines that are put after one another.
use Rattle.std.proofs.Common.{Result, Ok, Err, ◌≡◌, ◌++◌, ◌||◌, Bool, true, false, ℕ, List, [], sym, subst}
use Rattle.std.specs.Prelude.{OnOk, String, string_bytes}
use Rattle.std.specs.declared.alloc.Global.{Global}
use Rattle.script_replay.specs.Lines.{Puts, domain_line}
use Rattle.script_threads.specs.Text.{AreLines, HasLine, Says, first, one_more}

-- a line that was put
pub line_put : {T E : Type 0} (result : Result T E) (old new : String Global) (starved : Bool) (path what : List ℕ) → Says starved what
    → Puts result old new (domain_line path what) → OnOk result (HasLine starved path (string_bytes old) (string_bytes new))
line_put (Ok x) old new starved path what says put = record { what = what; says = says; put = put }
line_put (Err e) old new starved path what says put = tt

-- the first line
pub line_first : (starved : Bool) (old new path : List ℕ) → old ≡ [] → path ≡ [] → HasLine starved path old new → AreLines starved new
line_first starved old new path empty root has =
    let put = subst (λ before. new ≡ before ++ domain_line path has.what) empty has.put in
    subst (AreLines starved) (sym (subst (λ way. new ≡ domain_line way has.what) root put)) (first starved has.what has.says)

-- one more
pub line_more : (starved more both : Bool) (old new path : List ℕ) → AreLines starved old → HasLine more path old new → both ≡ (starved || more) → AreLines both new
line_more starved more both old new path are has is =
    subst (λ s. AreLines s new) (sym is) (subst (AreLines (starved || more)) (sym has.put) (one_more starved more old path has.what are has.says))

pub both_by_one : (starved more both : Bool) → starved ≡ true → both ≡ starved → both ≡ (starved || more)
both_by_one true more both one is = is
both_by_one false more both one is = absurd (cc)

pub both_by_other : (starved more both : Bool) → starved ≡ false → both ≡ more → both ≡ (starved || more)
both_by_other true more both one is = absurd (cc)
both_by_other false more both one is = is
