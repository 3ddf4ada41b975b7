-- What clap makes of the words `run FILE`, where FILE doesn't begin with a hyphen.
use Rattle.std.proofs.Common.{◌≡◌, ◌∙◌, ◌&&◌, arith, Bool, cond, true, false, eqb-true, length, nat_eq, not, true≢false, refl, sym, ap, subst, List, [], ◌∷◌, Some, None, codes, IsSomeAnd}
use Rattle.std.proofs.lemmas.Slice.Eq.{bytes_eq-Decides}
use Rattle.std.specs.Prelude.{◌==◌, option_and_then}
use Rattle.std.specs.List.{starts_with}
use Rattle.std.specs.Option.{option_map_or}
use Rattle.std.specs.Str.{bytes_eq}
use Rattle.clap.specs.Lexer.{long_of, long_of_rest, short_of, short_of_rest, strip_byte}
use Rattle.clap.specs.Walk.{Text, Walk, after_step, long_or_other, nothing_held, settled, finished, short_or_plain, walk_from, walked, word_met}
use Rattle.clap.specs.Walk.{idle, trailing, value}
use Rattle.clap.specs.Simple.{subcommand_of}
use Rattle.clap.specs.Kinds.{Kinds, or_else}
use Rattle.clap.specs.Faults.{bundle_fault, check_fault, defaults_fault, fault_of, flag_word_fault, level_fault, settle_fault, step_fault, turn_fault, walk_fault, word_fault}
use Rattle.command_line.specs.CommandLine.{IsRunOf, replay_app}
use Rattle.command_line.proofs.Asked.{run_shape}
use Rattle.command_line.proofs.Entries.{some≢none}

-- texts that aren't told apart are the same
pub same_text : (a b : Text) → false ≡ not (bytes_eq a b) → a ≡ b
same_text a b e = (bytes_eq-Decides a b).0 (go (bytes_eq a b) e)
  where
    go : (same : Bool) → false ≡ not same → same ≡ true
    go true fine = refl
    go false fine = absurd (true≢false (sym fine))

-- a list without an item
pub no_more : {X : Type 0} (xs : List X) → true ≡ (length xs == 0) → xs ≡ []
no_more [] none = refl
no_more (x ∷ xs) none = absurd (omega (arith, eqb-true (length (x ∷ xs)) 0 (sym none)))

-- a text that doesn't start with a hyphen
pub plain_of : (file : Text) → starts_with nat_eq file (45 ∷ []) ≡ false → strip_byte 45 file ≡ None
plain_of [] none = refl
plain_of (x ∷ xs) none = go (x == 45) refl
  where
    go : (b : Bool) → (x == 45) ≡ b → cond b (Some xs) None ≡ None
    go true is = absurd (true≢false (subst (λ y. starts_with nat_eq (y ∷ xs) (45 ∷ []) ≡ false) (eqb-true x 45 is) none))
    go false is = refl

-- such a word is neither `--` nor an option
not_dashes : (file : Text) → strip_byte 45 file ≡ None → bytes_eq file (45 ∷ 45 ∷ []) ≡ false
not_dashes [] plain = refl
not_dashes (x ∷ xs) plain = go (x == 45) plain
  where
    go : (b : Bool) → cond b (Some xs) None ≡ None → (b && bytes_eq xs (45 ∷ [])) ≡ false
    go true e = absurd (some≢none xs e)
    go false e = refl

no_long : (file : Text) → strip_byte 45 file ≡ None → long_of file ≡ None
no_long file plain = ap (λ o. option_and_then long_of_rest (option_and_then (strip_byte 45) o)) plain

no_short : (file : Text) → strip_byte 45 file ≡ None → short_of file ≡ None
no_short file plain = ap (option_and_then short_of_rest) plain

-- it is a value
is_value : (file : Text) → strip_byte 45 file ≡ None → word_met run_shape.rules [] false idle 1 file nothing_held ≡ (nothing_held, value)
is_value file plain =
    ap (λ b. cond b (nothing_held, trailing 1) (long_or_other run_shape.rules idle file (long_of file) nothing_held)) (not_dashes file plain)
    ∙ (ap (λ o. long_or_other run_shape.rules idle file o nothing_held) (no_long file plain)
    ∙ ap (λ o. short_or_plain run_shape.rules idle file o nothing_held) (no_short file plain))

-- and no fault
no_word_fault : (file : Text) → strip_byte 45 file ≡ None → word_fault run_shape [] false idle file nothing_held ≡ []
no_word_fault file plain =
    ap (λ b. cond b [] (flag_word_fault run_shape.rules run_shape.args_override_self (long_of file) file nothing_held)) (not_dashes file plain)
    ∙ (ap (λ o. flag_word_fault run_shape.rules run_shape.args_override_self o file nothing_held) (no_long file plain)
    ∙ ap (λ o. option_map_or (λ flags. bundle_fault run_shape.rules run_shape.args_override_self flags nothing_held) o []) (no_short file plain))

-- the walk over it
walked_plain : (file : Text) → strip_byte 45 file ≡ None
    → walked run_shape.rules [] (walk_from nothing_held) file ≡ after_step run_shape.rules file (walk_from nothing_held) nothing_held value
unfolding walked
walked_plain file plain = ap (λ met. after_step run_shape.rules file (walk_from nothing_held) met.0 met.1) (is_value file plain)

no_turn_fault : (file : Text) → strip_byte 45 file ≡ None → turn_fault run_shape [] (walk_from nothing_held) file ≡ []
unfolding run_shape
no_turn_fault file plain =
    ap (λ faults. or_else faults (step_fault run_shape 1 (word_met run_shape.rules [] false idle 1 file nothing_held).0 (word_met run_shape.rules [] false idle 1 file nothing_held).1)) (no_word_fault file plain)
    ∙ ap (λ met. step_fault run_shape 1 met.0 met.1) (is_value file plain)

-- what is wrong at the level of `run`, by the fault of the word and the walk over it
level : Kinds → Walk → Kinds
level faults w = or_else (or_else faults (walk_fault run_shape [] w []))
    (or_else [] (or_else (settle_fault run_shape.rules run_shape.args_override_self w.held)
    (or_else (defaults_fault (settled run_shape.rules w.held).rows run_shape.rules)
    (check_fault run_shape (finished run_shape.rules w.held) false))))

no_fault_after : (file : Text) → level [] (after_step run_shape.rules file (walk_from nothing_held) nothing_held value) ≡ []
unfolding level run_shape walk_fault defaults_fault
no_fault_after file = refl

no_level_fault : (file : Text) → strip_byte 45 file ≡ None → level_fault run_shape [] nothing_held (file ∷ []) false [] ≡ []
unfolding level walk_fault
no_level_fault file plain =
    ap (λ faults. level faults (walked run_shape.rules [] (walk_from nothing_held) file)) (no_turn_fault file plain)
    ∙ (ap (level []) (walked_plain file plain) ∙ no_fault_after file)

-- the words have no fault, and ask for a run of this file without a certificate, in lines
pub plain_fault : (file : Text) → strip_byte 45 file ≡ None → fault_of replay_app (codes "run" ∷ file ∷ []) ≡ []
unfolding run_shape walked walk_fault defaults_fault
plain_fault file plain = ap (λ faults. or_else faults []) (no_level_fault file plain)

pub plain_asked : (file : Text) → strip_byte 45 file ≡ None → IsSomeAnd (subcommand_of replay_app (codes "run" ∷ file ∷ [])) (λ e. IsRunOf e file false None)
unfolding run_shape walked
plain_asked file plain =
    subst (λ w. IsRunOf (codes "run", finished run_shape.rules w.held) file false None) (sym (walked_plain file plain)) (refl, refl, refl, refl)
