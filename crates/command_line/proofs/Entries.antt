-- What clap says of the subcommand, as one pair.
use Rattle.std.proofs.Common.{◌≡◌, ◌∙◌, is_some, true≢false, refl, sym, ap, ap₂, List, Option, Some, None, option_map, unwrap_or, subst, IsSomeAnd, IfSome, IfNone}
use Rattle.std.specs.Prelude.{Box}
use Rattle.std.specs.Box.{box_value}
use Rattle.clap.specs.declared.parser.matches.SubCommand.{SubCommand}
use Rattle.clap.specs.Words.{Row, Text, subcommand_name_of, subcommand_rows, subcommand_rows_of}
use Rattle.clap.specs.declared.parser.matches.ArgMatches.{ArgMatches}
use Rattle.clap.specs.declared.parser.matches.ArgMatches.TheViews.{out-ArgMatches, out-SubCommand}

pub some≢none : {X : Type 0} (x : X) → Some x ≡ None → ⊥
some≢none x e = true≢false (ap (λ o. is_some o) e)

-- a pair by its parts
pair_of : (o : Option (Text × List Row)) (name : Text) (rows : List Row) → Some name ≡ option_map (λ p. p.0) o → Some rows ≡ option_map (λ p. p.1) o
    → o ≡ Some (name, rows)
pair_of None name rows n r = absurd (some≢none name n)
pair_of (Some p) name rows n r =
    ap Some (ap₂ (λ (x : Text) (y : List Row). (x, y)) (ap (λ o. unwrap_or o name) (sym n)) (ap (λ o. unwrap_or o rows) (sym r)))

-- the subcommand's name is that of its entries
name_in_rows : {Z : Type 0} (o : Option (Box SubCommand Z)) → option_map (λ b. (out-SubCommand (box_value b)).name.now) o ≡ option_map (λ p. p.0) (subcommand_rows o)
name_in_rows None = refl
name_in_rows (Some b) = refl

name_of_rows : (m : ArgMatches) → subcommand_name_of m ≡ option_map (λ p. p.0) (subcommand_rows_of m)
name_of_rows m = name_in_rows (out-ArgMatches m).subcommand

-- the subcommand that a parse entered
pub entered_is : (m : ArgMatches) (name : Text) (rows : List Row) → Some name ≡ subcommand_name_of m → Some rows ≡ option_map (λ p. p.1) (subcommand_rows_of m)
    → subcommand_rows_of m ≡ Some (name, rows)
entered_is m name rows n r = pair_of (subcommand_rows_of m) name rows (n ∙ name_of_rows m) r

-- what holds of the subcommand's entries, said of the parse
pub some_entered : (m : ArgMatches) (e : Text × List Row) (P : Text × List Row → Type 0) → subcommand_rows_of m ≡ Some e → P e → IsSomeAnd (subcommand_rows_of m) P
some_entered m e P is h = subst (λ o. IsSomeAnd o P) (sym is) h

pub none_entered : {T : Type 0} (o : Option T) (m : ArgMatches) (e : Text × List Row) (P : Text × List Row → Type 0) → subcommand_rows_of m ≡ Some e → P e
    → IfNone o (IfSome (subcommand_rows_of m) P)
none_entered (Some x) m e P is h = tt
none_entered None m e P is h = subst (λ r. IfSome r P) (sym is) h
