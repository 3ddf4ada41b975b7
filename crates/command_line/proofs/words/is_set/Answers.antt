use Rattle.std.proofs.Common.{◌∙◌, ap, sym, codes, option_map, false}
use Rattle.std.specs.Option.{option_map_or}
use Rattle.std.specs.Str.{bytes_eq}
use Rattle.clap.specs.Words.{found_of}
use Rattle.clap.proofs.WalkLemmas.{first_value-rows}
use Rattle.command_line.proofs.words.is_set.Goals as goal

pub returns-in-Some : goal.returns-in-Some
returns-in-Some c =
    let found = found_of c.args.entries.now in
    c.eq.ensures ∙ ap (λ o. option_map_or (λ t. bytes_eq t (codes "true")) o false)
    (sym (ap (option_map (λ s. s.now)) c.in-Some.is) ∙ c.get_str.ensures ∙ first_value-rows found c.args.flag.now)

pub returns-in-None : goal.returns-in-None
returns-in-None c =
    let found = found_of c.args.entries.now in
    ap (λ o. option_map_or (λ t. bytes_eq t (codes "true")) o false)
    (sym (ap (option_map (λ s. s.now)) c.in-None.is) ∙ c.get_str.ensures ∙ first_value-rows found c.args.flag.now)
