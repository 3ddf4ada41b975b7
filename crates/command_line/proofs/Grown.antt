-- A command to which an argument that isn't global, or a subcommand, was added.
use Rattle.std.proofs.Common.{◌≡◌, ◌∙◌, ◌||◌, ap₂, false, Result, Ok, Err, IfOk, IsOkAnd}
use Rattle.clap.specs.declared.builder.arg.Arg.{Arg}
use Rattle.clap.specs.declared.builder.command.Command.{Command}
use Rattle.clap.specs.declared.builder.command.Command.TheViews.{out-Command as fields_of}
use Rattle.clap.specs.Words.{AddsArg, AddsSubcommand, App, Rule, app_of, rule_of, with_rule, with_subcommand}

-- it has one rule more
pub grown : {old new : Command} {arg : Arg} {a : App} {r : Rule} → AddsArg old arg new → arg.global ≡ false → rule_of arg ≡ r → app_of old ≡ a → app_of new ≡ with_rule a r
grown added local is was = added.shape local ∙ ap₂ with_rule was is

-- no argument of it is global if none was before
pub still_local : {old new : Command} {arg : Arg} → AddsArg old arg new → arg.global ≡ false → (fields_of old).has_globals ≡ false → (fields_of new).has_globals ≡ false
still_local added local was = added.globals ∙ ap₂ (λ a b. a || b) was local

-- where a subcommand without global arguments was made and added, the command has it too
pub joined : {E F : Type 0} {a : App} (old : Command) (b : App) (made : Result Command E) (r : Result Command F) → IfOk made (λ c. app_of c ≡ b) → IfOk made (λ c. (fields_of c).has_globals ≡ false) → app_of old ≡ a → IfOk r (λ new. IsOkAnd made (λ sub. AddsSubcommand old sub new)) → IfOk r (λ new. app_of new ≡ with_subcommand a b.top)
joined old b (Ok sub) (Ok new) is local was added = added.shape local ∙ ap₂ (λ x y. with_subcommand x y.top) was is
joined old b (Err e) (Ok new) is local was added = absurd added
joined old b made (Err e) is local was added = tt
