use Rattle.std.proofs.Common.{refl}
use Rattle.json.specs.Reads.{token_of}
use Rattle.certificate_text.proofs.PutAsText.{given, written}
use Rattle.certificate_text.proofs.json_writer.Writer.token.Goals as goal

pub invariant_of-self : goal.invariant_of-self
invariant_of-self c = given c.token.result c.self.inside _ c.self.invariant (token_of c.args.token) c.requires refl c.token.ensures

pub returns : goal.returns
returns c = written c.token.result c.self.inside (record { done = c.self.inside.done; behind = c.token.new.self }) c.self.invariant (token_of c.args.token) c.requires refl _ c.self.view_is c.token.ensures
