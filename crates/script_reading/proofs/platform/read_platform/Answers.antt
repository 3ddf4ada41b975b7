use Rattle.std.proofs.Common.{ap}
use Rattle.script_reading.specs.Platform.{script_says}
use Rattle.script_reading.proofs.platform.read_platform.Goals as goal

pub returns-in-Ok : goal.returns-in-Ok
returns-in-Ok c = ap script_says c.in-Ok.ensures.taken
