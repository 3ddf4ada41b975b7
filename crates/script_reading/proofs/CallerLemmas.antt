-- What callers need of the definition of a script.
use Rattle.std.proofs.Common.{◌≡◌, ◌≤◌, ◌-◌, ◌^◌, Result, Ok, Err, refl, subst}
use Rattle.std.specs.Prelude.{All, ok_or}
use Rattle.serde_json.specs.Data.{Data}
use Rattle.record_reading.specs.declared.fault.Fault.{Fault}
use Rattle.negotiation_inputs.specs.Platform.{PlatformFacts, IsPlatform}
use Rattle.record_reading.specs.Reading.{platform_of}
use Rattle.sysmem_sanitise.proofs.CallerLemmas.{stated_platform, stated_ids}
use Rattle.script_reading.specs.declared.fault.ScriptFault.{ScriptFault}
use Rattle.script_reading.specs.declared.fault.ScriptFault.TheVariants.{Misshapen, TooManyCalls}
use Rattle.script_reading.specs.Platform.{platform_said, script_says}
use Rattle.script_reading.specs.Script.{ScriptFacts, ◌>>=◌, parts_of, few_calls, calls_of, script_of}

-- where two steps give an answer, each does
bind-ok : {A B : Type 0} (first : Result A ScriptFault) (next : A → Result B ScriptFault) (b : B) → (first >>= next) ≡ Ok b → (a : A) × (first ≡ Ok a) × (next a ≡ Ok b)
bind-ok (Ok a) next b gives = (a, refl, gives)
bind-ok (Err fault) next b gives = absurd (cc)

said-ok : (r : Result PlatformFacts Fault) (p : PlatformFacts) → script_says r ≡ Ok p → r ≡ Ok p
said-ok (Ok q) p e = let same : q ≡ p = cc in cc
said-ok (Err fault) p e = absurd (cc)

-- what a script's record of its platform states is the script's platform
platform_stated : (value : Data) (script : ScriptFacts) → script_of value ≡ Ok script → (d : Data) × (platform_of d ≡ Ok script.platform)
platform_stated value script gives =
    let (parts, there, after) = bind-ok (ok_or (parts_of value) Misshapen) _ script gives in
    let (platform, said, after2) = bind-ok (platform_said parts.0) _ script after in
    let (few, fit, after3) = bind-ok (ok_or (few_calls parts.1) TooManyCalls) _ script after2 in
    let (facts, are, made) = bind-ok (calls_of few) _ script after3 in
    let whole : record { platform = platform; calls = facts } ≡ script = cc in
    (parts.0, subst (λ (s : ScriptFacts). platform_of parts.0 ≡ Ok s.platform) whole (said-ok (platform_of parts.0) platform said))

-- a script's platform is what a platform may be
pub script_platform : (value : Data) (script : ScriptFacts) → script_of value ≡ Ok script
    → IsPlatform script.platform.heaps script.platform.pairs script.platform.colours
script_platform value script gives = let (d, states) = platform_stated value script gives in stated_platform d script.platform states

-- and the ids of its heaps are of 64 bits
pub script_ids : (value : Data) (script : ScriptFacts) → script_of value ≡ Ok script → All (λ h. h.heap.id ≤ 2 ^ 64 - 1) script.platform.heaps
script_ids value script gives = let (d, states) = platform_stated value script gives in stated_ids d script.platform states
