use Rattle.script_threads.specs.Text.{has_failed, none_meet, too_many, waits, wants_memory}
use Rattle.script_threads.proofs.domains.put_line.Goals as goal

pub returns-in_ok-put_word-in-None : goal.returns-in_ok-put_word-in-None
returns-in_ok-put_word-in-None c = record { what = _; says = waits; put = c.in_ok-put_word-in-None.ensures }

pub returns-in_ok-put_word-in-Some-IntersectionEmpty : goal.returns-in_ok-put_word-in-Some-IntersectionEmpty
returns-in_ok-put_word-in-Some-IntersectionEmpty c = record { what = _; says = none_meet; put = c.in_ok-put_word-in-Some-IntersectionEmpty.ensures }

pub returns-in_ok-put_word-in-Some-TooMany : goal.returns-in_ok-put_word-in-Some-TooMany
returns-in_ok-put_word-in-Some-TooMany c = record { what = _; says = too_many; put = c.in_ok-put_word-in-Some-TooMany.ensures }

pub returns-in_ok-put_word-in-Some-Failed : goal.returns-in_ok-put_word-in-Some-Failed
returns-in_ok-put_word-in-Some-Failed c = record { what = _; says = has_failed; put = c.in_ok-put_word-in-Some-Failed.ensures }

pub returns-in_ok-put_word-in-Some-NoMemory : goal.returns-in_ok-put_word-in-Some-NoMemory
returns-in_ok-put_word-in-Some-NoMemory c = record { what = _; says = wants_memory; put = c.in_ok-put_word-in-Some-NoMemory.ensures }
