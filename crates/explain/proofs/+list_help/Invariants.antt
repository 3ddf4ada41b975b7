-- Each time the story goes on, fewer levels are left; within a level one calls the next.
use Rattle.std.proofs.Common.{ℕ, ◌+◌}
use Rattle.explain.proofs.+list_help.Given as goal

abbrev twelve : ℕ → ℕ
twelve n = n + n + n + n + n + n + n + n + n + n + n + n

abbrev pub decreases-corrected::add_recalled : goal.decreases-corrected::add_recalled
decreases-corrected::add_recalled l = twelve l.levels + 11

abbrev pub decreases-corrected::add_answer : goal.decreases-corrected::add_answer
decreases-corrected::add_answer l = twelve l.levels + 10

abbrev pub decreases-corrected::add_read : goal.decreases-corrected::add_read
decreases-corrected::add_read l = twelve l.levels + 9

abbrev pub decreases-corrected::add_weighed : goal.decreases-corrected::add_weighed
decreases-corrected::add_weighed l = twelve l.levels + 8

abbrev pub decreases-corrected::add_script : goal.decreases-corrected::add_script
decreases-corrected::add_script l = twelve l.levels + 7

abbrev pub decreases-corrected::add_domains_then : goal.decreases-corrected::add_domains_then
decreases-corrected::add_domains_then l = twelve l.levels + 6

abbrev pub decreases-helping::add_made : goal.decreases-helping::add_made
decreases-helping::add_made l = twelve l.place.levels + 6

abbrev pub decreases-helping::add_replayed : goal.decreases-helping::add_replayed
decreases-helping::add_replayed l = twelve l.levels + 6

abbrev pub decreases-helping::add_new : goal.decreases-helping::add_new
decreases-helping::add_new l = twelve l.levels + 5

abbrev pub decreases-helping::add_empty_otherwise : goal.decreases-helping::add_empty_otherwise
decreases-helping::add_empty_otherwise l = twelve l.levels + 5

abbrev pub decreases-corrected::add_unmet : goal.decreases-corrected::add_unmet
decreases-corrected::add_unmet l = twelve l.levels + 5

abbrev pub decreases-helping::add_index : goal.decreases-helping::add_index
decreases-helping::add_index l = twelve l.place.levels + 5

abbrev pub decreases-helping::add_why : goal.decreases-helping::add_why
decreases-helping::add_why l = twelve l.levels + 4

abbrev pub decreases-helping::add_help_then : goal.decreases-helping::add_help_then
decreases-helping::add_help_then l = twelve l.levels + 3

abbrev pub decreases-helping::list_help : goal.decreases-helping::list_help
decreases-helping::list_help l = twelve l.levels + 2

abbrev pub decreases-helping::add_further : goal.decreases-helping::add_further
decreases-helping::add_further l = twelve l.place.levels + 1

abbrev pub decreases-helping::add_changed : goal.decreases-helping::add_changed
decreases-helping::add_changed l = twelve l.levels + 1

abbrev pub decreases-helping::add_refused : goal.decreases-helping::add_refused
decreases-helping::add_refused l = twelve l.levels + 3

abbrev pub decreases-corrected::add_mended : goal.decreases-corrected::add_mended
decreases-corrected::add_mended l = twelve l.levels + 2

abbrev pub decreases-corrected::add_corrected : goal.decreases-corrected::add_corrected
decreases-corrected::add_corrected l = twelve l.levels + 1

abbrev pub decreases-corrected::add_called_otherwise : goal.decreases-corrected::add_called_otherwise
decreases-corrected::add_called_otherwise l = twelve l.levels + 1
