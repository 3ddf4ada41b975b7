-- What callers need of prefixes, and of what is found and what can't be met from one on.
pub use Rattle.search_questions.proofs.AskedMembers.{if_some}
pub use Rattle.search_questions.proofs.Finding.{Child, GoneThrough, after_push, all_below, begun, child, entered_at, found_below, found_cut, found_here, long_push, none_best, pushed_prefix, same_below, some_best, unmet_below}
pub use Rattle.search_questions.proofs.Shapes.{prefix_of_numbers, same_count}
pub use Rattle.search_questions.proofs.Sofar.{and_some, some_and}
pub use Rattle.search_questions.proofs.Unmet.{met_prefix, unmet_prefix, unmet_selection}
