-- What callers need of limits: how many nodes are below each child of the root as actions and
-- decisions are entered, what keeps to limits, and what an action is answered within them.
pub use Rattle.node_limits.proofs.Answering.{accepted_within, free_answer, refused_answer, refused_beyond, unlimited, unspent_by}
pub use Rattle.node_limits.proofs.Below.{acted_counted, few_tops, first_counted, made_child, none_yet, room_for, spent_by_count, still_counted, still_offspring}
pub use Rattle.node_limits.proofs.Bounding.{acted_bounded, keep_on}
pub use Rattle.node_limits.proofs.Fewer.{few_logged}
pub use Rattle.node_limits.proofs.Growing.{decided_many, grows, made_by}
pub use Rattle.node_limits.proofs.Within.{not_past}
