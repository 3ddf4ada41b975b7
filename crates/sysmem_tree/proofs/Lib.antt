pub mod CallerLemmas
pub mod domains
pub mod forests
pub mod histories
pub mod layouts
pub mod nodes
pub mod selections
pub mod steps
