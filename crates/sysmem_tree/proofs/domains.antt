-- How domains fail, become ready and are decided.
pub mod Climbing
pub mod Decisions
pub mod Failing
pub mod LeavingOut
pub mod LeftOut
pub mod MadeReady
pub mod Readiness
pub mod Ready
pub mod Roots
pub mod Soundness
pub mod Sweeping
pub mod Upwards
