mod Asking
mod Bounding
mod Counting
mod Disputing
mod Foreseeing
mod Lacking
mod Logs
mod Owning
mod Placing
pub mod Reading
mod Still
pub mod CallerLemmas
