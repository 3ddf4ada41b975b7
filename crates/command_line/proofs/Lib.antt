mod Asked
mod Entries
mod Filled
mod Grown
mod Plain
mod Emptied
