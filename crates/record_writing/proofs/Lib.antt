mod Emptiness
mod Lists
