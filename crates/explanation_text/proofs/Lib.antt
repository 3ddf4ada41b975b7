mod Followed
mod Spelling
