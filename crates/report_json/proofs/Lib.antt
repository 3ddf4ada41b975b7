mod Certifying
mod Input
