mod Endings
mod Explanations
mod RecordSayings
mod Sayings
