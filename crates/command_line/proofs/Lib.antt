mod Told
mod Grammars
mod Words
mod PlainWalks
mod Faults
mod Readings
