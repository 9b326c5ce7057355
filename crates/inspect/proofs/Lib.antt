mod Escapes
mod Reading
mod Refused
mod Told
