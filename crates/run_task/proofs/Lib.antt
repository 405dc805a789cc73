mod Told
mod Encoded
mod Ranges
mod Translated
mod OneTask
