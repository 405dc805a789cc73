mod Pieces
mod Left
mod Disagreeing
mod Reaching
