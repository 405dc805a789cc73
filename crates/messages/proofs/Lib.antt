mod Pieces
mod Lines
mod Printing
