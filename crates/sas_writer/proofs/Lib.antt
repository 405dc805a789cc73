mod Pieces
mod Searches
