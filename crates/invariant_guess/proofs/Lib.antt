mod Fronts
mod SameCandidates
mod Repairs
mod Queue
mod Trying
