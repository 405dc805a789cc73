mod Keys
mod WellSpelledDomains
mod Missing
mod WellSpelledProblems
