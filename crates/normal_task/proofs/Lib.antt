pub mod Anys
pub mod Alls
pub mod Chosen
pub mod Scopes
mod ThreeFolds
mod CutCases
mod NumberedFresh
pub mod Mentioned
mod Fits
pub mod PartsMean
mod ConditionsMean
pub mod FullStatesMatch
mod Filled
mod Bound
pub mod EffectsMean
mod EffectsFit
pub mod MadeInTurn
pub mod Steps
mod StartsAndGoals
pub mod Faultless
mod Costs
mod Busy
pub mod Checked
mod Counts
mod Written
mod Asks
pub mod Ranks
mod NameWords
pub mod OnceEach
pub mod RisingLists
mod PredicateTable
mod InitialRows
mod RanksFall
mod KnownParts
mod KnownEffects
mod WellMentioned
mod LawfulSchemas
mod LawfulAxioms
pub mod LawfulTask
mod RisingRanges
mod RefusedTasks
mod CutNames
mod StepCosts
