-- what the public contracts say
pub mod Lines
pub mod FirstLine
pub mod PlanText
pub mod Plans
pub mod Solutions
pub mod Examples
-- words of private contracts
pub mod Costs
