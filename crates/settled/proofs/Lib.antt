pub mod Numbers
pub mod ReachLaws
pub mod CostLaws
pub mod SameCells
pub mod SameLaws
pub mod WordLaws
pub mod SettleLaws
pub mod NameLaws
