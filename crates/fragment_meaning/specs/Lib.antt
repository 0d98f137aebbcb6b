pub mod ScanColumns
pub mod ScanOutcome
pub mod PlanOutcomes
pub mod Laws
