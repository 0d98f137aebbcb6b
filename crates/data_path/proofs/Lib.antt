pub mod Answering
pub mod NameLists
pub mod PlanBytes
pub mod Running
pub mod ScanWords
pub mod TookPlan
pub mod TwoTexts
