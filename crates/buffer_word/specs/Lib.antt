pub mod StateWord
pub mod KeyWord
pub mod Changes
