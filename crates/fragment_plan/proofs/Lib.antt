pub mod TestSteps
pub mod ShapeSteps
pub mod BoundSteps
pub mod PlanSteps
pub mod OneReading
