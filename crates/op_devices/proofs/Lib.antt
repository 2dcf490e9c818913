pub mod Questions
pub mod Known
pub mod DrawPlans
pub mod LinePlans
pub mod Noting
pub mod EndsAt
pub mod OpenPlans
pub mod Fetching
