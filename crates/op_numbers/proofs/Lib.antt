pub mod CharacterPlans
pub mod Division
pub mod EndsAlike
pub mod IdentityPlans
pub mod NumberPlans
pub mod RangePlans
pub mod TruthPlans
pub mod TuplePlans
