pub mod AddingPlans
pub mod InPlacePlans
pub mod ReceiverPlans
pub mod TurningPlans
pub mod ManyTimes
pub mod ProductPlans
pub mod SumPlans
pub mod WrittenPlans
