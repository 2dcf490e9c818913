pub mod EndsEqual
pub mod FoundEnds
pub mod OperandPlans
pub mod OtherLengths
pub mod ReceiverPlans
pub mod ViewPlans
