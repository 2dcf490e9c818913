pub mod ExprForms
pub mod FormStarts
pub mod LinkParts
pub mod Placing
pub mod StmtForms
pub mod TakingLaws
pub mod TargetForms
