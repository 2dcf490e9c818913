pub mod Dataflows
pub mod Dependences
pub mod Lines
pub mod Noting
pub mod SiteTexts
