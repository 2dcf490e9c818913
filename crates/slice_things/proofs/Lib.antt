pub mod ChildLaws
pub mod CountLaws
pub mod FormLaws
pub mod OrderLaws
pub mod OrderMaps
pub mod ThingLaws
pub mod EndLaws
