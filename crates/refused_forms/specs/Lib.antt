pub mod LineForms
pub mod RefusedForms
