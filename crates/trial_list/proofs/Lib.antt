mod Columns
mod Instants
mod Periods
mod Written
