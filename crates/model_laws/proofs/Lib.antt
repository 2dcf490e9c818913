pub mod Standing
pub mod Effects
pub mod Lists
pub mod PlainLists
pub mod WorkedDicts
pub mod WorkedLists
pub mod Keys
pub mod Dicts
pub mod Alone
pub mod WorkedTexts
pub mod Files
pub mod WorkedFiles
pub mod Members
pub mod NewDicts
pub mod Comparing
pub mod Kin
pub mod Ranks
pub mod Sorting
pub mod Comparisons
pub mod Bests
pub mod WorkedOrders
pub mod Ranges
pub mod Sums
pub mod WorkedNumbers
pub mod Opening
pub mod CodePoints
pub mod OneOrder
pub mod Written
pub mod Seeking
pub mod Maps
pub mod Keeping
pub mod Printing
pub mod WorkedPrinting
mod Walking
mod Sequences
mod Counting
mod Objects
mod Outsides
mod Every
mod Stores
mod Rules
mod Runs
mod Suiting
mod KeyedRuns
