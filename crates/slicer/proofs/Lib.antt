mod Along
mod Following
mod Lacking
mod ParentPairs
mod StandingBelow
pub mod GroupLaws
pub mod JumpLaws
pub mod OwnLaws
pub mod PlaceLaws
pub mod PlainKeys
pub mod ReachedLaws
pub mod RootLaws
pub mod WalkLaws
pub mod FrontRows
pub mod FindingLaws
pub mod KeyMore
pub mod ToldBelow
pub mod EdgesBelow
pub mod WrittenNumbers
pub mod KeptRowFacts
mod AskedPairs
mod LeastLaws
