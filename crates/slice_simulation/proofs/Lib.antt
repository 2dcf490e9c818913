pub mod Renamings
pub mod Ranks
pub mod Readings
pub mod Marks
pub mod Touching
pub mod Happenings
pub mod KeptMoments
pub mod OtherMoments
pub mod Onwards
pub mod Beside
mod Knowing
mod Entered
mod NamesUsed
mod KnownNames
mod UnknownNames
mod StartsFound
pub mod Simulating
pub mod OutsideRules
mod KeptOperations
pub mod KeptExpressions
pub mod KeptStatements
pub mod Closedness
pub mod Simulations
mod Worked
mod Standing
mod PlacedRules
mod OwnMoments
mod Evaluations
mod Opened
mod Late
mod EndedLists
mod SharedGraphs
mod Values
mod Activations
mod FunctionsLeft
mod KeptCalls
mod StartsOnce
mod OutsideStatements
mod DefinedPlaces
mod StayingDefinitions
mod EmptiedSuites
mod AloneStatements
mod FunctionBodies
mod NamesKept
mod NumberedStatements
mod ScopedPlans
mod BoundActs
mod BoundRules
mod OwnNames
mod BoundReads
mod BoundRuns
mod ListedStatements
mod FunctionStatements
mod LocalNames
mod Binders
mod LostLocals
mod InnerClasses
pub mod PlacedClasses
