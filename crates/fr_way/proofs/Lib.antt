mod Stay
mod Shapes
pub mod Computed
mod Rests
mod Purity
pub mod Clear
mod Calm
pub mod Begun
pub mod Ended
pub mod Fronts
mod Occur
pub mod Used
mod Errs
pub mod Cases
pub mod Names
mod Rules
pub mod Rebuilt
mod TurnPart
mod TurnFrame
pub mod Turn
pub mod TurnOrder
pub mod Middle
mod Lives
mod Buried
mod BuriedTrees
mod Loop
mod Concrete
mod Examples
mod Shown
mod Delayed
mod Erring
