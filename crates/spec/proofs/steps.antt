-- What single steps of lowering add to the lists and the stacks, what they weigh and what they fill.
pub mod Forest
pub mod Through
pub mod Adds
pub mod Finish
pub mod RoomMerging
pub mod Opened
pub mod RoomWeights
pub mod Weighing
pub mod Gaining
pub mod Filling
pub mod Gathering
