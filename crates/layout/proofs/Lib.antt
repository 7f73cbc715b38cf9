pub mod RowLaws
pub mod Frames
pub mod WriteLaws
pub mod Bytes
