-- An accepted sheet never runs out of room, nor does any call after it.
mod IfRoom
pub mod Room
pub mod ScopeRoom
pub mod SheetRoom
pub mod ItemRoom
pub mod TextRoom
pub mod NameRoom
pub mod ReferenceRoom
pub mod KeptRoom
