pub mod Items
pub mod AstUtils
pub mod Literals
