pub mod Ids
pub mod Kinds
pub mod Literals
pub mod SyntaxKinds
