pub mod SameLaws
pub mod NamedLaws
pub mod OneLaws
pub mod ListLaws
pub mod AllLaws
