pub mod Links
pub mod Lists
