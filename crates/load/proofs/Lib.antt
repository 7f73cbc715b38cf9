pub mod FillLaws
pub mod LoadLaws
