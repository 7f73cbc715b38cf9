pub mod ReadLaws
pub mod SourceMapLaws
pub mod ReferenceLaws
