pub mod NodeLaws
pub mod KindLaws
pub mod WithinLaws
pub mod BringKidLaws
pub mod BringTextLaws
pub mod BringRowLaws
pub mod BringLaws
