mod TextLaws
mod PartLaws
mod ElementLaws
pub mod TaskLaws
mod WrittenLaws
mod ListingLaws
mod PrintedLaws
