pub mod Entry
pub mod BitLaws
pub mod SearchLaws
pub mod EntryLaws
pub mod MarkLaws
