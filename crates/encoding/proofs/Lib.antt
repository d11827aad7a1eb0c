pub mod OrderLaws
pub mod AcceptedLaws
pub mod ByteLaws
pub mod EncodeLaws
