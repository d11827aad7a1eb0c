pub mod PackingLaws
pub mod PackedRight
pub mod CallLaws
