pub mod Pass
pub mod LeafLaws
pub mod PassLaws
