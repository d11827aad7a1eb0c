pub mod PosedLaws
