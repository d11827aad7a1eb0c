pub mod FormatLaws
pub mod Callers
pub mod FaultLaws
pub mod LeadLaws
pub mod PrefixLaws
pub mod KeepingLaws
