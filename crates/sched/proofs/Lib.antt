pub mod SchedLaws
