pub mod ReapLaws
pub mod EndLaws
