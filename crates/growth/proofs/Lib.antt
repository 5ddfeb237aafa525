pub mod GrowLaws
pub mod SizeLaws
