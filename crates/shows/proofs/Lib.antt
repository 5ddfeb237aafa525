pub mod ShowLaws
mod SlotsLaws
