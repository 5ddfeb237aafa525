pub mod DigitLaws
mod PieceLaws
