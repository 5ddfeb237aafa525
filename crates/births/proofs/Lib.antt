pub mod BirthLaws
