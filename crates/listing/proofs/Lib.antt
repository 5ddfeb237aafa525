pub mod LineLaws
pub mod RoomLaws
