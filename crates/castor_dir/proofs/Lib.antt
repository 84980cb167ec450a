pub mod CountLaws
pub mod PowerLaws
pub mod DirectoryLaws
pub mod PlacingLaws
