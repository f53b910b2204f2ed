pub mod OwnPlaces
pub mod Pages
pub mod Items
pub mod Images
