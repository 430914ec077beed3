pub mod Lists
pub mod Book
pub mod Orders
pub mod Grid
pub mod Applying
pub mod Edits
pub mod Laws
pub mod inner
