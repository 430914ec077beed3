pub mod History
pub mod Laws
pub mod Standing
pub mod Answering
pub mod inner
