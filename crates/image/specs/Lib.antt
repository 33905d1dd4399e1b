pub mod Image
pub mod Laws
