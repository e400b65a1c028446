-- Laws of the way in.
pub mod Laws
