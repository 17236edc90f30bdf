-- Laws that proofs of this crate and of others cite.
pub mod Results  -- answers that are equal hold equal values
pub mod Bools
pub mod Laws
pub mod Table
pub mod Meaning  -- the refusals bear the paper's numbers
