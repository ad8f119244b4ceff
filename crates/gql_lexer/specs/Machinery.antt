-- What mirrors the code for its proofs, apart from what the crate promises.
pub mod Shapes
pub mod Firsts
