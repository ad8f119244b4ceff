-- What mirrors the code for its proofs: the meaning of its values, and how the calls below `run` end. A reader of the
-- promises may skip it.
pub mod Seen
pub mod Listing
pub mod TextEndings
pub mod Reading
