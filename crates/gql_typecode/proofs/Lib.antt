pub mod KindLemmas
pub mod BodyLemmas
pub mod TypeLemmas
mod OrderLemmas
mod WritingLemmas
