pub mod DropLemmas
pub mod KnowingLemmas
pub mod PartLemmas
pub mod FirstLemmas
pub mod MisuseLemmas
pub mod RefusalLemmas
pub mod SeenLemmas
mod NameListLemmas
