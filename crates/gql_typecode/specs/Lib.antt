pub mod TypeSpelling
pub mod KeptTypes
pub mod TypeOrder
pub mod Machinery
