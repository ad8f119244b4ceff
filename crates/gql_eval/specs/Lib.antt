pub mod Gives
pub mod Bound
pub mod CowValue
pub mod Preparation
pub mod Extremes
pub mod RowLists
pub mod StableSort
pub mod Machinery
