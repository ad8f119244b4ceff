pub mod Records
pub mod FirstBad
pub mod StandFor
pub mod Machinery
