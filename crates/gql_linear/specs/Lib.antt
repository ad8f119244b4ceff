pub mod QueryRun
pub mod SoundQuery
pub mod OneWay
pub mod Gives
pub mod Runs
pub mod Causes
pub mod Machinery
