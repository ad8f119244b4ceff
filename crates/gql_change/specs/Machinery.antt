-- What mirrors the code for its proofs: INSERT by places, how the changes of SET and DELETE are built, and what its structs
-- mean. A reader of the promises may skip it.
pub mod Building
pub mod BuildingState
pub mod DeletionSteps
pub mod Endpoints
pub mod InRow
pub mod InsertByPlaces
pub mod Makes
pub mod Places
pub mod PreparedItems
pub mod PreparedSpots
pub mod Rising
pub mod Roles
pub mod Swaps
