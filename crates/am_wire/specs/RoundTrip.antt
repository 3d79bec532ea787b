-- Proofs that a message that is written is read back. They are in specs, and not in proofs, since the law of a message is
-- proved by them.
pub mod Varints
pub mod Pieces
pub mod Fields
pub mod Puts
pub mod Slots
pub mod Written
pub mod Moments
pub mod Expiring
pub mod Plain
