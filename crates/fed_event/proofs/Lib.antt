pub mod RedactionPasses
pub mod CheckedFields
pub mod Faults
pub mod Reading
pub mod DecodedSignatures
pub mod SealedEvents
pub mod Events
pub mod SealedParts
