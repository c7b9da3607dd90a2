pub mod Runs
pub mod Quotes
pub mod Parameters
pub mod Signatures
pub mod NamedValues
pub mod ParameterLists
pub mod Headers
mod Windows
mod Counted
mod LineCounts
mod FirstLines
mod TrailerFronts
mod Lines
mod Parts
mod Walks
mod Copies
mod Bodies
mod Values
mod OnlyValues
mod HeadsFound
mod HeadLines
mod Targets
mod Finds
mod Messages
mod Verdicts
mod Stays
mod Settled
mod Feeds
mod Keeping
mod HeadSteps
mod LineSteps
mod BodySteps
mod TrailerSteps
mod Steps
mod TextSteps
mod Kept
mod TakenBodies
mod HeadStates
mod HeadLemmas
mod PlaceSteps
mod PlaceStarts
mod ChunkLemmas
pub mod TextLemmas
mod Cutting
pub mod XMatrixTexts
pub mod SignedTexts
pub mod WrittenTexts
pub mod Phrases
pub mod ReplyTexts
pub mod SentTexts
pub mod Writes
pub mod SentReplies
