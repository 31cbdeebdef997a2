mod RecordLengths
pub mod Scanning
mod BackParts
mod BackBase
mod BackOwn
pub mod Again
mod SameParts
pub mod SameWords
pub mod Alike
pub mod AlikeRecords
mod Passing
pub mod Passed
