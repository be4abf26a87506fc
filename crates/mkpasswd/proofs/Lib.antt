pub mod AcceptedValues
pub mod CommandFacts
pub mod GivenArguments
pub mod PlannedMeaning
pub mod PrintedHash
pub mod ReadNumbers
pub mod ServedCommands
pub mod WholeCommands
