pub mod Witness
pub mod NameUsedAgain
pub mod BegunMeanwhile
pub mod TwoParts
pub mod SeveralGroups
