pub mod Grammar
pub mod ClientGrammar
pub mod PrintedAgain
pub mod Fault
pub mod inner
