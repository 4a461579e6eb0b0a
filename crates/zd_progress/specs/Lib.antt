pub mod Stocks
pub mod LoneRuns
pub mod LoneSteps
pub mod Measures
pub mod Paces
pub mod Alone
pub mod Laws
