pub mod RouteGoals
pub mod GivenJobs
pub mod SettleLaws
pub mod SettledRest
