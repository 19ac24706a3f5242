-- From the records of a script to its whole report.
pub mod Outcomes
pub mod Sinks
pub mod Reports
pub mod Piles
pub mod Runs
pub mod Example
