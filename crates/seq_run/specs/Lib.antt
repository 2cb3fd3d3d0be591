pub mod Statuses
pub mod Arranged
pub mod Judged
pub mod Printed
pub mod Tried
pub mod Planning
pub mod Premises
pub mod Runs
