mod Steps
mod Undoing
mod Walks
mod Repairing
