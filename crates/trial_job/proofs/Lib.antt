mod Makings
mod ZoneCounts
