mod Nearness
mod Reading
mod Order
