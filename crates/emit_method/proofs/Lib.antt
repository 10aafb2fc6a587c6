mod Wakes
mod Last
