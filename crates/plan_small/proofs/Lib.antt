mod DifferenceRows
mod ShownReasons
mod SimpleQueries
mod SimpleRows
mod Smallness
