mod Among
mod ByRows
mod Sparing
mod Needed
mod Listed
mod Pushed
