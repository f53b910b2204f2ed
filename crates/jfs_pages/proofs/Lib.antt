mod Place
mod Room
mod Edited
mod Changed
mod Among
mod Lend
