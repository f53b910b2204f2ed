mod Seen
mod Filed
mod Walked
mod Wholly
mod Mapped
mod Table
mod Concluded
mod AllParts
