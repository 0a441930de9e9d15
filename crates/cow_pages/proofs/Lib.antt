mod Descents
mod Halving
mod PageLists
mod PartLists
mod Splices
