mod Digits
mod Edges
mod Readings
mod Lasts
mod Fronts
mod Marking
mod Naming
