mod Leaves
mod Marks
mod Cases
mod Growth
mod Parts
