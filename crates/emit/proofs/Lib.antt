mod Laws
mod Whole
