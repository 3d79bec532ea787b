mod Cuts
mod Signs
mod Whole
mod Decimals
