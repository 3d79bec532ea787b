mod Decides
mod Marks
mod Sets
