mod Holes
mod MadeTypes
mod Waiting
