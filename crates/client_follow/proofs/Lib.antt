mod Telling
mod Going
mod Endings
mod Written
