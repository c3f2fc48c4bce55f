pub mod Lines
mod Sent
mod Telling
mod Shapes
mod Parts
mod Listening
mod Turning
mod Visiting
mod Following
