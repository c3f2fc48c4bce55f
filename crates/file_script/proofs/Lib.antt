mod Accepting
mod Counting
mod Reading
mod Declaring
mod Sends
