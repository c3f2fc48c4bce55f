pub mod Threads
pub mod Archives
pub mod ThreadMembers
pub mod ThreadEdits
