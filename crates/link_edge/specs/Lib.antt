pub mod SocketLinks
pub mod SocketDoors
pub mod SocketNetworks
