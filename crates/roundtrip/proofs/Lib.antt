pub mod Breaks
pub mod ConnectOctets
pub mod Connects
pub mod Octets
pub mod PacketFits
pub mod PacketOctets
pub mod Packets
pub mod Slips
