-- Begin: written by tables/generate from tables/families.
pub mod Batadv
pub mod BatadvConditions
pub mod Wwan
pub mod WwanConditions
-- End: written by tables/generate.
pub mod Bit
pub mod Conditions
pub mod Netkit
pub mod PeerMembers
pub mod PeerRows
pub mod Veth
pub mod Vxcan
