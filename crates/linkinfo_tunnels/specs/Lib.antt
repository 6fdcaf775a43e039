-- Begin: written by tables/generate from tables/families.
pub mod Amt
pub mod AmtConditions
pub mod BareUdp
pub mod BareUdpConditions
pub mod Geneve
pub mod GeneveConditions
pub mod Gre
pub mod GreConditions
pub mod Gre6
pub mod Gre6Conditions
pub mod Gtp
pub mod GtpConditions
pub mod Vti
pub mod VtiConditions
pub mod Vxlan
pub mod VxlanConditions
-- End: written by tables/generate.
pub mod Conditions
pub mod IpTunnel
