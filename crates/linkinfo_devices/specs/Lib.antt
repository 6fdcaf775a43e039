-- Begin: written by tables/generate from tables/families.
pub mod Ipoib
pub mod IpoibConditions
pub mod Macsec
pub mod MacsecConditions
pub mod Rmnet
pub mod RmnetConditions
pub mod Vrf
pub mod VrfConditions
pub mod Xfrm
pub mod XfrmConditions
-- End: written by tables/generate.
pub mod Conditions
pub mod Ipvlan
pub mod MacConditions
pub mod MacEqual
pub mod MacRows
pub mod MacView
pub mod Macvlan
pub mod MacvlanEqual
pub mod Macvtap
pub mod MacvtapEqual
pub mod Nested
