-- Written by tables/generate from tables/macsec.
-- The rows of `macsec` links.
use Rattle.std.specs.Prelude.{List, [], ◌∷◌, refl}
use Rattle.std.proofs.Common.{ap}
use Rattle.nla_frame.specs.Attribute.{Attribute}
use Rattle.nla_frame.specs.Kept.{attribute_of}
use Rattle.nla_frame.specs.Pairs.{◌&◌}
use Rattle.linkinfo_table.specs.FamilyRows.{PlainRow, row, typed, EachKeeps}
use Rattle.linkinfo_shapes.specs.declared.shape.Shape.TheVariants.{Le64, Be16, U8, Le32}
use Rattle.linkinfo_numbers.specs.Table.{key-value_of}
use Rattle.linkinfo_numbers.specs.Macsec.{
  mac_sec_cipher_id,
  mac_sec_cipher_id_number,
  mac_sec_cipher_id_table_holds,
  mac_sec_validate,
  mac_sec_validate_number,
  mac_sec_validate_table_holds,
  mac_sec_offload,
  mac_sec_offload_number,
  mac_sec_offload_table_holds,
}
use Rattle.linkinfo_table.specs.Labels.{each_keeps}
use Rattle.linkinfo_devices.specs.declared.macsec.InfoMacSec.{InfoMacSec}
use Rattle.linkinfo_devices.specs.declared.macsec.InfoMacSec.TheVariants.{
  Sci,
  Port,
  IcvLen,
  CipherSuite,
  Window,
  EncodingSa,
  Encrypt,
  Protect,
  IncSci,
  Es,
  Scb,
  ReplayProtect,
  Validation,
  Offload,
  Other,
}

abbrev pub mac_sec_rows : List (PlainRow InfoMacSec)
mac_sec_rows =
    row 1 Le64 (λ n. Sci n) ∷
    row 2 Be16 (λ n. Port n) ∷
    row 3 U8 (λ n. IcvLen n) ∷
    row 4 Le64 (λ n. CipherSuite (mac_sec_cipher_id n)) ∷
    row 5 Le32 (λ n. Window n) ∷
    row 6 U8 (λ n. EncodingSa n) ∷
    row 7 U8 (λ n. Encrypt n) ∷
    row 8 U8 (λ n. Protect n) ∷
    row 9 U8 (λ n. IncSci n) ∷
    row 10 U8 (λ n. Es n) ∷
    row 11 U8 (λ n. Scb n) ∷
    row 12 U8 (λ n. ReplayProtect n) ∷
    row 13 U8 (λ n. Validation (mac_sec_validate n)) ∷
    row 15 U8 (λ n. Offload (mac_sec_offload n)) ∷
    []

abbrev pub mac_sec_attribute : InfoMacSec → Attribute
mac_sec_attribute (Sci n) = typed 1 Le64 n
mac_sec_attribute (Port n) = typed 2 Be16 n
mac_sec_attribute (IcvLen n) = typed 3 U8 n
mac_sec_attribute (CipherSuite cipher) = typed 4 Le64 (mac_sec_cipher_id_number cipher)
mac_sec_attribute (Window n) = typed 5 Le32 n
mac_sec_attribute (EncodingSa n) = typed 6 U8 n
mac_sec_attribute (Encrypt n) = typed 7 U8 n
mac_sec_attribute (Protect n) = typed 8 U8 n
mac_sec_attribute (IncSci n) = typed 9 U8 n
mac_sec_attribute (Es n) = typed 10 U8 n
mac_sec_attribute (Scb n) = typed 11 U8 n
mac_sec_attribute (ReplayProtect n) = typed 12 U8 n
mac_sec_attribute (Validation validation) = typed 13 U8 (mac_sec_validate_number validation)
mac_sec_attribute (Offload offload) = typed 15 U8 (mac_sec_offload_number offload)
mac_sec_attribute (Other nla) = attribute_of nla

pub mac_sec_keeps : EachKeeps mac_sec_attribute mac_sec_rows
mac_sec_keeps = each_keeps mac_sec_attribute mac_sec_rows refl
    ((λ n. refl)
    & (λ n. refl)
    & (λ n. refl)
    & (λ n. ap (typed 4 Le64) (key-value_of mac_sec_cipher_id_table_holds n))
    & (λ n. refl)
    & (λ n. refl)
    & (λ n. refl)
    & (λ n. refl)
    & (λ n. refl)
    & (λ n. refl)
    & (λ n. refl)
    & (λ n. refl)
    & (λ n. ap (typed 13 U8) (key-value_of mac_sec_validate_table_holds n))
    & (λ n. ap (typed 15 U8) (key-value_of mac_sec_offload_table_holds n))
    & tt)
