-- Written by tables/generate from tables/numbers/macsec.
-- MACsec links: the values of each type.
use Rattle.std.specs.Prelude.{ℕ, [], ◌∷◌, refl}
use Rattle.std.proofs.Common.{inl, inr}
use Rattle.std.proofs.lemmas.Bool.Decides.{Decides-eqb}
use Rattle.linkinfo_numbers.specs.declared.macsec.MacSecCipherId.{MacSecCipherId}
use Rattle.linkinfo_numbers.specs.declared.macsec.MacSecCipherId.TheVariants as cipher
use Rattle.linkinfo_numbers.specs.declared.macsec.MacSecValidate.{MacSecValidate}
use Rattle.linkinfo_numbers.specs.declared.macsec.MacSecValidate.TheVariants as validation
use Rattle.linkinfo_numbers.specs.declared.macsec.MacSecOffload.{MacSecOffload}
use Rattle.linkinfo_numbers.specs.declared.macsec.MacSecOffload.TheVariants as offload
use Rattle.linkinfo_numbers.specs.Table.{Table, IsTable, by_number, value_of}

-- the number of each value
abbrev pub mac_sec_cipher_id_number : MacSecCipherId → ℕ
mac_sec_cipher_id_number cipher.DefaultGcmAes128 = 0x0080020001000001
mac_sec_cipher_id_number cipher.GcmAes128 = 0x0080C20001000001
mac_sec_cipher_id_number cipher.GcmAes256 = 0x0080C20001000002
mac_sec_cipher_id_number cipher.GcmAesXpn128 = 0x0080C20001000003
mac_sec_cipher_id_number cipher.GcmAesXpn256 = 0x0080C20001000004
mac_sec_cipher_id_number (cipher.Other n) = n

abbrev pub mac_sec_cipher_id_table : Table ℕ MacSecCipherId
mac_sec_cipher_id_table = by_number mac_sec_cipher_id_number cipher.Other
    (cipher.DefaultGcmAes128 ∷ cipher.GcmAes128 ∷ cipher.GcmAes256 ∷ cipher.GcmAesXpn128
    ∷ cipher.GcmAesXpn256 ∷ [])

-- the value of each number
abbrev pub mac_sec_cipher_id : ℕ → MacSecCipherId
mac_sec_cipher_id n = value_of mac_sec_cipher_id_table n

pub mac_sec_cipher_id_table_holds : IsTable mac_sec_cipher_id_table
mac_sec_cipher_id_table_holds = record {
  same_decides = Decides-eqb;
  other_key = λ n. refl;
  found = elim [ cipher.Other n ↦ inl refl | _ ↦ inr refl ];
  apart = (λ p. cc, (λ p. cc, (λ p. cc, (λ p. cc, (λ p. cc, tt)))));
}

-- the number of each value
abbrev pub mac_sec_validate_number : MacSecValidate → ℕ
mac_sec_validate_number validation.Disabled = 0
mac_sec_validate_number validation.Check = 1
mac_sec_validate_number validation.Strict = 2
mac_sec_validate_number (validation.Other n) = n

abbrev pub mac_sec_validate_table : Table ℕ MacSecValidate
mac_sec_validate_table = by_number mac_sec_validate_number validation.Other
    (validation.Disabled ∷ validation.Check ∷ validation.Strict ∷ [])

-- the value of each number
abbrev pub mac_sec_validate : ℕ → MacSecValidate
mac_sec_validate n = value_of mac_sec_validate_table n

pub mac_sec_validate_table_holds : IsTable mac_sec_validate_table
mac_sec_validate_table_holds = record {
  same_decides = Decides-eqb;
  other_key = λ n. refl;
  found = elim [ validation.Other n ↦ inl refl | _ ↦ inr refl ];
  apart = (λ p. cc, (λ p. cc, (λ p. cc, tt)));
}

-- the number of each value
abbrev pub mac_sec_offload_number : MacSecOffload → ℕ
mac_sec_offload_number offload.Off = 0
mac_sec_offload_number offload.Phy = 1
mac_sec_offload_number offload.Mac = 2
mac_sec_offload_number (offload.Other n) = n

abbrev pub mac_sec_offload_table : Table ℕ MacSecOffload
mac_sec_offload_table =
    by_number mac_sec_offload_number offload.Other (offload.Off ∷ offload.Phy ∷ offload.Mac ∷ [])

-- the value of each number
abbrev pub mac_sec_offload : ℕ → MacSecOffload
mac_sec_offload n = value_of mac_sec_offload_table n

pub mac_sec_offload_table_holds : IsTable mac_sec_offload_table
mac_sec_offload_table_holds = record {
  same_decides = Decides-eqb;
  other_key = λ n. refl;
  found = elim [ offload.Other n ↦ inl refl | _ ↦ inr refl ];
  apart = (λ p. cc, (λ p. cc, (λ p. cc, tt)));
}
