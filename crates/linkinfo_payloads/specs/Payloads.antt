-- The payloads of types of their own that are no lists of other families: what each means, and that
-- it is lawful.
pub use Rattle.linkinfo_payloads.specs.Addresses.{
  v4_list_codec,
  v4_list_payload,
  v6_list_codec,
  v6_list_payload,
}
pub use Rattle.linkinfo_payloads.specs.Arrays.{
  le16s_codec,
  le16s_payload,
  le32s_codec,
  le32s_payload,
}
-- Begin: written by tables/generate from tables/records.
pub use Rattle.linkinfo_payloads.specs.Records.{
  bridge_id_codec,
  bridge_id_payload,
  can_berr_counter_codec,
  can_berr_counter_payload,
  can_bit_timing_codec,
  can_bit_timing_payload,
  can_bit_timing_const_codec,
  can_bit_timing_const_payload,
}

-- End: written by tables/generate.
