-- Written by tables/generate from tables/records.
-- Records by their fields, and as payloads.
use Rattle.std.specs.Prelude.{ℕ, List, [], refl}
use Rattle.linkinfo_shapes.specs.declared.shape.Shape.TheVariants as shape
use Rattle.linkinfo_table.specs.Codecs.{Codec}
use Rattle.linkinfo_table.specs.Payloads.{IsPayload}
use Rattle.linkinfo_payloads.specs.Fixed.{big_endian}
use Rattle.linkinfo_payloads.specs.Layouts.{◌⨾◌, Layout, be16, le16, le32, octets}
use Rattle.linkinfo_payloads.specs.Record.{record_codec, record_payload}
use Rattle.linkinfo_payloads.specs.declared.fixed.BigEndian.{BigEndian}
use Rattle.linkinfo_payloads.specs.declared.records.BridgeId.{BridgeId}
use Rattle.linkinfo_payloads.specs.declared.records.CanBerrCounter.{CanBerrCounter}
use Rattle.linkinfo_payloads.specs.declared.records.CanBitTiming.{CanBitTiming}
use Rattle.linkinfo_payloads.specs.declared.records.CanBitTimingConst.{CanBitTimingConst}

-- BridgeId
abbrev pub bridge_id_layout : Layout (BigEndian × List ℕ)
bridge_id_layout = be16 ⨾ octets 6

abbrev pub bridge_id_of : BigEndian × List ℕ → BridgeId
bridge_id_of fields = record {
  priority = fields.0.number;
  address = fields.1;
}

abbrev pub bridge_id_fields : BridgeId → BigEndian × List ℕ
bridge_id_fields x = (big_endian x.priority, x.address)

abbrev pub bridge_id_codec : Codec
bridge_id_codec = record_codec bridge_id_layout bridge_id_of bridge_id_fields

pub bridge_id_payload : IsPayload shape.BridgeId [] bridge_id_codec
bridge_id_payload =
    record_payload shape.BridgeId tt bridge_id_layout bridge_id_of bridge_id_fields
    (λ x. refl) (λ f. refl) (λ len. refl)

-- CanBerrCounter
abbrev pub can_berr_counter_layout : Layout (ℕ × ℕ)
can_berr_counter_layout = le16 ⨾ le16

abbrev pub can_berr_counter_of : ℕ × ℕ → CanBerrCounter
can_berr_counter_of fields = record {
  txerr = fields.0;
  rxerr = fields.1;
}

abbrev pub can_berr_counter_fields : CanBerrCounter → ℕ × ℕ
can_berr_counter_fields x = (x.txerr, x.rxerr)

abbrev pub can_berr_counter_codec : Codec
can_berr_counter_codec =
    record_codec can_berr_counter_layout can_berr_counter_of can_berr_counter_fields

pub can_berr_counter_payload : IsPayload shape.LePair16 [] can_berr_counter_codec
can_berr_counter_payload =
    record_payload shape.LePair16 tt can_berr_counter_layout
    can_berr_counter_of can_berr_counter_fields (λ x. refl) (λ f. refl) (λ len. refl)

-- CanBitTiming
abbrev pub can_bit_timing_layout : Layout (((ℕ × ℕ) × (ℕ × ℕ)) × ((ℕ × ℕ) × (ℕ × ℕ)))
can_bit_timing_layout = ((le32 ⨾ le32) ⨾ (le32 ⨾ le32)) ⨾ ((le32 ⨾ le32) ⨾ (le32 ⨾ le32))

abbrev pub can_bit_timing_of : ((ℕ × ℕ) × (ℕ × ℕ)) × ((ℕ × ℕ) × (ℕ × ℕ)) → CanBitTiming
can_bit_timing_of fields = record {
  bitrate = fields.0.0.0;
  sample_point = fields.0.0.1;
  tq = fields.0.1.0;
  prop_seg = fields.0.1.1;
  phase_seg1 = fields.1.0.0;
  phase_seg2 = fields.1.0.1;
  sjw = fields.1.1.0;
  brp = fields.1.1.1;
}

abbrev pub can_bit_timing_fields : CanBitTiming → ((ℕ × ℕ) × (ℕ × ℕ)) × ((ℕ × ℕ) × (ℕ × ℕ))
can_bit_timing_fields x = (
  ((x.bitrate, x.sample_point), (x.tq, x.prop_seg)),
  ((x.phase_seg1, x.phase_seg2), (x.sjw, x.brp)),
)

abbrev pub can_bit_timing_codec : Codec
can_bit_timing_codec = record_codec can_bit_timing_layout can_bit_timing_of can_bit_timing_fields

pub can_bit_timing_payload : IsPayload shape.Le32x8 [] can_bit_timing_codec
can_bit_timing_payload =
    record_payload shape.Le32x8 tt can_bit_timing_layout can_bit_timing_of can_bit_timing_fields
    (λ x. refl) (λ f. refl) (λ len. refl)

-- CanBitTimingConst
abbrev pub can_bit_timing_const_layout :
    Layout (List ℕ × (((ℕ × ℕ) × (ℕ × ℕ)) × ((ℕ × ℕ) × (ℕ × ℕ))))
can_bit_timing_const_layout =
    octets 16 ⨾ (((le32 ⨾ le32) ⨾ (le32 ⨾ le32)) ⨾ ((le32 ⨾ le32) ⨾ (le32 ⨾ le32)))

abbrev pub can_bit_timing_const_of : List ℕ × (((ℕ × ℕ) × (ℕ × ℕ)) × ((ℕ × ℕ) × (ℕ × ℕ))) →
    CanBitTimingConst
can_bit_timing_const_of fields = record {
  name = fields.0;
  tseg1_min = fields.1.0.0.0;
  tseg1_max = fields.1.0.0.1;
  tseg2_min = fields.1.0.1.0;
  tseg2_max = fields.1.0.1.1;
  sjw_max = fields.1.1.0.0;
  brp_min = fields.1.1.0.1;
  brp_max = fields.1.1.1.0;
  brp_inc = fields.1.1.1.1;
}

abbrev pub can_bit_timing_const_fields : CanBitTimingConst →
    List ℕ × (((ℕ × ℕ) × (ℕ × ℕ)) × ((ℕ × ℕ) × (ℕ × ℕ)))
can_bit_timing_const_fields x = (
  x.name,
  (
    ((x.tseg1_min, x.tseg1_max), (x.tseg2_min, x.tseg2_max)),
    ((x.sjw_max, x.brp_min), (x.brp_max, x.brp_inc)),
  ),
)

abbrev pub can_bit_timing_const_codec : Codec
can_bit_timing_const_codec =
    record_codec can_bit_timing_const_layout can_bit_timing_const_of can_bit_timing_const_fields

pub can_bit_timing_const_payload : IsPayload shape.CanBitTimingConst [] can_bit_timing_const_codec
can_bit_timing_const_payload =
    record_payload shape.CanBitTimingConst tt can_bit_timing_const_layout
    can_bit_timing_const_of can_bit_timing_const_fields (λ x. refl) (λ f. refl) (λ len. refl)
