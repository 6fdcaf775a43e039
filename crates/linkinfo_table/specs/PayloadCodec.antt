-- A payload of a type of its own as a codec.
use Rattle.linkinfo_table.specs.Codecs.{Codec}
use Rattle.linkinfo_table.specs.Payloads.{codec_with}
use Rattle.linkinfo_table.specs.declared.payload.LinkPayload.{Ghosts}

abbrev pub codec_of : {X : Type 0} → Ghosts X → Codec
codec_of payload =
    codec_with payload.means payload.canon payload.holds payload.alike payload.headers
    payload.needs_memory
