-- Opaque attributes, kept verbatim.
use Rattle.nla_frame.specs.Attribute.{Attribute}
use Rattle.nla_frame.specs.declared.default_nla.DefaultNla.{DefaultNla}

-- the opaque attribute of a type and a payload
abbrev pub kept : Attribute → DefaultNla
kept a = record { kind = a.kind; value = a.value }

-- the type and payload of an opaque attribute
abbrev pub attribute_of : DefaultNla → Attribute
attribute_of nla = record { kind = nla.kind; value = nla.value }
