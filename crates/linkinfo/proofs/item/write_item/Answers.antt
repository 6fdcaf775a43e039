-- An attribute is written by its role as its canonical attribute.
use Rattle.std.proofs.Common.{◌≡◌, ℕ, ◌≤◌, List, length, subst}
use Rattle.std.specs.Prelude.{IsOk}
use Rattle.nla_frame.specs.Attribute.{Attribute, Fits, buffer_len_of}
use Rattle.nla_frame.specs.declared.error.Family.TheVariants as family
use Rattle.linkinfo_numbers.specs.Kind.{kind_of_name}
use Rattle.linkinfo_numbers.specs.PortKind.{port_kind_of_name}
use Rattle.linkinfo_table.specs.Rows.{row_meaning}
use Rattle.linkinfo.specs.declared.link_info.LinkInfoOf.TheVariants as info
use Rattle.linkinfo.specs.declared.role.Role.{Role}
use Rattle.linkinfo.specs.Items.{link_other, link_row, written_attribute}
use Rattle.linkinfo.proofs.Naming.{accepted_name}
use Rattle.linkinfo.proofs.item.write_item.Goals as goal
use Rattle.linkinfo_data.specs.Data.{family_of}
use Rattle.linkinfo_data.specs.declared.data.DataFamily.{DataFamily}
use Rattle.linkinfo_data.specs.DataFamilies.{DataFamilies, DataTypes}
use Rattle.linkinfo_numbers.specs.declared.tags.KindTag.{KindTag}
use Rattle.linkinfo.specs.declared.role.Role.TheVariants as role

-- what holds of the attribute that is written holds of what the family makes of the payload
data_written : {L : DataTypes} (layer : DataFamilies L) (r : Role) (tag : KindTag) (f : DataFamily)
    (a : Attribute) (p : List ℕ) → r ≡ role.Data tag → f ≡ family_of tag → p ≡ a.value →
    (Holds : Attribute → Type 0) → Holds (written_attribute layer r a) →
    Holds (record { kind = 2; value = (layer.data_of f).canonical p })
data_written layer r tag f a p is found value Holds h = rw (found, value) (rw is at h)

pub shape_write_attribute-requires-clause-accepted :
    goal.shape_write_attribute-requires-clause-accepted
shape_write_attribute-requires-clause-accepted g c =
    accepted_name (λ name. info.Kind (kind_of_name name)) c.args.nla.now _
    c.value-value.ensures.value
    (subst (λ (r : Role).
    IsOk (row_meaning family.LinkInfo link_other (link_row g.P.DataLayer.families r)
    c.args.nla.now)) c.in-Kind.is c.requires.accepted)

pub shape_write_attribute-requires-in-PortKind-clause-accepted :
    goal.shape_write_attribute-requires-in-PortKind-clause-accepted
shape_write_attribute-requires-in-PortKind-clause-accepted g c =
    accepted_name (λ name. info.PortKind (port_kind_of_name name)) c.args.nla.now _
    c.value-value.ensures.value
    (subst (λ (r : Role).
    IsOk (row_meaning family.LinkInfo link_other (link_row g.P.DataLayer.families r)
    c.args.nla.now)) c.in-PortKind.is c.requires.accepted)

pub write_payload-requires-clause-fits : goal.write_payload-requires-clause-fits
write_payload-requires-clause-fits g c =
    data_written g.P.DataLayer.families _ _ _ c.args.nla.now _ c.in-Data.is
    c.family_of.ensures c.value-value.ensures.value Fits c.requires.fits

pub write_payload-requires-clause-room : goal.write_payload-requires-clause-room
write_payload-requires-clause-room g c =
    data_written g.P.DataLayer.families _ _ _ c.args.nla.now _ c.in-Data.is
    c.family_of.ensures c.value-value.ensures.value
    (λ (w : Attribute). buffer_len_of w ≤ length c.args.buffer.now) c.requires.room
