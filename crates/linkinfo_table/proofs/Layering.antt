-- A family that a layer supplies, by the laws that each family has: it is lawful, and its errors
-- have its name or that of a family inside.
use Rattle.nla_frame.specs.Attribute.{Attribute, masked}
use Rattle.linkinfo_table.specs.ErrorNames.{names_list}
use Rattle.linkinfo_table.specs.Layers.{IsSupplied}
use Rattle.linkinfo_table.specs.Lookups.{LookupSays}
use Rattle.linkinfo_table.specs.Members.{IsFamily, members_at}
use Rattle.linkinfo_table.specs.declared.family.LinkFamily.{Ghosts}

pub supplied_family : {X C : Type 0} (f : Ghosts X C) (attribute : X → Attribute) →
    ((c : C) (a : Attribute) →
    LookupSays f.FAMILY f.inside f.keeping attribute f.meaning a (f.lookup c (masked a.kind))
    (f.meaning c a)) →
    ((c : C) → IsFamily
    (members_at f.FAMILY f.inside f.meaning f.headers f.alike f.needs_memory attribute f.well
    f.contents f.IS_SET c)) →
    (c : C) → IsSupplied
    (members_at f.FAMILY f.inside f.meaning f.headers f.alike f.needs_memory attribute f.well
    f.contents f.IS_SET c)
supplied_family f attribute says lawful c = record {
  laws = lawful c;
  named = λ p. names_list f.FAMILY f.inside f.keeping attribute f.lookup f.meaning says c p;
}
