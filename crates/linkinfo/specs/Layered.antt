-- Attributes of the list over a layer, by the types of its data and of its port data.
use Rattle.std.specs.Prelude.{List}
use Rattle.linkinfo_data.specs.DataFamilies.{DataFamilies, DataTypes}
use Rattle.linkinfo.specs.declared.link_info.LinkInfoOf.{LinkInfoOf}
use Rattle.linkinfo.specs.declared.list.VecLinkInfoOf.{VecLinkInfoOf}

abbrev pub LinkOf : DataTypes → Type 0
LinkOf t = LinkInfoOf t.Layer t.Data t.PortData

-- attributes, and lists of them, over the layer of these families
abbrev pub Link : {t : DataTypes} → DataFamilies t → Type 0
Link {t = t} layer = LinkOf t

abbrev pub Links : {t : DataTypes} → DataFamilies t → Type 0
Links {t = t} layer = List (LinkOf t)

abbrev pub LinkList : {t : DataTypes} → DataFamilies t → Type 0
LinkList {t = t} layer = VecLinkInfoOf t.Layer t.Data t.PortData
