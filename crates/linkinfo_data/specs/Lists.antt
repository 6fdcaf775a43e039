-- Payloads that are lists of attributes.
use Rattle.std.specs.Prelude.{ℕ, List, [], Option, None, Some}
use Rattle.nla_frame.specs.declared.error.Family.{Family}
use Rattle.linkinfo_table.specs.Contents.{Contents, ListOf, NoList}
use Rattle.linkinfo_table.specs.Difference.{list_difference, list_error}
use Rattle.linkinfo_table.specs.Unmets.{list_unmets}
use Rattle.linkinfo_table.specs.declared.difference.Difference.{Difference}
use Rattle.linkinfo_table.specs.declared.unmet.Unmet.{Unmet}

-- the family of the attributes in payloads with these contents, if they are lists
abbrev pub family_in : Contents → Option Family
family_in (NoList place count) = None
family_in (ListOf l inside) = Some l.family

-- the offset of the error of a payload that is a list, from its beginning
abbrev pub error_in : Contents → List ℕ → Option ℕ
error_in (NoList place count) p = None
error_in (ListOf l inside) p = list_error l inside p

-- the first difference of two payloads that are lists
abbrev pub difference_in : Contents → List ℕ → List ℕ → Option Difference
difference_in (NoList place count) p q = None
difference_in (ListOf l inside) p q = list_difference l inside p q

-- the attributes of a payload that is a list that another one does not meet
abbrev pub unmets_in : Contents → List ℕ → List ℕ → List Unmet
unmets_in (NoList place count) have want = []
unmets_in (ListOf l inside) have want = list_unmets l inside have want
