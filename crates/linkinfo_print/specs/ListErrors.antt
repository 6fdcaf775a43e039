-- Why a list is not printed.
use Rattle.std.specs.Prelude.{◌≡◌, ℕ, List, Err, IsOk}
use Rattle.linkinfo_data.specs.BytesLayer.{bytes_layer}
use Rattle.linkinfo.specs.Placed.{IsErrorAt}
use Rattle.linkinfo.specs.Strings.{reading}
use Rattle.linkinfo.specs.declared.placed.ErrorIn.{ErrorIn}
use Rattle.linkinfo.specs.declared.placed.ErrorIn.TheVariants as side
use Rattle.linkinfo_print.specs.declared.compare.PairError.{PairError}
use Rattle.linkinfo_print.specs.declared.compare.PairError.TheVariants as pair
use Rattle.linkinfo_print.specs.declared.list.ListError.{ListError}
use Rattle.linkinfo_print.specs.declared.list.ListError.TheVariants as error

-- the list is rejected with this error, at these offsets; out of memory may come at any list
abbrev pub IsListError : List ℕ → ListError → Type 0
IsListError s (error.Rejected at) = IsErrorAt bytes_layer s at.error at.place at.inner
IsListError s error.Memory = Unit {0}

-- the first list is rejected with this error, or the second one is and the first is accepted
abbrev pub IsErrorIn : List ℕ → List ℕ → ErrorIn → Type 0
IsErrorIn a b (side.First e) = reading bytes_layer a ≡ Err e
IsErrorIn a b (side.Second e) = IsOk (reading bytes_layer a) × (reading bytes_layer b ≡ Err e)

-- the same of an error with its offsets; out of memory may come at any lists
abbrev pub IsPairError : List ℕ → List ℕ → PairError → Type 0
IsPairError a b (pair.First at) = IsErrorAt bytes_layer a at.error at.place at.inner
IsPairError a b (pair.Second at) =
    IsOk (reading bytes_layer a) × IsErrorAt bytes_layer b at.error at.place at.inner
IsPairError a b pair.Memory = Unit {0}
