-- Statistics of links: their bytes.
use Rattle.std.specs.Prelude.{ℕ, List}
use Rattle.linkinfo.specs.declared.xstats.LinkXstats.{LinkXstats}
use Rattle.linkinfo.specs.declared.xstats.LinkXstats.TheVariants as xstats

abbrev pub xstats_bytes : LinkXstats → List ℕ
xstats_bytes (xstats.Other bytes) = bytes
