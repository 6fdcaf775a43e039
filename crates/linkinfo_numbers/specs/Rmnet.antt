-- The flags of `rmnet` links.
use Rattle.std.specs.Prelude.{◌≡◌, ℕ, List, [], ◌∷◌, codes, refl}
use Rattle.bitflags.specs.Sets.{known_bits, known_from}
use Rattle.linkinfo_numbers.specs.declared.rmnet.RmNetFlags.{RmNetFlags}

-- Begin: written by tables/generate from tables/numbers/rmnet.
-- the flags by name, and a last entry without a name that has every bit
abbrev pub rm_net_flags_table : List (List ℕ × ℕ)
rm_net_flags_table =
    (codes "IngressDeaggregation", 1) ∷
    (codes "IngressCommands", 2) ∷
    (codes "IngressMapCksumV4", 4) ∷
    (codes "EgressMapCksumV4", 8) ∷
    (codes "IngressMapCksumV5", 16) ∷
    (codes "EgressMapCksumV5", 32) ∷
    (codes "", 0xffffffff) ∷ []

pub rm_net_flags_known : known_bits rm_net_flags_table ≡ 0xffffffff
unfolding known_from
rm_net_flags_known = refl

-- the set with these bits
abbrev pub rm_net_flags : ℕ → RmNetFlags
rm_net_flags bits = record { 0 = bits }

-- End: written by tables/generate.
