-- What a table's bytes say: a header of 16 bytes, then 8 bytes for each node.
use Rattle.std.specs.Prelude.{ℕ, ◌+◌, ◌*◌, ◌^◌, not, ◌&&◌, List, [], ◌∷◌, length, Result, ◌==◌, nat_le}
use Rattle.fault.specs.Refusals.{refuse}
use Rattle.fault.specs.First.{Rule, rule, first, unless}
use Rattle.fault.specs.declared.Layer.TheVariants.{Table}
use Rattle.fault.specs.declared.Refusal.{Refusal}
use Rattle.nodes.specs.Bytes.{byte, number, zeros, part}
use Rattle.table.specs.declared.format.Header.{Header}

-- byte 0 is the node count, byte 1 the signal count, bytes 8 to 15 are the row ceiling
abbrev pub header : List ℕ → Header
header bs = record { count = byte bs 0; signals = byte bs 1; ceiling = number bs 8 8 }

-- the refusals of a header in their order
abbrev pub header_rules : List ℕ → List Rule
header_rules bs =
    rule (not (nat_le 1 (header bs).count && nat_le (header bs).count 32 && length bs == 16 + 8 * (header bs).count)) (refuse Table 1 0)
    ∷ rule
    (not
    (nat_le 1 (header bs).signals && nat_le (header bs).signals 64
    && zeros bs 2 6
    && nat_le 1 (header bs).ceiling && nat_le (header bs).ceiling (2 ^ 40)))
    (refuse Table 2 0)
    ∷ []

abbrev pub header_from : List ℕ → Result Header Refusal
header_from bs = unless (first (header_rules bs)) (header bs)

-- the eight bytes of node i
abbrev pub node_bytes : List ℕ → ℕ → List ℕ
node_bytes bs i = part bs (16 + 8 * i) 8
