-- Which bytes are a table, said without an order of steps: exactly these are accepted.
use Rattle.std.specs.Prelude.{◌≡◌, ℕ, ◌+◌, ◌*◌, ◌^◌, ◌<◌, ◌≤◌, true, false, List, length, Ok, slice_index_or}
use Rattle.nodes.specs.Bytes.{byte, number, zeros}
use Rattle.nodes.specs.Format.{node_from}
use Rattle.nodes.specs.Rules.{nothing, Kept}
use Rattle.table.specs.Format.{node_bytes}
use Rattle.table.specs.Contents.{Contents, last_empty, spelled}

-- the bytes are the table of these contents
pub record IsTable (bs : List ℕ) (c : Contents) : Type 0 where
  -- 1 to 32 nodes, and 8 bytes for each behind the header
  pub some : 1 ≤ length c.nodes
  pub few : length c.nodes ≤ 32
  pub count : byte bs 0 ≡ length c.nodes
  pub long : length bs ≡ 16 + 8 * length c.nodes
  -- 1 to 64 signals
  pub signals : byte bs 1 ≡ c.signals
  pub least_signals : 1 ≤ c.signals
  pub most_signals : c.signals ≤ 64
  -- bytes 2 to 7 are zero
  pub zero : zeros bs 2 6 ≡ true
  -- a ceiling of 1 to 2^40 rows
  pub ceiling : number bs 8 8 ≡ c.ceiling
  pub least_rows : 1 ≤ c.ceiling
  pub most_rows : c.ceiling ≤ 2 ^ 40
  -- the bytes of each node spell it, and it keeps the rules after those before it
  pub nodes : (i : ℕ) → i < length c.nodes → node_from i (node_bytes bs i) ≡ Ok (slice_index_or c.nodes i nothing)
  pub kept : Kept c.signals c.nodes
  -- the last node can stand for the property
  pub filled : last_empty c.nodes ≡ false

-- the bytes spell a table if and only if they are that table
abbrev pub Exactly : List ℕ → Type 0
Exactly bs = (c : Contents) → (spelled bs ≡ Ok c → IsTable bs c) × (IsTable bs c → spelled bs ≡ Ok c)
