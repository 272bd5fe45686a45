-- A property as a tree: Booleans of one cycle, sequences of cycles, properties.
use Rattle.std.specs.Prelude.{ℕ, Bool}

-- a Boolean expression, tried in one cycle
pub data Boolean : Type 0 where
  constant : Bool → Boolean
  signal : ℕ → Boolean
  not : Boolean → Boolean
  and : Boolean → Boolean → Boolean
  or : Boolean → Boolean → Boolean
  -- a, m cycles ago: past m a
  past : ℕ → Boolean → Boolean

pub data Sequence : Type 0 where
  boolean : Boolean → Sequence
  -- a ##[m:n] b: delay m n a b
  delay : ℕ → ℕ → Sequence → Sequence → Sequence
  -- a ##0 b
  fusion : Sequence → Sequence → Sequence
  -- a[*m:n]: repeat m n a
  repeat : ℕ → ℕ → Sequence → Sequence
  or : Sequence → Sequence → Sequence
  intersect : Sequence → Sequence → Sequence
  and : Sequence → Sequence → Sequence
  throughout : Boolean → Sequence → Sequence
  within : Sequence → Sequence → Sequence
  first_match : Sequence → Sequence

pub data Property : Type 0 where
  sequence : Sequence → Property
  not : Property → Property
  or : Property → Property → Property
  and : Property → Property → Property
  -- a |-> p
  implies : Sequence → Property → Property
  -- a |=> p
  implies_next : Sequence → Property → Property
  nexttime : ℕ → Property → Property
  -- always[m:n] p: always m n p
  always : ℕ → ℕ → Property → Property
  -- s_eventually[m:n] p: eventually m n p
  eventually : ℕ → ℕ → Property → Property
