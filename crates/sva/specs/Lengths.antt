-- How long a match can be, and how far ahead and back a property looks.
use Rattle.std.specs.Prelude.{ℕ, ◌+◌, ◌-◌, ◌*◌, min, max}
use Rattle.sva.specs.Formula.{Boolean, Sequence, Property}

-- the shortest length of a match
abbrev pub lo : Sequence → ℕ
lo (Sequence.boolean x) = 1
lo (Sequence.delay m n a b) = lo a + lo b + (m - 1)
lo (Sequence.fusion a b) = max (lo a) 1 + max (lo b) 1 - 1
lo (Sequence.repeat m n a) = m * lo a
lo (Sequence.or a b) = min (lo a) (lo b)
lo (Sequence.intersect a b) = max (lo a) (lo b)
lo (Sequence.and a b) = max (lo a) (lo b)
lo (Sequence.throughout x b) = lo b
lo (Sequence.within a b) = max (lo a) (lo b)
lo (Sequence.first_match a) = lo a

-- the longest length of a match
abbrev pub hi : Sequence → ℕ
hi (Sequence.boolean x) = 1
hi (Sequence.delay m n a b) = hi a + hi b + (n - 1)
hi (Sequence.fusion a b) = hi a + hi b - 1
hi (Sequence.repeat m n a) = n * hi a
hi (Sequence.or a b) = max (hi a) (hi b)
hi (Sequence.intersect a b) = min (hi a) (hi b)
hi (Sequence.and a b) = max (hi a) (hi b)
hi (Sequence.throughout x b) = hi b
hi (Sequence.within a b) = hi b
hi (Sequence.first_match a) = hi a

-- the last cycle that a property needs, counted from its start
abbrev pub horizon : Property → ℕ
horizon (Property.sequence a) = hi a - 1
horizon (Property.not p) = horizon p
horizon (Property.or p q) = max (horizon p) (horizon q)
horizon (Property.and p q) = max (horizon p) (horizon q)
horizon (Property.implies a p) = hi a - 1 + horizon p
horizon (Property.implies_next a p) = hi a + horizon p
horizon (Property.nexttime m p) = m + horizon p
horizon (Property.always m n p) = n + horizon p
horizon (Property.eventually m n p) = n + horizon p

-- how many cycles back a Boolean looks
abbrev pub boolean_lookback : Boolean → ℕ
boolean_lookback (Boolean.constant v) = 0
boolean_lookback (Boolean.signal k) = 0
boolean_lookback (Boolean.not x) = boolean_lookback x
boolean_lookback (Boolean.and x y) = max (boolean_lookback x) (boolean_lookback y)
boolean_lookback (Boolean.or x y) = max (boolean_lookback x) (boolean_lookback y)
boolean_lookback (Boolean.past m x) = boolean_lookback x + m

abbrev pub sequence_lookback : Sequence → ℕ
sequence_lookback (Sequence.boolean x) = boolean_lookback x
sequence_lookback (Sequence.delay m n a b) = max (sequence_lookback a) (sequence_lookback b)
sequence_lookback (Sequence.fusion a b) = max (sequence_lookback a) (sequence_lookback b)
sequence_lookback (Sequence.repeat m n a) = sequence_lookback a
sequence_lookback (Sequence.or a b) = max (sequence_lookback a) (sequence_lookback b)
sequence_lookback (Sequence.intersect a b) = max (sequence_lookback a) (sequence_lookback b)
sequence_lookback (Sequence.and a b) = max (sequence_lookback a) (sequence_lookback b)
sequence_lookback (Sequence.throughout x b) = max (boolean_lookback x) (sequence_lookback b)
sequence_lookback (Sequence.within a b) = max (sequence_lookback a) (sequence_lookback b)
sequence_lookback (Sequence.first_match a) = sequence_lookback a

abbrev pub lookback : Property → ℕ
lookback (Property.sequence a) = sequence_lookback a
lookback (Property.not p) = lookback p
lookback (Property.or p q) = max (lookback p) (lookback q)
lookback (Property.and p q) = max (lookback p) (lookback q)
lookback (Property.implies a p) = max (sequence_lookback a) (lookback p)
lookback (Property.implies_next a p) = max (sequence_lookback a) (lookback p)
lookback (Property.nexttime m p) = lookback p
lookback (Property.always m n p) = lookback p
lookback (Property.eventually m n p) = lookback p
