-- Worked examples of the meaning, on three signals a, b and c. A row is a number: 1 is a, 2 is b,
-- 4 is c, and a sum is a row in which several are high. docs/semantics.md has the same examples;
-- tools/semantics.py compares the two and works them out a second time. Those of lengths, horizons
-- and lookbacks are in docs/table-format.md.
use Rattle.std.specs.Prelude.{◌≡◌, ℕ, true, false, List, [], ◌∷◌}
use Rattle.sva.specs.declared.verdict.Verdict.{Verdict}
use Rattle.sva.specs.declared.verdict.Verdict.TheVariants.{Failed, Held, Vacuous}
use Rattle.sva.specs.Formula.{Boolean, Sequence, Property}
use Rattle.sva.specs.Lengths.{lo, hi, horizon, boolean_lookback, sequence_lookback, lookback}
use Rattle.sva.specs.Span.{span_first, span_last}
use Rattle.sva.specs.Trace.{recorded, Alike}
use Rattle.sva.specs.Verdicts.{verdicts, open_starts}

infix 50 ◌on◌gives◌
infix 50 ◌takes◌to◌
-- on these rows the decided starts of the property have these verdicts
abbrev pub ◌on◌gives◌ : Property → List ℕ → List Verdict → Type 0
p on rows gives vs = verdicts p rows ≡ vs

-- the three signals as Booleans, and as sequences of one cycle
abbrev bool_a : Boolean
bool_a = Boolean.signal 0

abbrev bool_b : Boolean
bool_b = Boolean.signal 1

abbrev bool_c : Boolean
bool_c = Boolean.signal 2

abbrev a : Sequence
a = Sequence.boolean bool_a

abbrev b : Sequence
b = Sequence.boolean bool_b

abbrev c : Sequence
c = Sequence.boolean bool_c

-- a Boolean as a property
abbrev bool : Boolean → Property
bool x = Property.sequence (Sequence.boolean x)

-- a sequence as a property
abbrev seq : Sequence → Property
seq s = Property.sequence s

-- a sequence of 2 to 5 cycles and one of 3 to 4
abbrev x : Sequence
x = Sequence.repeat 2 5 a

abbrev y : Sequence
y = Sequence.repeat 3 4 b

-- a sequence is so many cycles long at least and at most
abbrev pub ◌takes◌to◌ : Sequence → ℕ → ℕ → Type 0
s takes l to h = (lo s ≡ l) × (hi s ≡ h)

-- properties with horizons 3 and 5
abbrev near : Property
near = Property.nexttime 3 (bool bool_a)

abbrev far : Property
far = Property.nexttime 5 (bool bool_b)

-- what looks 2 and what looks 3 cycles back
abbrev past_a : Boolean
past_a = Boolean.past 2 bool_a

abbrev past_b : Boolean
past_b = Boolean.past 3 bool_b

abbrev p : Sequence
p = Sequence.boolean past_a

abbrev q : Sequence
q = Sequence.boolean past_b

-- of two operands in either order the one that looks further back counts
abbrev pub LargestBack : (Sequence → Sequence → Sequence) → Type 0
LargestBack f = (sequence_lookback (f p q) ≡ 3) × (sequence_lookback (f q p) ≡ 3)

pub record Examples : Type 0 where
  -- row 6 has signals 1 and 2 high; behind the rows all signals are low
  pub rows : (recorded (6 ∷ []) 0 0 ≡ false) × (recorded (6 ∷ []) 0 2 ≡ true) × (recorded (6 ∷ []) 1 2 ≡ false)
  -- 1'b0, 1'b1
  pub constant :
      (bool (Boolean.constant false) on 7 ∷ [] gives Failed ∷ [])
      × (bool (Boolean.constant true) on 0 ∷ [] gives Held ∷ [])
  -- b
  pub signal :
      (bool bool_b on 2 ∷ 5 ∷ 2 ∷ [] gives Held ∷ Failed ∷ Held ∷ [])
  -- !a, a && b, a || b
  pub connectives :
      (bool (Boolean.not bool_a) on 0 ∷ 1 ∷ [] gives Held ∷ Failed ∷ [])
      × (bool (Boolean.and bool_a bool_b) on 0 ∷ 1 ∷ 2 ∷ 3 ∷ [] gives Failed ∷ Failed ∷ Failed ∷ Held ∷ [])
      × (bool (Boolean.or bool_a bool_b) on 0 ∷ 1 ∷ 2 ∷ 3 ∷ [] gives Failed ∷ Held ∷ Held ∷ Held ∷ [])
  -- past(a, 2), past(!b, 1), past(1'b1, 1), past(!past(a, 1), 1), a |-> past(!b, 1)
  pub past :
      (bool (Boolean.past 2 bool_a) on 1 ∷ 0 ∷ 0 ∷ 0 ∷ [] gives Failed ∷ Failed ∷ Held ∷ Failed ∷ [])
      × (bool (Boolean.past 1 (Boolean.not bool_b)) on 0 ∷ 0 ∷ 2 ∷ 0 ∷ [] gives Failed ∷ Held ∷ Held ∷ Failed ∷ [])
      × (bool (Boolean.past 1 (Boolean.constant true)) on 0 ∷ 0 ∷ [] gives Failed ∷ Held ∷ [])
      × (bool (Boolean.past 1 (Boolean.not (Boolean.past 1 bool_a))) on 1 ∷ 0 ∷ 0 ∷ [] gives Failed ∷ Held ∷ Failed ∷ [])
      × (Property.implies a (bool (Boolean.past 1 (Boolean.not bool_b))) on 1 ∷ 1 ∷ [] gives Failed ∷ Held ∷ [])
  -- a
  pub boolean :
      (bool bool_a on 1 ∷ 0 ∷ [] gives Held ∷ Failed ∷ [])
  -- a ##1 b, a ##[1:2] b, a ##[2:3] b
  pub delay :
      (seq (Sequence.delay 1 1 a b) on 1 ∷ 2 ∷ 0 ∷ [] gives Held ∷ Failed ∷ [])
      × (seq (Sequence.delay 1 1 a b) on 3 ∷ 0 ∷ [] gives Failed ∷ [])
      × (seq (Sequence.delay 1 2 a b) on 1 ∷ 2 ∷ 0 ∷ [] gives Held ∷ [])
      × (seq (Sequence.delay 1 2 a b) on 1 ∷ 0 ∷ 2 ∷ [] gives Held ∷ [])
      × (seq (Sequence.delay 1 2 a b) on 3 ∷ 0 ∷ 0 ∷ 2 ∷ [] gives Failed ∷ Failed ∷ [])
      × (seq (Sequence.delay 1 2 a b) on 0 ∷ 2 ∷ 2 ∷ [] gives Failed ∷ [])
      × (seq (Sequence.delay 2 3 a b) on 1 ∷ 2 ∷ 0 ∷ 0 ∷ [] gives Failed ∷ [])
      × (seq (Sequence.delay 2 3 a b) on 1 ∷ 0 ∷ 0 ∷ 2 ∷ [] gives Held ∷ [])
  -- a[*0:1] ##1 b, a[*0] ##2 b, (a ##1 b[*0]) ##1 c, (a ##2 b[*0]) ##1 c
  pub delay_empty :
      (seq (Sequence.delay 1 1 (Sequence.repeat 0 1 a) b) on 2 ∷ 0 ∷ [] gives Held ∷ [])
      × (seq (Sequence.delay 2 2 (Sequence.repeat 0 0 a) b) on 0 ∷ 2 ∷ [] gives Held ∷ [])
      × (seq (Sequence.delay 2 2 (Sequence.repeat 0 0 a) b) on 2 ∷ 0 ∷ [] gives Failed ∷ [])
      × (seq (Sequence.delay 1 1 (Sequence.delay 1 1 a (Sequence.repeat 0 0 b)) c) on 1 ∷ 4 ∷ [] gives Held ∷ [])
      × (seq (Sequence.delay 1 1 (Sequence.delay 2 2 a (Sequence.repeat 0 0 b)) c) on 1 ∷ 0 ∷ 4 ∷ [] gives Held ∷ [])
      × (seq (Sequence.delay 1 1 (Sequence.delay 2 2 a (Sequence.repeat 0 0 b)) c) on 1 ∷ 4 ∷ 0 ∷ [] gives Failed ∷ [])
  -- a ##0 b, a[*2] ##0 b, a[*2] ##0 (b ##1 c), a[*0:1] ##0 b, b ##0 a[*0:1], a[*1:2] ##0 b[*0:1],
  -- a[*0:1] ##0 b[*2]
  pub fusion :
      (seq (Sequence.fusion a b) on 1 ∷ 2 ∷ 3 ∷ [] gives Failed ∷ Failed ∷ Held ∷ [])
      × (seq (Sequence.fusion (Sequence.repeat 2 2 a) b) on 1 ∷ 3 ∷ [] gives Held ∷ [])
      × (seq (Sequence.fusion (Sequence.repeat 2 2 a) b) on 3 ∷ 1 ∷ [] gives Failed ∷ [])
      × (seq (Sequence.fusion (Sequence.repeat 2 2 a) (Sequence.delay 1 1 b c)) on 1 ∷ 3 ∷ 4 ∷ [] gives Held ∷ [])
      × (seq (Sequence.fusion (Sequence.repeat 0 1 a) b) on 2 ∷ 3 ∷ [] gives Failed ∷ Held ∷ [])
      × (seq (Sequence.fusion b (Sequence.repeat 0 1 a)) on 2 ∷ 3 ∷ [] gives Failed ∷ Held ∷ [])
      × (seq (Sequence.fusion (Sequence.repeat 1 2 a) (Sequence.repeat 0 1 b)) on 1 ∷ 1 ∷ [] gives Failed ∷ [])
      × (seq (Sequence.fusion (Sequence.repeat 0 1 a) (Sequence.repeat 2 2 b)) on 2 ∷ 2 ∷ 0 ∷ [] gives Failed ∷ Failed ∷ [])
  -- a[*2], a[*1:2] ##1 b, a[*2:3] ##1 b, (a[*1] ##1 b) or c[*3], (a ##1 b)[*2], (a[*0:1])[*2] ##1 b
  pub repeat :
      (seq (Sequence.repeat 2 2 a) on 1 ∷ 1 ∷ 0 ∷ [] gives Held ∷ Failed ∷ [])
      × (seq (Sequence.delay 1 1 (Sequence.repeat 1 2 a) b) on 1 ∷ 2 ∷ 0 ∷ [] gives Held ∷ [])
      × (seq (Sequence.delay 1 1 (Sequence.repeat 1 2 a) b) on 1 ∷ 1 ∷ 2 ∷ [] gives Held ∷ [])
      × (seq (Sequence.delay 1 1 (Sequence.repeat 1 2 a) b) on 1 ∷ 0 ∷ 2 ∷ [] gives Failed ∷ [])
      × (seq (Sequence.delay 1 1 (Sequence.repeat 2 3 a) b) on 1 ∷ 2 ∷ 0 ∷ 0 ∷ [] gives Failed ∷ [])
      × (seq (Sequence.delay 1 1 (Sequence.repeat 2 3 a) b) on 1 ∷ 1 ∷ 2 ∷ 0 ∷ [] gives Held ∷ [])
      × (seq (Sequence.delay 1 1 (Sequence.repeat 2 3 a) b) on 1 ∷ 1 ∷ 1 ∷ 1 ∷ 2 ∷ [] gives Failed ∷ Held ∷ [])
      × (seq (Sequence.or (Sequence.delay 1 1 (Sequence.repeat 1 1 a) b) (Sequence.repeat 3 3 c)) on 1 ∷ 1 ∷ 2 ∷ [] gives Failed ∷ [])
      × (seq (Sequence.repeat 2 2 (Sequence.delay 1 1 a b)) on 1 ∷ 2 ∷ 1 ∷ 2 ∷ [] gives Held ∷ [])
      × (seq (Sequence.repeat 2 2 (Sequence.delay 1 1 a b)) on 1 ∷ 2 ∷ 2 ∷ 1 ∷ [] gives Failed ∷ [])
      × (seq (Sequence.delay 1 1 (Sequence.repeat 2 2 (Sequence.repeat 0 1 a)) b) on 2 ∷ 0 ∷ 0 ∷ [] gives Held ∷ [])
      × (seq (Sequence.delay 1 1 (Sequence.repeat 2 2 (Sequence.repeat 0 1 a)) b) on 1 ∷ 2 ∷ 0 ∷ [] gives Held ∷ [])
      × (seq (Sequence.delay 1 1 (Sequence.repeat 2 2 (Sequence.repeat 0 1 a)) b) on 1 ∷ 0 ∷ 2 ∷ [] gives Failed ∷ [])
  -- (a ##1 b) or (a ##2 c)
  pub or :
      (seq (Sequence.or (Sequence.delay 1 1 a b) (Sequence.delay 2 2 a c)) on 1 ∷ 2 ∷ 0 ∷ [] gives Held ∷ [])
      × (seq (Sequence.or (Sequence.delay 1 1 a b) (Sequence.delay 2 2 a c)) on 1 ∷ 0 ∷ 4 ∷ [] gives Held ∷ [])
      × (seq (Sequence.or (Sequence.delay 1 1 a b) (Sequence.delay 2 2 a c)) on 1 ∷ 0 ∷ 0 ∷ [] gives Failed ∷ [])
  -- (a ##[1:2] b) intersect (a ##2 c)
  pub intersect :
      (seq (Sequence.intersect (Sequence.delay 1 2 a b) (Sequence.delay 2 2 a c)) on 1 ∷ 0 ∷ 6 ∷ [] gives Held ∷ [])
      × (seq (Sequence.intersect (Sequence.delay 1 2 a b) (Sequence.delay 2 2 a c)) on 1 ∷ 2 ∷ 4 ∷ [] gives Failed ∷ [])
      × (seq (Sequence.intersect (Sequence.delay 1 2 a b) (Sequence.delay 2 2 a c)) on 1 ∷ 0 ∷ 4 ∷ [] gives Failed ∷ [])
      × (seq (Sequence.intersect (Sequence.delay 1 2 a b) (Sequence.delay 2 2 a c)) on 1 ∷ 0 ∷ 2 ∷ [] gives Failed ∷ [])
  -- (a ##1 b) and (a ##2 c), (a ##2 c) and (a ##1 b), (a ##1 b) and (a ##1 c), (a ##[1:2] b) and (a ##2 c),
  -- ((a ##1 b) and (a ##2 c)) ##1 b, ((a ##2 c) and (a ##1 b)) ##1 b, a[*0] and b, b and a[*0]
  pub and :
      (seq (Sequence.and (Sequence.delay 1 1 a b) (Sequence.delay 2 2 a c)) on 1 ∷ 2 ∷ 4 ∷ [] gives Held ∷ [])
      × (seq (Sequence.and (Sequence.delay 2 2 a c) (Sequence.delay 1 1 a b)) on 1 ∷ 2 ∷ 4 ∷ [] gives Held ∷ [])
      × (seq (Sequence.and (Sequence.delay 1 1 a b) (Sequence.delay 2 2 a c)) on 1 ∷ 2 ∷ 0 ∷ [] gives Failed ∷ [])
      × (seq (Sequence.and (Sequence.delay 1 1 a b) (Sequence.delay 2 2 a c)) on 1 ∷ 0 ∷ 4 ∷ [] gives Failed ∷ [])
      × (seq (Sequence.and (Sequence.delay 1 1 a b) (Sequence.delay 1 1 a c)) on 1 ∷ 6 ∷ [] gives Held ∷ [])
      × (seq (Sequence.and (Sequence.delay 1 2 a b) (Sequence.delay 2 2 a c)) on 1 ∷ 2 ∷ 4 ∷ [] gives Held ∷ [])
      × (seq (Sequence.delay 1 1 (Sequence.and (Sequence.delay 1 1 a b) (Sequence.delay 2 2 a c)) b) on 1 ∷ 2 ∷ 4 ∷ 2 ∷ [] gives Held ∷ [])
      × (seq (Sequence.delay 1 1 (Sequence.and (Sequence.delay 1 1 a b) (Sequence.delay 2 2 a c)) b) on 1 ∷ 2 ∷ 6 ∷ 0 ∷ [] gives Failed ∷ [])
      × (seq (Sequence.delay 1 1 (Sequence.and (Sequence.delay 2 2 a c) (Sequence.delay 1 1 a b)) b) on 1 ∷ 2 ∷ 6 ∷ 0 ∷ [] gives Failed ∷ [])
      × (seq (Sequence.and (Sequence.repeat 0 0 a) b) on 2 ∷ 0 ∷ [] gives Held ∷ Failed ∷ [])
      × (seq (Sequence.and b (Sequence.repeat 0 0 a)) on 2 ∷ 0 ∷ [] gives Held ∷ Failed ∷ [])
  -- c throughout (a ##2 b), (c throughout a[*0:1]) ##1 b
  pub throughout :
      (seq (Sequence.throughout bool_c (Sequence.delay 2 2 a b)) on 5 ∷ 4 ∷ 6 ∷ [] gives Held ∷ [])
      × (seq (Sequence.throughout bool_c (Sequence.delay 2 2 a b)) on 1 ∷ 4 ∷ 6 ∷ [] gives Failed ∷ [])
      × (seq (Sequence.throughout bool_c (Sequence.delay 2 2 a b)) on 5 ∷ 0 ∷ 6 ∷ [] gives Failed ∷ [])
      × (seq (Sequence.throughout bool_c (Sequence.delay 2 2 a b)) on 5 ∷ 4 ∷ 2 ∷ [] gives Failed ∷ [])
      × (seq (Sequence.throughout bool_c (Sequence.delay 2 2 a b)) on 5 ∷ 4 ∷ 4 ∷ [] gives Failed ∷ [])
      × (seq (Sequence.delay 1 1 (Sequence.throughout bool_c (Sequence.repeat 0 1 a)) b) on 2 ∷ 0 ∷ [] gives Held ∷ [])
  -- b within a[*3], b[*2] within a[*3], b[*0] within a
  pub within :
      (seq (Sequence.within b (Sequence.repeat 3 3 a)) on 1 ∷ 3 ∷ 1 ∷ [] gives Held ∷ [])
      × (seq (Sequence.within b (Sequence.repeat 3 3 a)) on 1 ∷ 1 ∷ 1 ∷ [] gives Failed ∷ [])
      × (seq (Sequence.within b (Sequence.repeat 3 3 a)) on 3 ∷ 1 ∷ 1 ∷ [] gives Held ∷ [])
      × (seq (Sequence.within b (Sequence.repeat 3 3 a)) on 1 ∷ 1 ∷ 3 ∷ [] gives Held ∷ [])
      × (seq (Sequence.within b (Sequence.repeat 3 3 a)) on 2 ∷ 1 ∷ 1 ∷ 1 ∷ [] gives Failed ∷ Failed ∷ [])
      × (seq (Sequence.within b (Sequence.repeat 3 3 a)) on 1 ∷ 1 ∷ 1 ∷ 3 ∷ [] gives Failed ∷ Held ∷ [])
      × (seq (Sequence.within (Sequence.repeat 2 2 b) (Sequence.repeat 3 3 a)) on 1 ∷ 3 ∷ 3 ∷ [] gives Held ∷ [])
      × (seq (Sequence.within (Sequence.repeat 2 2 b) (Sequence.repeat 3 3 a)) on 3 ∷ 1 ∷ 3 ∷ [] gives Failed ∷ [])
      × (seq (Sequence.within (Sequence.repeat 0 0 b) a) on 1 ∷ 0 ∷ [] gives Held ∷ Failed ∷ [])
  -- first_match(a ##[1:2] b) |-> c, first_match(a[*0:1]) |-> b, first_match(a[*0:1]) |=> b
  pub first_match :
      (Property.implies (Sequence.first_match (Sequence.delay 1 2 a b)) (bool bool_c) on 1 ∷ 6 ∷ 2 ∷ [] gives Held ∷ [])
      × (Property.implies (Sequence.first_match (Sequence.delay 1 2 a b)) (bool bool_c) on 1 ∷ 0 ∷ 6 ∷ [] gives Held ∷ [])
      × (Property.implies (Sequence.first_match (Sequence.delay 1 2 a b)) (bool bool_c) on 1 ∷ 2 ∷ 6 ∷ [] gives Failed ∷ [])
      × (Property.implies (Sequence.first_match (Sequence.repeat 0 1 a)) (bool bool_b) on 0 ∷ 1 ∷ [] gives Vacuous ∷ Vacuous ∷ [])
      × (Property.implies_next (Sequence.first_match (Sequence.repeat 0 1 a)) (bool bool_b) on 3 ∷ 0 ∷ [] gives Held ∷ [])
      × (Property.implies_next (Sequence.first_match (Sequence.repeat 0 1 a)) (bool bool_b) on 1 ∷ 2 ∷ [] gives Failed ∷ [])
  -- a[*0:1]
  pub sequence :
      (seq (Sequence.repeat 0 1 a) on 0 ∷ 1 ∷ [] gives Failed ∷ Held ∷ [])
  -- not a, (a |-> b) or c, (a |-> b) and (c |-> b)
  pub property_connectives :
      (Property.not (bool bool_a) on 0 ∷ 1 ∷ [] gives Held ∷ Failed ∷ [])
      × (Property.or (Property.implies a (bool bool_b)) (bool bool_c) on 1 ∷ 3 ∷ 5 ∷ [] gives Failed ∷ Held ∷ Held ∷ [])
      × (Property.and (Property.implies a (bool bool_b)) (Property.implies c (bool bool_b)) on 1 ∷ 4 ∷ 5 ∷ 7 ∷ [] gives Failed ∷ Failed ∷ Failed ∷ Held ∷ [])
  -- a |-> b, (a ##1 b) |-> c, (a ##[1:2] b) |-> c, a[*0:1] |-> b
  pub implies :
      (Property.implies a (bool bool_b) on 0 ∷ 1 ∷ 2 ∷ 3 ∷ [] gives Vacuous ∷ Failed ∷ Vacuous ∷ Held ∷ [])
      × (Property.implies (Sequence.delay 1 1 a b) (bool bool_c) on 1 ∷ 6 ∷ [] gives Held ∷ [])
      × (Property.implies (Sequence.delay 1 1 a b) (bool bool_c) on 5 ∷ 2 ∷ [] gives Failed ∷ [])
      × (Property.implies (Sequence.delay 1 2 a b) (bool bool_c) on 1 ∷ 6 ∷ 2 ∷ [] gives Failed ∷ [])
      × (Property.implies (Sequence.delay 1 2 a b) (bool bool_c) on 1 ∷ 2 ∷ 6 ∷ [] gives Failed ∷ [])
      × (Property.implies (Sequence.delay 1 2 a b) (bool bool_c) on 1 ∷ 6 ∷ 6 ∷ [] gives Held ∷ [])
      × (Property.implies (Sequence.repeat 0 1 a) (bool bool_b) on 0 ∷ 1 ∷ 2 ∷ 3 ∷ [] gives Vacuous ∷ Failed ∷ Vacuous ∷ Held ∷ [])
  -- a |=> b, a[*0:1] |=> b, a[*0] |=> b
  pub implies_next :
      (Property.implies_next a (bool bool_b) on 1 ∷ 2 ∷ 3 ∷ 0 ∷ [] gives Held ∷ Vacuous ∷ Failed ∷ [])
      × (Property.implies_next (Sequence.repeat 0 1 a) (bool bool_b) on 2 ∷ 0 ∷ [] gives Held ∷ [])
      × (Property.implies_next (Sequence.repeat 0 1 a) (bool bool_b) on 0 ∷ 2 ∷ [] gives Failed ∷ [])
      × (Property.implies_next (Sequence.repeat 0 1 a) (bool bool_b) on 3 ∷ 2 ∷ [] gives Held ∷ [])
      × (Property.implies_next (Sequence.repeat 0 1 a) (bool bool_b) on 3 ∷ 0 ∷ [] gives Failed ∷ [])
      × (Property.implies_next (Sequence.repeat 0 0 a) (bool bool_b) on 0 ∷ 2 ∷ [] gives Failed ∷ Held ∷ [])
  -- nexttime[2] a, nexttime[0] a
  pub nexttime :
      (Property.nexttime 2 (bool bool_a) on 0 ∷ 0 ∷ 1 ∷ [] gives Held ∷ [])
      × (Property.nexttime 2 (bool bool_a) on 1 ∷ 1 ∷ 0 ∷ [] gives Failed ∷ [])
      × (Property.nexttime 0 (bool bool_a) on 0 ∷ 1 ∷ [] gives Failed ∷ Held ∷ [])
  -- always[1:2] a
  pub always :
      (Property.always 1 2 (bool bool_a) on 0 ∷ 1 ∷ 1 ∷ [] gives Held ∷ [])
      × (Property.always 1 2 (bool bool_a) on 1 ∷ 0 ∷ 1 ∷ [] gives Failed ∷ [])
      × (Property.always 1 2 (bool bool_a) on 1 ∷ 1 ∷ 0 ∷ [] gives Failed ∷ [])
  -- s_eventually[1:2] a
  pub eventually :
      (Property.eventually 1 2 (bool bool_a) on 1 ∷ 0 ∷ 0 ∷ [] gives Failed ∷ [])
      × (Property.eventually 1 2 (bool bool_a) on 0 ∷ 1 ∷ 0 ∷ [] gives Held ∷ [])
      × (Property.eventually 1 2 (bool bool_a) on 0 ∷ 0 ∷ 1 ∷ [] gives Held ∷ [])
  -- not (a |-> b), not (not (a |-> b))
  pub live_not :
      (Property.not (Property.implies a (bool bool_b)) on 0 ∷ 1 ∷ 3 ∷ [] gives Failed ∷ Held ∷ Failed ∷ [])
      × (Property.not (Property.not (Property.implies a (bool bool_b))) on 0 ∷ 1 ∷ 3 ∷ [] gives Vacuous ∷ Failed ∷ Held ∷ [])
  -- (a |-> b) or (b |-> c), (a |-> b) or c, (a |-> b) and (c |-> b)
  pub live_or_and :
      (Property.or (Property.implies a (bool bool_b)) (Property.implies b (bool bool_c)) on 0 ∷ 1 ∷ 2 ∷ 3 ∷ [] gives Vacuous ∷ Held ∷ Held ∷ Held ∷ [])
      × (Property.or (Property.implies a (bool bool_b)) (bool bool_c) on 0 ∷ [] gives Held ∷ [])
      × (Property.and (Property.implies a (bool bool_b)) (Property.implies c (bool bool_b)) on 0 ∷ 3 ∷ 6 ∷ [] gives Vacuous ∷ Held ∷ Held ∷ [])
  -- a |-> (b |-> c), (a ##[1:2] 1'b1) |-> (b |-> c)
  pub live_implies :
      (Property.implies a (Property.implies b (bool bool_c)) on 0 ∷ 1 ∷ 3 ∷ 7 ∷ [] gives Vacuous ∷ Vacuous ∷ Failed ∷ Held ∷ [])
      × (Property.implies (Sequence.delay 1 2 a (Sequence.boolean (Boolean.constant true))) (Property.implies b (bool bool_c)) on 1 ∷ 0 ∷ 0 ∷ [] gives Vacuous ∷ [])
      × (Property.implies (Sequence.delay 1 2 a (Sequence.boolean (Boolean.constant true))) (Property.implies b (bool bool_c)) on 1 ∷ 6 ∷ 0 ∷ [] gives Held ∷ [])
      × (Property.implies (Sequence.delay 1 2 a (Sequence.boolean (Boolean.constant true))) (Property.implies b (bool bool_c)) on 1 ∷ 0 ∷ 6 ∷ [] gives Held ∷ [])
  -- a |=> (b |-> c), a[*1:2] |=> (b |-> c)
  pub live_implies_next :
      (Property.implies_next a (Property.implies b (bool bool_c)) on 1 ∷ 0 ∷ [] gives Vacuous ∷ [])
      × (Property.implies_next a (Property.implies b (bool bool_c)) on 1 ∷ 2 ∷ [] gives Failed ∷ [])
      × (Property.implies_next a (Property.implies b (bool bool_c)) on 1 ∷ 6 ∷ [] gives Held ∷ [])
      × (Property.implies_next (Sequence.repeat 1 2 a) (Property.implies b (bool bool_c)) on 1 ∷ 1 ∷ 6 ∷ [] gives Held ∷ [])
  -- nexttime[1] (a |-> b)
  pub live_nexttime :
      (Property.nexttime 1 (Property.implies a (bool bool_b)) on 3 ∷ 0 ∷ [] gives Vacuous ∷ [])
      × (Property.nexttime 1 (Property.implies a (bool bool_b)) on 0 ∷ 3 ∷ [] gives Held ∷ [])
  -- always[0:1] (a |-> b), always[1:2] (a |-> b), s_eventually[0:1] (a |-> b), s_eventually[1:2] (a |-> b)
  pub live_ranges :
      (Property.always 0 1 (Property.implies a (bool bool_b)) on 0 ∷ 0 ∷ 3 ∷ [] gives Vacuous ∷ Held ∷ [])
      × (Property.always 0 1 (Property.implies a (bool bool_b)) on 3 ∷ 0 ∷ [] gives Held ∷ [])
      × (Property.always 0 1 (Property.implies a (bool bool_b)) on 0 ∷ 3 ∷ [] gives Held ∷ [])
      × (Property.always 1 2 (Property.implies a (bool bool_b)) on 3 ∷ 0 ∷ 0 ∷ [] gives Vacuous ∷ [])
      × (Property.eventually 0 1 (Property.implies a (bool bool_b)) on 0 ∷ 0 ∷ 3 ∷ [] gives Vacuous ∷ Held ∷ [])
      × (Property.eventually 0 1 (Property.implies a (bool bool_b)) on 1 ∷ 0 ∷ [] gives Held ∷ [])
      × (Property.eventually 0 1 (Property.implies a (bool bool_b)) on 0 ∷ 1 ∷ [] gives Held ∷ [])
      × (Property.eventually 0 1 (Property.implies a (bool bool_b)) on 1 ∷ 1 ∷ [] gives Failed ∷ [])
      × (Property.eventually 1 2 (Property.implies a (bool bool_b)) on 3 ∷ 0 ∷ 0 ∷ [] gives Vacuous ∷ [])
  -- a |=> b: a start is decided only at its horizon
  pub decided :
      (Property.implies_next a (bool bool_b) on 0 ∷ [] gives [])
      × (Property.implies_next a (bool bool_b) on 0 ∷ 0 ∷ [] gives Vacuous ∷ [])
      × (horizon (Property.implies_next a (bool bool_b)) ≡ 1)
      × (open_starts (Property.implies_next a (bool bool_b)) (1 ∷ 2 ∷ 3 ∷ 0 ∷ []) ≡ 1)
  -- horizon 1, lookback 2: start 5 has the cycles 3 to 6, start 1 the cycles 0 to 2
  pub span : (span_first 2 5 ≡ 3) × (span_last 1 5 ≡ 6) × (span_first 2 1 ≡ 0) × (span_last 1 1 ≡ 2)
  -- rows that differ in cycles 0 and 3 are alike in cycles 1 and 2
  pub alike : Alike 1 3 (recorded (0 ∷ 1 ∷ 2 ∷ 7 ∷ [])) (recorded (5 ∷ 1 ∷ 2 ∷ 0 ∷ []))
  -- lengths, operator by operator
  pub lengths :
      (a takes 1 to 1)
      × (Sequence.delay 2 3 x y takes 6 to 11)
      × (Sequence.fusion x y takes 4 to 8)
      × (Sequence.fusion (Sequence.repeat 0 1 a) y takes 3 to 4)
      × (Sequence.fusion y (Sequence.repeat 0 1 a) takes 3 to 4)
      × (Sequence.repeat 2 3 x takes 4 to 15)
      × (Sequence.or x y takes 2 to 5)
      × (Sequence.or y x takes 2 to 5)
      × (Sequence.intersect x y takes 3 to 4)
      × (Sequence.intersect y x takes 3 to 4)
      × (Sequence.and x y takes 3 to 5)
      × (Sequence.and y x takes 3 to 5)
      × (Sequence.throughout bool_c x takes 2 to 5)
      × (Sequence.within x y takes 3 to 4)
      × (Sequence.within y x takes 3 to 5)
      × (Sequence.first_match x takes 2 to 5)
  pub horizons :
      (horizon (seq x) ≡ 4)
      × (horizon (Property.not near) ≡ 3)
      × (horizon (Property.or near far) ≡ 5)
      × (horizon (Property.or far near) ≡ 5)
      × (horizon (Property.and near far) ≡ 5)
      × (horizon (Property.and far near) ≡ 5)
      × (horizon (Property.implies x near) ≡ 7)
      × (horizon (Property.implies_next x near) ≡ 8)
      × (horizon (Property.nexttime 2 near) ≡ 5)
      × (horizon (Property.always 1 2 near) ≡ 5)
      × (horizon (Property.eventually 1 2 near) ≡ 5)
  pub boolean_lookbacks :
      (boolean_lookback (Boolean.constant true) ≡ 0)
      × (boolean_lookback bool_a ≡ 0)
      × (boolean_lookback (Boolean.not past_a) ≡ 2)
      × (boolean_lookback (Boolean.and past_a past_b) ≡ 3)
      × (boolean_lookback (Boolean.and past_b past_a) ≡ 3)
      × (boolean_lookback (Boolean.or past_a past_b) ≡ 3)
      × (boolean_lookback (Boolean.or past_b past_a) ≡ 3)
      × (boolean_lookback (Boolean.past 3 past_a) ≡ 5)
  pub sequence_lookbacks :
      (sequence_lookback p ≡ 2)
      × LargestBack (Sequence.delay 1 2)
      × LargestBack Sequence.fusion
      × (sequence_lookback (Sequence.repeat 2 3 p) ≡ 2)
      × LargestBack Sequence.or
      × LargestBack Sequence.intersect
      × LargestBack Sequence.and
      × (sequence_lookback (Sequence.throughout past_a q) ≡ 3)
      × (sequence_lookback (Sequence.throughout past_b p) ≡ 3)
      × LargestBack Sequence.within
      × (sequence_lookback (Sequence.first_match p) ≡ 2)
  pub lookbacks :
      (lookback (seq p) ≡ 2)
      × (lookback (Property.not (seq p)) ≡ 2)
      × (lookback (Property.or (seq p) (seq q)) ≡ 3)
      × (lookback (Property.or (seq q) (seq p)) ≡ 3)
      × (lookback (Property.and (seq p) (seq q)) ≡ 3)
      × (lookback (Property.and (seq q) (seq p)) ≡ 3)
      × (lookback (Property.implies p (seq q)) ≡ 3)
      × (lookback (Property.implies q (seq p)) ≡ 3)
      × (lookback (Property.implies_next p (seq q)) ≡ 3)
      × (lookback (Property.implies_next q (seq p)) ≡ 3)
      × (lookback (Property.nexttime 1 (seq p)) ≡ 2)
      × (lookback (Property.always 1 2 (seq p)) ≡ 2)
      × (lookback (Property.eventually 1 2 (seq p)) ≡ 2)
