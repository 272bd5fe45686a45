-- The span of a start over a table.
use Rattle.std.specs.Prelude.{ℕ, ◌^◌, not, List, [], ◌∷◌, Result, nat_le}
use Rattle.sva.specs.Laws.{Spans}
use Rattle.sva.specs.Span.{span_first, span_last}
use Rattle.fault.specs.First.{Rule, rule, first, unless}
use Rattle.fault.specs.Refusals.{refuse}
use Rattle.fault.specs.declared.Layer.TheVariants.{Unroll}
use Rattle.fault.specs.declared.Refusal.{Refusal}
use Rattle.table.specs.declared.span.Span.{Span}
use Rattle.table.specs.declared.table.Table.{Table}
use Rattle.table.specs.Tables.{property_of, horizon_of, lookback_of}

-- the last cycle at which a property is tried is 2^40
abbrev pub start_rules : ℕ → List Rule
start_rules s = rule (not (nat_le s (2 ^ 40))) (refuse Unroll 16 0) ∷ []

-- the span of a start, or the refusal
abbrev pub span_within : (horizon lookback start : ℕ) → Result Span Refusal
span_within h l s = unless (first (start_rules s)) (record { first = span_first l s; last = span_last h s })

abbrev pub span_of : Table → (start : ℕ) → Result Span Refusal
span_of t s = span_within (horizon_of t) (lookback_of t) s

-- two traces that are alike in each cycle of the start's span give it the same verdict
abbrev pub SpanSuffices : Table → (start : ℕ) → Type 0
SpanSuffices t s = Spans (horizon_of t) (lookback_of t) (property_of t) s
