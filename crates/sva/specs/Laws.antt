-- Laws about the meaning, each of which stands on the contract of a call.
use Rattle.std.specs.Prelude.{◌≡◌, ℕ, suc, ◌+◌, ◌-◌, ◌≤◌, true}
use Rattle.sva.specs.Formula.{Sequence, Property}
use Rattle.sva.specs.Lengths.{lo, hi, horizon, sequence_lookback, lookback}
use Rattle.sva.specs.Meaning.{matches, holds, live, verdict}
use Rattle.sva.specs.Satisfaction.{Decides}
use Rattle.sva.specs.Span.{span_first, span_last}
use Rattle.sva.specs.Trace.{Trace, Alike}

-- the stretch (s, e) has at least and at most so many cycles
pub record Long (lo hi s e : ℕ) : Type 0 where
  pub least : s + lo ≤ e
  pub most : e ≤ s + hi

-- every match is as long as the lengths say
abbrev pub MatchLengths : Type 0
MatchLengths = (a : Sequence) (τ : Trace) (s e : ℕ) → matches a τ s e ≡ true → Long (lo a) (hi a) s e

-- whether a sequence matches (s, e) depends on the cycles from s - lookback to e - 1 alone
abbrev pub MatchReads : Type 0
MatchReads = (a : Sequence) (τ υ : Trace) (s e : ℕ) → Alike (s - sequence_lookback a) e τ υ → matches a τ s e ≡ matches a υ s e

-- a property holds, is live and gives the verdict in both traces alike
pub record Same (p : Property) (start : ℕ) (τ υ : Trace) : Type 0 where
  pub holding : holds p τ start ≡ holds p υ start
  pub living : live p τ start ≡ live p υ start
  pub judged : verdict p τ start ≡ verdict p υ start

-- two traces that are alike in each cycle of a start's span give it the same verdict
abbrev pub Spans : (horizon lookback : ℕ) → Property → (start : ℕ) → Type 0
Spans h l p s = (τ υ : Trace) → Alike (span_first l s) (suc (span_last h s)) τ υ → Same p s τ υ

abbrev pub SpansSuffice : Type 0
SpansSuffice = (p : Property) (start : ℕ) → Spans (horizon p) (lookback p) p start

-- the tests find exactly what the unbounded relation says
abbrev pub TestsDecide : Type 0
TestsDecide = (τ : Trace) → Decides τ
