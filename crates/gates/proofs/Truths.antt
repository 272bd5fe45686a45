-- What a list of gates says, and what one more gate leaves as it was.
use Rattle.std.proofs.Common.{◌≡◌, ℕ, zero, suc, ◌+◌, ◌<◌, ◌≤◌, Bool, true, false, cond, not, ◌&&◌, List, [], ◌∷◌, ◌++◌, length, get_or, sym, refl, ap, ◌∙◌, ap₂, append_assoc, append-nil, le_of_suc-le-suc, arith, length-append}
use Rattle.std.proofs.lemmas.List.{get_or_append_left, get_or_at, get_or_push}
use Rattle.std.proofs.lemmas.Bool.{and_from, and_parts, ltb-true, lt-ltb}
use Rattle.sva.specs.Trace.{Trace}
use Rattle.domain.specs.Meaning.{Denotes}
use Rattle.domain.specs.Operations.{operands, Accepted}
use Rattle.domain.proofs.Outcomes.{holds_allows}
use Rattle.gates.specs.declared.gate.Variable.{Variable}
use Rattle.gates.specs.declared.gate.Variable.TheVariants.{False, Atom, Gate as Output}
use Rattle.gates.specs.declared.gate.Literal.{Literal}
use Rattle.gates.specs.declared.gate.Gate.{Gate}
use Rattle.gates.specs.Graph.{known, known_gate, ordered_from, ordered, variable_truth, literal_truth, gate_truth, truths_from, truths, gates_meaning, absent, IsGraph}
use Rattle.gates.specs.Lists.{output}

-- a variable that is there stays so with more gates, and keeps its truth
known_more : (n m : ℕ) (v : Variable) → n ≤ m → known n v ≡ true → known m v ≡ true
known_more n m False l h = refl
known_more n m (Atom k c) l h = h
known_more n m (Output i) l h = lt-ltb i m (omega (arith, ltb-true i n h))

module _ (τ : Trace) where
  variable_more : (ts us : List Bool) (v : Variable) → known (length ts) v ≡ true → variable_truth τ (ts ++ us) v ≡ variable_truth τ ts v
  variable_more ts us False h = refl
  variable_more ts us (Atom k c) h = refl
  variable_more ts us (Output i) h = get_or_append_left ts us false i (ltb-true i (length ts) h)

  literal_more : (ts us : List Bool) (l : Literal) → known (length ts) l.variable ≡ true → literal_truth τ (ts ++ us) l ≡ literal_truth τ ts l
  literal_more ts us l h = ap (λ t. cond l.negated (not t) t) (variable_more ts us l.variable h)

  truths_push : (ts : List Bool) (gs : List Gate) (g : Gate) → truths_from τ ts (gs ++ g ∷ []) ≡ truths_from τ ts gs ++ gate_truth τ (truths_from τ ts gs) g ∷ []
  unfolding truths_from
  truths_push ts [] g = refl
  truths_push ts (h ∷ gs) g = truths_push (ts ++ gate_truth τ ts h ∷ []) gs g

  length_truths : (ts : List Bool) (gs : List Gate) → length (truths_from τ ts gs) ≡ length ts + length gs
  unfolding truths_from
  length_truths ts [] = omega arith
  length_truths ts (h ∷ gs) = omega (arith, length_truths (ts ++ gate_truth τ ts h ∷ []) gs, length-append ts (gate_truth τ ts h ∷ []))

  -- the truths at hand stay at the front
  pub record Extends (ts vs : List Bool) : Type 0 where
    pub more : List Bool
    pub is : vs ≡ ts ++ more

  extends : (ts : List Bool) (gs : List Gate) → Extends ts (truths_from τ ts gs)
  unfolding truths_from
  extends ts [] = record { more = []; is = sym (append-nil ts) }
  extends ts (h ∷ gs) =
      let e = extends (ts ++ gate_truth τ ts h ∷ []) gs in
      record { more = gate_truth τ ts h ∷ e.more; is = e.is ∙ append_assoc ts (gate_truth τ ts h ∷ []) e.more }

  gate_more : (ts us : List Bool) (g : Gate) → known_gate (length ts) g ≡ true → gate_truth τ (ts ++ us) g ≡ gate_truth τ ts g
  gate_more ts us g h =
      let p = and_parts (known (length ts) g.left.variable) (known (length ts) g.right.variable) h in
      ap₂ ◌&&◌ (literal_more ts us g.left p.0) (literal_more ts us g.right p.1)

  gate_at : (ts : List Bool) (gs : List Gate) (n j : ℕ) → length ts ≡ n → j < length gs → ordered_from n gs ≡ true
      → get_or (truths_from τ ts gs) (n + j) false ≡ gate_truth τ (truths_from τ ts gs) (get_or gs j absent)
  unfolding truths_from
  gate_at ts [] n j e l o = let z : ⊥ = omega arith in absurd z
  gate_at ts (h ∷ gs) n zero e l o =
      let x = gate_truth τ ts h in
      let p = and_parts (known_gate n h) (ordered_from (suc n) gs) o in
      let k : known_gate (length ts) h ≡ true = rw e p.0 in
      let v = extends (ts ++ x ∷ []) gs in
      let is : truths_from τ (ts ++ x ∷ []) gs ≡ ts ++ (x ∷ v.more) = v.is ∙ append_assoc ts (x ∷ []) v.more in
      ap (λ us. get_or us (n + 0) false) is ∙ get_or_at ts x v.more false (n + 0) (omega arith) ∙ sym (ap (λ us. gate_truth τ us h) is ∙ gate_more ts (x ∷ v.more) h k)
  gate_at ts (h ∷ gs) n (suc j) e l o =
      let p = and_parts (known_gate n h) (ordered_from (suc n) gs) o in
      let x = gate_truth τ ts h in
      ap (λ i. get_or (truths_from τ (ts ++ x ∷ []) gs) i false) (omega arith)
      ∙ gate_at (ts ++ x ∷ []) gs (suc n) j (omega (arith, length-append ts (x ∷ []))) (le_of_suc-le-suc l) p.1

earlier_at : (n j : ℕ) (gs : List Gate) → j < length gs → ordered_from n gs ≡ true → known_gate (n + j) (get_or gs j absent) ≡ true
earlier_at n j [] l o = let z : ⊥ = omega arith in absurd z
earlier_at n zero (g ∷ gs) l o = ap (λ i. known_gate i g) (omega arith) ∙ (and_parts (known_gate n g) (ordered_from (suc n) gs) o).0
earlier_at n (suc j) (g ∷ gs) l o =
    ap (λ i. known_gate i (get_or gs j absent)) (omega arith) ∙ earlier_at (suc n) j gs (le_of_suc-le-suc l) (and_parts (known_gate n g) (ordered_from (suc n) gs) o).1

-- an ordered list is a graph
pub is_graph : (gs : List Gate) → ordered gs ≡ true → IsGraph gs
is_graph gs o i l = record {
  earlier = ap (λ n. known_gate n (get_or gs i absent)) (omega arith) ∙ earlier_at 0 i gs l o;
  truth = λ τ. ap (λ n. get_or (truths τ gs) n false) (omega arith) ∙ gate_at τ [] gs 0 i refl l o;
}

-- one more gate

ordered_from_push : (n : ℕ) (gs : List Gate) (g : Gate) → ordered_from n gs ≡ true → known_gate (n + length gs) g ≡ true → ordered_from n (gs ++ g ∷ []) ≡ true
ordered_from_push n [] g o k = and_from _ _ (ap (λ i. known_gate i g) (omega arith) ∙ k) refl
ordered_from_push n (h ∷ gs) g o k =
    let p = and_parts (known_gate n h) (ordered_from (suc n) gs) o in
    and_from (known_gate n h) (ordered_from (suc n) (gs ++ g ∷ [])) p.0 (ordered_from_push (suc n) gs g p.1 (ap (λ i. known_gate i g) (omega arith) ∙ k))

pub ordered_push : (gs hs : List Gate) (g : Gate) → hs ≡ gs ++ g ∷ [] → ordered gs ≡ true → known_gate (length gs) g ≡ true → ordered hs ≡ true
ordered_push gs hs g e o k = ap ordered e ∙ ordered_from_push 0 gs g o (ap (λ i. known_gate i g) (omega arith) ∙ k)

module _ (gs : List Gate) (g : Gate) (places : ℕ) (room : length gs < places) where
  long : length (gs ++ g ∷ []) ≡ length gs + 1
  long = length-append gs (g ∷ [])

  kept : (l : Literal) → known (length gs) l.variable ≡ true → Denotes (gates_meaning (gs ++ g ∷ []) places) l (λ τ. literal_truth τ (truths τ gs) l)
  kept l h = record {
    issued = known_more (length gs) (length (gs ++ g ∷ [])) l.variable (omega (arith, long)) h;
    truth = λ τ _. ap (λ us. literal_truth τ us l) (truths_push τ [] gs g)
        ∙ literal_more τ (truths τ gs) (gate_truth τ (truths τ gs) g ∷ []) l (ap (λ n. known n l.variable) (omega (arith, length_truths τ [] gs)) ∙ h);
  }

  accepted : known_gate (length gs) g ≡ true → Accepted (gates_meaning gs places) (gates_meaning (gs ++ g ∷ []) places) (operands (known_gate (length gs) g) ∷ []) (λ τ. gate_truth τ (truths τ gs) g) (output (length gs) false)
  accepted k = record {
    allowed = holds_allows k;
    denotes = record {
      issued = lt-ltb (length gs) (length (gs ++ g ∷ [])) (omega (arith, long));
      truth = λ τ _. ap (λ us. get_or us (length gs) false) (truths_push τ [] gs g)
          ∙ get_or_push (truths τ gs) (gate_truth τ (truths τ gs) g) false (length gs) (omega (arith, length_truths τ [] gs));
    };
    grown = record {
      frame = refl;
      kept = kept;
      taken = omega (arith, long);
      none_added = omega (arith, long);
    };
  }

-- it takes one place, and its literal denotes what it says
pub pushed : (gs hs : List Gate) (g : Gate) (places after : ℕ) (l : Literal) → known_gate (length gs) g ≡ true → hs ≡ gs ++ g ∷ [] → after ≡ places → l ≡ output (length gs) false → length gs < places
    → Accepted (gates_meaning gs places) (gates_meaning hs after) (operands (known_gate (length gs) g) ∷ []) (λ τ. gate_truth τ (truths τ gs) g) l
pushed gs hs g places after l k e p i room = rw (e, p, i) (accepted gs g places room k)
