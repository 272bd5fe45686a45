-- The list of one node.
use Rattle.std.proofs.Common.{◌≡◌, ℕ, List, [], ◌∷◌, Ok, Err, Result, sym, ap, ◌∙◌}
use Rattle.fault.specs.Refusals.{table_refusal}
use Rattle.fault.proofs.First.{not_both}
use Rattle.fault.specs.declared.Refusal.{Refusal}
use Rattle.fault.specs.declared.TableFault.{TableFault}
use Rattle.nodes.specs.declared.node.Node.{Node}
use Rattle.nodes.specs.declared.list.Nodes.{Nodes}
use Rattle.nodes.specs.Rules.{nothing}
use Rattle.nodes.specs.Lists.{node_list, pushed, Pushes}

-- the list of one node, the constant 0
pub first_node : (old new : Nodes) (r : Result (Unit {0}) TableFault) → node_list old ≡ [] → old.signals ≡ 1 → Pushes old new nothing r
    → (node_list new ≡ nothing ∷ []) × (new.signals ≡ 1)
first_node old new (Ok u) e s p =
    let P : Result (List Node) Refusal = pushed old.signals (node_list old) nothing in
    let q : P ≡ Ok (nothing ∷ []) =
    ap (λ (x : ℕ). pushed x (node_list old) nothing) s ∙ ap (λ (x : List Node). pushed 1 x nothing) e in
    let o : ◌≡◌ {A = Result (List Node) Refusal} (Ok (node_list new)) (Ok (nothing ∷ [])) = sym p.0 ∙ q in
    (cc, p.1 ∙ s)
first_node old new (Err f) e s p =
    let P : Result (List Node) Refusal = pushed old.signals (node_list old) nothing in
    let q : P ≡ Ok (nothing ∷ []) =
    ap (λ (x : ℕ). pushed x (node_list old) nothing) s ∙ ap (λ (x : List Node). pushed 1 x nothing) e in
    not_both (nothing ∷ []) (table_refusal f) (sym q ∙ p.0)
