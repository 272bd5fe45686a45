-- How eight bytes spell a node.
use Rattle.std.specs.Prelude.{ℕ, Bool, cond, ◌&&◌, List, Ok, Err, Result, ◌==◌, nat_lt}
use Rattle.fault.specs.Refusals.{refuse}
use Rattle.fault.specs.declared.Layer.TheVariants.{Table}
use Rattle.fault.specs.declared.Refusal.{Refusal}
use Rattle.nodes.specs.declared.node.Node.{Node}
use Rattle.nodes.specs.declared.node.BooleanNode.{BooleanNode}
use Rattle.nodes.specs.declared.node.SequenceNode.{SequenceNode}
use Rattle.nodes.specs.declared.node.PropertyNode.{PropertyNode}
use Rattle.nodes.specs.declared.decode.Fields.{Fields}
use Rattle.nodes.specs.Bytes.{byte}

-- the fields are zero that a node does not use which has
-- no operand and one number
abbrev pub leaf : Fields → Bool
leaf f = f.a == 0 && f.b == 0 && f.n == 0

-- one operand
abbrev pub unary : Fields → Bool
unary f = f.b == 0 && f.m == 0 && f.n == 0

-- two operands
abbrev pub binary : Fields → Bool
binary f = f.m == 0 && f.n == 0

-- one operand and one number
abbrev pub counted : Fields → Bool
counted f = f.b == 0 && f.n == 0

-- one operand and two numbers
abbrev pub ranged : Fields → Bool
ranged f = f.b == 0

-- the node of a kind with its fields, or the refusal at place i, by class;
-- a constant is 0 or 1
abbrev pub boolean_from : ℕ → Fields → Result Node Refusal
boolean_from i f =
    cond (f.kind == 1 && leaf f && nat_lt 1 f.m) (Err (refuse Table 6 i))
    (cond (f.kind == 1 && leaf f) (Ok (Node.Boolean (BooleanNode.Constant (f.m == 1))))
    (cond (f.kind == 2 && leaf f) (Ok (Node.Boolean (BooleanNode.Signal f.m)))
    (cond (f.kind == 3 && unary f) (Ok (Node.Boolean (BooleanNode.Not f.a)))
    (cond (f.kind == 4 && binary f) (Ok (Node.Boolean (BooleanNode.And f.a f.b)))
    (cond (f.kind == 5 && binary f) (Ok (Node.Boolean (BooleanNode.Or f.a f.b)))
    (cond (f.kind == 6 && counted f) (Ok (Node.Boolean (BooleanNode.Past f.a f.m)))
    (Err (refuse Table 3 i))))))))

abbrev pub sequence_from : ℕ → Fields → Result Node Refusal
sequence_from i f =
    cond (f.kind == 16) (Ok (Node.Sequence (SequenceNode.Delay f.a f.b f.m f.n)))
    (cond (f.kind == 17 && binary f) (Ok (Node.Sequence (SequenceNode.Fusion f.a f.b)))
    (cond (f.kind == 18 && ranged f) (Ok (Node.Sequence (SequenceNode.Repeat f.a f.m f.n)))
    (cond (f.kind == 19 && binary f) (Ok (Node.Sequence (SequenceNode.Or f.a f.b)))
    (cond (f.kind == 20 && binary f) (Ok (Node.Sequence (SequenceNode.Intersect f.a f.b)))
    (cond (f.kind == 21 && binary f) (Ok (Node.Sequence (SequenceNode.And f.a f.b)))
    (cond (f.kind == 22 && binary f) (Ok (Node.Sequence (SequenceNode.Throughout f.a f.b)))
    (cond (f.kind == 23 && binary f) (Ok (Node.Sequence (SequenceNode.Within f.a f.b)))
    (cond (f.kind == 24 && unary f) (Ok (Node.Sequence (SequenceNode.FirstMatch f.a)))
    (Err (refuse Table 3 i))))))))))

abbrev pub property_from : ℕ → Fields → Result Node Refusal
property_from i f =
    cond (f.kind == 32 && unary f) (Ok (Node.Property (PropertyNode.Not f.a)))
    (cond (f.kind == 33 && binary f) (Ok (Node.Property (PropertyNode.Or f.a f.b)))
    (cond (f.kind == 34 && binary f) (Ok (Node.Property (PropertyNode.And f.a f.b)))
    (cond (f.kind == 35 && binary f) (Ok (Node.Property (PropertyNode.Implies f.a f.b)))
    (cond (f.kind == 36 && binary f) (Ok (Node.Property (PropertyNode.ImpliesNext f.a f.b)))
    (cond (f.kind == 38 && counted f) (Ok (Node.Property (PropertyNode.Nexttime f.a f.m)))
    (cond (f.kind == 39 && ranged f) (Ok (Node.Property (PropertyNode.Always f.a f.m f.n)))
    (cond (f.kind == 40 && ranged f) (Ok (Node.Property (PropertyNode.Eventually f.a f.m f.n)))
    (Err (refuse Table 3 i)))))))))

-- kinds below 16 are Booleans, below 32 sequences, the others properties
abbrev pub spelled : ℕ → Fields → Result Node Refusal
spelled i f = cond (nat_lt f.kind 16) (boolean_from i f) (cond (nat_lt f.kind 32) (sequence_from i f) (property_from i f))

-- the fields of eight bytes: kind, a, b, a zero byte, m, n, two zero bytes
abbrev pub fields : List ℕ → Fields
fields bs = record { kind = byte bs 0; a = byte bs 1; b = byte bs 2; m = byte bs 4; n = byte bs 5 }

-- the node of eight bytes
abbrev pub node_from : (place : ℕ) → List ℕ → Result Node Refusal
node_from i bs = cond (byte bs 3 == 0 && byte bs 6 == 0 && byte bs 7 == 0) (spelled i (fields bs)) (Err (refuse Table 3 i))
