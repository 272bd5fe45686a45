-- The number, place and layer of every refusal.
use Rattle.std.specs.Prelude.{ℕ, List, ◌++◌, codes, decimal}
use Rattle.fault.specs.declared.Layer.{Layer}
use Rattle.fault.specs.declared.Layer.TheVariants as In
use Rattle.fault.specs.declared.Refusal.{Refusal}
use Rattle.fault.specs.declared.TableFault.{TableFault}
use Rattle.fault.specs.declared.TableFault.TheVariants as Table
use Rattle.fault.specs.declared.RowFault.{RowFault}
use Rattle.fault.specs.declared.RowFault.TheVariants as Row
use Rattle.fault.specs.declared.BlockFault.{BlockFault}
use Rattle.fault.specs.declared.BlockFault.TheVariants as Block
use Rattle.fault.specs.declared.UnrollFault.{UnrollFault}
use Rattle.fault.specs.declared.UnrollFault.TheVariants as Unroll
use Rattle.fault.specs.declared.DomainFault.{DomainFault}
use Rattle.fault.specs.declared.DomainFault.TheVariants as Domain
use Rattle.fault.specs.declared.ReportFault.{ReportFault}
use Rattle.fault.specs.declared.ReportFault.TheVariants as Report
use Rattle.fault.specs.declared.Fault.{Fault}
use Rattle.fault.specs.declared.Fault.TheVariants as Of

abbrev pub refuse : Layer → ℕ → ℕ → Refusal
refuse l n p = record { layer = l; number = n; place = p }

abbrev pub table_refusal : TableFault → Refusal
table_refusal Table.Length = refuse In.Table 1 0
table_refusal Table.Header = refuse In.Table 2 0
table_refusal (Table.Form i) = refuse In.Table 3 i
table_refusal (Table.Operand i) = refuse In.Table 4 i
table_refusal (Table.Class i) = refuse In.Table 5 i
table_refusal (Table.Range i) = refuse In.Table 6 i
table_refusal (Table.Lengths i) = refuse In.Table 7 i
table_refusal (Table.Empty i) = refuse In.Table 8 i
table_refusal (Table.Limit i) = refuse In.Table 9 i

abbrev pub row_refusal : RowFault → Refusal
row_refusal (Row.Signal c) = refuse In.Row 10 c
row_refusal (Row.Scratch w) = refuse In.Row 14 w
row_refusal (Row.Ceiling c) = refuse In.Row 21 c

abbrev pub block_refusal : BlockFault → Refusal
block_refusal (Block.Size b) = refuse In.Block 11 b
block_refusal (Block.CheckWord b) = refuse In.Block 12 b
block_refusal (Block.Field b) = refuse In.Block 13 b
block_refusal (Block.Scratch w) = refuse In.Block 14 w
block_refusal (Block.FailedList w) = refuse In.Block 15 w
block_refusal (Block.Number b) = refuse In.Block 22 b

abbrev pub unroll_refusal : UnrollFault → Refusal
unroll_refusal (Unroll.Scratch w) = refuse In.Unroll 14 w
unroll_refusal Unroll.Start = refuse In.Unroll 16 0
unroll_refusal (Unroll.Cycle c) = refuse In.Unroll 23 c

abbrev pub domain_refusal : DomainFault → Refusal
domain_refusal Domain.Full = refuse In.Domain 24 0
domain_refusal Domain.NotIssued = refuse In.Domain 25 0
domain_refusal Domain.Atom = refuse In.Domain 26 0

abbrev pub report_refusal : ReportFault → Refusal
report_refusal (Report.Buffer w) = refuse In.Report 15 w

abbrev pub refusal_of : Fault → Refusal
refusal_of (Of.Table f) = table_refusal f
refusal_of (Of.Row f) = row_refusal f
refusal_of (Of.Block f) = block_refusal f
refusal_of (Of.Unroll f) = unroll_refusal f
refusal_of (Of.Domain f) = domain_refusal f
refusal_of (Of.Report f) = report_refusal f

-- the words that are written for a refusal
abbrev pub refusal_text : Refusal → List ℕ
refusal_text r = codes "refused " ++ decimal r.number ++ codes " " ++ decimal r.place
