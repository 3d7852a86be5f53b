-- "Refusal numbers and their order": the number of each refusal, and that the first fault decides.
use Rattle.std.specs.Prelude.{Bool, true, false, ℕ, zero, suc, ◌<◌, Ok, Err}
use Rattle.std.proofs.Common.{arith}
use Rattle.refusals.specs.Answers.{Answer}
use Rattle.refusals.specs.declared.Refusal.{Refusal}
use Rattle.refusals.specs.declared.Refusal.TheVariants.{TooLong, Cut, Format, EntryCount, ImportCount, VariableCount, HeaderBits, TableLimits, Initial, Kind, Operand, Sort, Padding, Label, LeftOver, NoRoom, Range, StepCut, Time, StepImport, ImportOrder, ConditionReport, StepPadding, StepLeftOver, Unsound, NoEntry}

-- "No. | Given exactly when": the number of each case, whose sentence stands beside it in src/lib.rt
abbrev pub number_of : Refusal → ℕ
number_of TooLong = 1
number_of Cut = 2
number_of Format = 3
number_of EntryCount = 4
number_of ImportCount = 4
number_of VariableCount = 4
number_of HeaderBits = 4
number_of TableLimits = 4
number_of Initial = 5
number_of Kind = 6
number_of Operand = 7
number_of Sort = 8
number_of Padding = 9
number_of Label = 10
number_of LeftOver = 11
number_of NoRoom = 12
number_of Range = 13
number_of StepCut = 21
number_of Time = 22
number_of StepImport = 23
number_of ImportOrder = 24
number_of ConditionReport = 25
number_of StepPadding = 26
number_of StepLeftOver = 27
number_of Unsound = 29
number_of NoEntry = 30

-- a refusal's number has at most two digits
pub number_low : (r : Refusal) → number_of r < 100
number_low TooLong = omega arith
number_low Cut = omega arith
number_low Format = omega arith
number_low EntryCount = omega arith
number_low ImportCount = omega arith
number_low VariableCount = omega arith
number_low HeaderBits = omega arith
number_low TableLimits = omega arith
number_low Initial = omega arith
number_low Kind = omega arith
number_low Operand = omega arith
number_low Sort = omega arith
number_low Padding = omega arith
number_low Label = omega arith
number_low LeftOver = omega arith
number_low NoRoom = omega arith
number_low Range = omega arith
number_low StepCut = omega arith
number_low Time = omega arith
number_low StepImport = omega arith
number_low ImportOrder = omega arith
number_low ConditionReport = omega arith
number_low StepPadding = omega arith
number_low StepLeftOver = omega arith
number_low Unsound = omega arith
number_low NoEntry = omega arith

-- accepted if so, else that refusal
abbrev pub unless : Bool → Refusal → Answer
unless true r = Ok tt
unless false r = Err r

-- "the first fault decides"
abbrev pub and_then : Answer → Answer → Answer
and_then (Ok _) b = b
and_then (Err r) b = Err r

-- the first fault among f 0, f 1, ..., f (n - 1)
unfoldable pub first_fault : ℕ → (ℕ → Answer) → Answer
first_fault zero f = Ok tt
first_fault (suc n) f = and_then (first_fault n f) (f n)
