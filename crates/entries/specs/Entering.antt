-- One entry, read by what is lent of the table so far: the sorts of its entries as numbers, which imports are events, its counts.
use Rattle.std.specs.Prelude.{Bool, cond, List, ℕ, ◌%◌, eqb, ltb, pos, length, Result, Ok, Err}
use Rattle.refusals.specs.declared.Refusal.{Refusal}
use Rattle.refusals.specs.Numbering.{unless}
use Rattle.bits.specs.Twos.{signed}
use Rattle.bits.specs.Reading.{Got, got, refused, Reading, give, ◌>>=◌, field}
use Rattle.table.specs.declared.Sort.{Sort}
use Rattle.table.specs.declared.Entry.{Entry}
use Rattle.table.specs.Limits.{limits}
use Rattle.kinds.specs.declared.Operand.{Operand}
use Rattle.kinds.specs.declared.Apart.{Apart}
use Rattle.kinds.specs.Apart.{apart_of, made_of, wide_of, holding}
use Rattle.sound.specs.Judged.{judged_by}

-- an operand's field, judged; where there is no operand nothing is read
unfoldable pub operand_by : List ℕ → List Bool → ℕ → ℕ → ℕ → Operand → Reading ℕ
operand_by sorts events q v k o s at =
    cond (eqb (wide_of o) 0) (give 0 s at) (field Refusal.Cut (wide_of o) (λ n. judged_by sorts events q v k (holding o n)) s at)

-- the operands of a kind, one after another, and the entry that they make
unfoldable pub operands_by : List ℕ → List Bool → ℕ → ℕ → ℕ → ℕ → Apart → Reading Entry
operands_by sorts events q v k kind places = do
  a ← operand_by sorts events q v k places.first
  b ← operand_by sorts events q v k places.second
  c ← operand_by sorts events q v k places.third
  give (made_of kind (a % 65536) (b % 65536) (c % 65536) (signed a))

-- "5 bits of kind, then operands"; "6: kind 25 to 31"
unfoldable pub entry_by : List ℕ → List Bool → ℕ → ℕ → ℕ → Reading Entry
entry_by sorts events q v k =
    field Refusal.Cut 5 (λ kind. unless (ltb kind 25) Refusal.Kind)
    >>= λ kind. operands_by sorts events q v k kind (apart_of (made_of kind 0 0 0 (pos 0)))

-- what was read, as it is handed back
abbrev pub entered_of : Got Entry → Result (Entry × ℕ) Refusal
entered_of (got e next) = Ok (e, next)
entered_of (refused r) = Err r

-- "Number 1 comes before all reading"
unfoldable pub entered : List ℕ → List Bool → ℕ → ℕ → ℕ → List ℕ → ℕ → Result (Entry × ℕ) Refusal
entered sorts events q v k s at = entered_of (cond (ltb limits.script (length s)) (refused Refusal.TooLong) (entry_by sorts events q v k s at))
