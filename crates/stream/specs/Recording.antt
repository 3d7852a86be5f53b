-- "One recorded stream, whole": the definitions give the document's output for the document's input.
use Rattle.std.specs.Prelude.{true, ◌≡◌, refl, List, [], ◌∷◌, ◌++◌, ℕ}
use Rattle.values.specs.declared.Outcome.{Outcome}
use Rattle.bits.specs.Bits.{the_bits}
use Rattle.bits.specs.Twos.{the_twos}
use Rattle.table.specs.Faults.{the_faults}
use Rattle.script.specs.Reader.{the_reader}
use Rattle.script.specs.Orders.{recorded_script}
use Rattle.step.specs.Reader.{the_step}
use Rattle.history.specs.History.{the_logic}
use Rattle.history.specs.Offered.{offered}
use Rattle.stream.specs.Lines.{the_lines}
use Rattle.stream.specs.Records.{next_record, records_to, records_of}
use Rattle.stream.specs.Replay.{row_lines, steps_from, replayed}

-- "Steps, each with length 8": time 1000, true; 2000, false; 3000, undefined; 4000, false
abbrev pub recorded_steps : List ℕ
recorded_steps =
    0 ∷ 8 ∷ 0x00 ∷ 0x00 ∷ 0x00 ∷ 0x00 ∷ 0x07 ∷ 0xD0 ∷ 0x08 ∷ 0x08
    ∷ 0 ∷ 8 ∷ 0x00 ∷ 0x00 ∷ 0x00 ∷ 0x00 ∷ 0x0F ∷ 0xA0 ∷ 0x08 ∷ 0x00
    ∷ 0 ∷ 8 ∷ 0x00 ∷ 0x00 ∷ 0x00 ∷ 0x00 ∷ 0x17 ∷ 0x70 ∷ 0x08 ∷ 0x10
    ∷ 0 ∷ 8 ∷ 0x00 ∷ 0x00 ∷ 0x00 ∷ 0x00 ∷ 0x1F ∷ 0x40 ∷ 0x08 ∷ 0x00
    ∷ []

-- the document's output in ASCII, a line to a line:
-- "script 4", "2000 alarm 3 LEAP", "4000 alarm 3 LEAP", "steps 4 refused 0"
abbrev pub recorded_output : List ℕ
recorded_output =
    115 ∷ 99 ∷ 114 ∷ 105 ∷ 112 ∷ 116 ∷ 32 ∷ 52 ∷ 10
    ∷ 50 ∷ 48 ∷ 48 ∷ 48 ∷ 32 ∷ 97 ∷ 108 ∷ 97 ∷ 114 ∷ 109 ∷ 32 ∷ 51 ∷ 32 ∷ 76 ∷ 69 ∷ 65 ∷ 80 ∷ 10
    ∷ 52 ∷ 48 ∷ 48 ∷ 48 ∷ 32 ∷ 97 ∷ 108 ∷ 97 ∷ 114 ∷ 109 ∷ 32 ∷ 51 ∷ 32 ∷ 76 ∷ 69 ∷ 65 ∷ 80 ∷ 10
    ∷ 115 ∷ 116 ∷ 101 ∷ 112 ∷ 115 ∷ 32 ∷ 52 ∷ 32 ∷ 114 ∷ 101 ∷ 102 ∷ 117 ∷ 115 ∷ 101 ∷ 100 ∷ 32 ∷ 48 ∷ 10
    ∷ []

-- what the program prints for "a 16-bit length and the script, then records" is what the document prints
pub recorded : replayed (0 ∷ 15 ∷ recorded_script ++ recorded_steps) ≡ recorded_output
unfolding the_bits the_twos the_faults the_reader the_step the_logic offered the_lines next_record records_to records_of row_lines steps_from replayed
recorded = refl

-- "Input that stops inside a record or its length prints `cut` before the last line": here after one byte of a length; "script 4", "cut", "steps 0 refused 0"
pub cut_in_a_length : replayed (0 ∷ 15 ∷ recorded_script ++ (0 ∷ []))
    ≡ 115 ∷ 99 ∷ 114 ∷ 105 ∷ 112 ∷ 116 ∷ 32 ∷ 52 ∷ 10 ∷ 99 ∷ 117 ∷ 116 ∷ 10
    ∷ 115 ∷ 116 ∷ 101 ∷ 112 ∷ 115 ∷ 32 ∷ 48 ∷ 32 ∷ 114 ∷ 101 ∷ 102 ∷ 117 ∷ 115 ∷ 101 ∷ 100 ∷ 32 ∷ 48 ∷ 10 ∷ []
unfolding the_bits the_twos the_faults the_reader the_step the_logic offered the_lines next_record records_to records_of row_lines steps_from replayed
cut_in_a_length = refl

-- "in step and entry order": two alarms with empty labels at time 7; "7 alarm 0 " and "7 alarm 1 "
pub entries_in_order : row_lines (λ k. []) 7 (λ k. Outcome.Raised true) 2 ≡ 55 ∷ 32 ∷ 97 ∷ 108 ∷ 97 ∷ 114 ∷ 109 ∷ 32 ∷ 48 ∷ 32 ∷ 10 ∷ 55 ∷ 32 ∷ 97 ∷ 108 ∷ 97 ∷ 114 ∷ 109 ∷ 32 ∷ 49 ∷ 32 ∷ 10 ∷ []
unfolding the_lines row_lines
entries_in_order = refl
