-- "One recorded stream, whole": what is shown for the document's script.
use Rattle.std.specs.Prelude.{List, [], ◌∷◌, ◌≡◌, refl, ℕ}
use Rattle.bits.specs.Bits.{the_bits}
use Rattle.bits.specs.Twos.{the_twos}
use Rattle.table.specs.Faults.{the_faults}
use Rattle.script.specs.Reader.{the_reader}
use Rattle.script.specs.Orders.{recorded_script}
use Rattle.reach.specs.Spreading.{the_reach}
use Rattle.lines.specs.Text.{the_text}
use Rattle.inspection.specs.Inspected.{marked_from, rule_lines, rules_to, inspected}

-- "script 4", "3 alarm LEAP", "3 entries 0 1 2 3", "3 imports 0", "3 clock no", a line to a line
abbrev pub recorded_lines : List ℕ
recorded_lines =
    115 ∷ 99 ∷ 114 ∷ 105 ∷ 112 ∷ 116 ∷ 32 ∷ 52 ∷ 10
    ∷ 51 ∷ 32 ∷ 97 ∷ 108 ∷ 97 ∷ 114 ∷ 109 ∷ 32 ∷ 76 ∷ 69 ∷ 65 ∷ 80 ∷ 10
    ∷ 51 ∷ 32 ∷ 101 ∷ 110 ∷ 116 ∷ 114 ∷ 105 ∷ 101 ∷ 115 ∷ 32 ∷ 48 ∷ 32 ∷ 49 ∷ 32 ∷ 50 ∷ 32 ∷ 51 ∷ 10
    ∷ 51 ∷ 32 ∷ 105 ∷ 109 ∷ 112 ∷ 111 ∷ 114 ∷ 116 ∷ 115 ∷ 32 ∷ 48 ∷ 10
    ∷ 51 ∷ 32 ∷ 99 ∷ 108 ∷ 111 ∷ 99 ∷ 107 ∷ 32 ∷ 110 ∷ 111 ∷ 10
    ∷ []

-- the alarm reaches all four entries and the import, and no clock
pub recorded : inspected recorded_script ≡ recorded_lines
unfolding the_bits the_twos the_faults the_reader the_reach the_text marked_from rule_lines rules_to inspected
recorded = refl
