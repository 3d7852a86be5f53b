-- The lines that `inspect` prints for the bytes of a script.
use Rattle.std.specs.Prelude.{Bool, true, false, cond, List, [], ◌∷◌, ◌++◌, map, ℕ, zero, suc, eqb}
use Rattle.bits.specs.Reading.{Got, got, refused}
use Rattle.table.specs.declared.Entry.{Entry}
use Rattle.table.specs.declared.Table.{Table}
use Rattle.table.specs.Kinds.{kind_of, labelled}
use Rattle.table.specs.Tables.{entry_at}
use Rattle.script.specs.Reader.{script_of, label_of, text_of}
use Rattle.reach.specs.declared.Reach.{Reach}
use Rattle.reach.specs.Spreading.{reach_of}
use Rattle.lines.specs.Text.{decimal, alarm_word, line, script_line, script_refused_line}

-- "property"
abbrev pub property_word : List ℕ
property_word = 112 ∷ 114 ∷ 111 ∷ 112 ∷ 101 ∷ 114 ∷ 116 ∷ 121 ∷ []

-- "entries"
abbrev pub entries_word : List ℕ
entries_word = 101 ∷ 110 ∷ 116 ∷ 114 ∷ 105 ∷ 101 ∷ 115 ∷ []

-- "imports"
abbrev pub imports_word : List ℕ
imports_word = 105 ∷ 109 ∷ 112 ∷ 111 ∷ 114 ∷ 116 ∷ 115 ∷ []

-- "clock"
abbrev pub clock_word : List ℕ
clock_word = 99 ∷ 108 ∷ 111 ∷ 99 ∷ 107 ∷ []

-- "yes" or "no"
abbrev pub yes_or_no : Bool → List ℕ
yes_or_no true = 121 ∷ 101 ∷ 115 ∷ []
yes_or_no false = 110 ∷ 111 ∷ []

-- the numbers of the marks that are set, rising, where the first mark has this number
unfoldable pub marked_from : ℕ → List Bool → List ℕ
marked_from i [] = []
marked_from i (true ∷ marks) = i ∷ marked_from (suc i) marks
marked_from i (false ∷ marks) = marked_from (suc i) marks

-- "alarm" or "property"
abbrev pub rule_word : Entry → List ℕ
rule_word e = cond (eqb (kind_of e) 23) alarm_word property_word

-- the four lines of a rule: its name, its entries, its imports, and whether it has the clock
unfoldable pub rule_lines : List ℕ → ℕ → Entry → Reach → List ℕ
rule_lines script k e r =
    line (decimal k ∷ rule_word e ∷ text_of script (label_of script k) ∷ [])
    ++ line (decimal k ∷ entries_word ∷ map decimal (marked_from 0 r.entries))
    ++ line (decimal k ∷ imports_word ∷ map decimal (marked_from 0 r.imports))
    ++ line (decimal k ∷ clock_word ∷ yes_or_no r.clock ∷ [])

-- "for each alarm and property entry K in order", up to entry k
unfoldable pub rules_to : List ℕ → Table → ℕ → List ℕ
rules_to script t zero = []
rules_to script t (suc k) = rules_to script t k ++ cond (labelled (entry_at t k)) (rule_lines script k (entry_at t k) (reach_of t k)) []

-- "for an accepted script, `script N`, then [the rules]. A refused script prints `script refused` and its number and nothing else"
abbrev pub lines_of : List ℕ → Got Table → List ℕ
lines_of script (got t end) = script_line t.n ++ rules_to script t t.n
lines_of script (refused r) = script_refused_line r

-- what is printed for any bytes
unfoldable pub inspected : List ℕ → List ℕ
inspected script = lines_of script (script_of script)
