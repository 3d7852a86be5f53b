-- What the program prints for an input: the logic of the whole history, line by line.
use Rattle.std.specs.Prelude.{Bool, true, false, List, [], ◌∷◌, ◌++◌, ℕ, zero, suc}
use Rattle.values.specs.declared.Outcome.{Outcome}
use Rattle.bits.specs.Reading.{Got, got, refused}
use Rattle.table.specs.declared.Table.{Table}
use Rattle.script.specs.Reader.{script_of, label_of, text_of}
use Rattle.step.specs.Steps.{Step}
use Rattle.history.specs.History.{History, result_at}
use Rattle.history.specs.Offered.{offered, grown}
use Rattle.stream.specs.Records.{records_of}
use Rattle.lines.specs.Text.{script_line, script_refused_line}
use Rattle.stream.specs.Lines.{refused_line, cut_line, last_line, result_line}

-- the lines of a step's results, "in ... entry order", by the label and the result of each entry
unfoldable pub row_lines : (ℕ → List ℕ) → ℕ → (ℕ → Outcome) → ℕ → List ℕ
row_lines label time result zero = []
row_lines label time result (suc k) = row_lines label time result k ++ result_line time k (label k) (result k)

-- the text of an entry's label
abbrev pub label_text : List ℕ → ℕ → List ℕ
label_text script k = text_of script (label_of script k)

-- what one offered step prints
abbrev pub step_lines : Table → List ℕ → History → Got Step → List ℕ
step_lines t script h (got s end) = row_lines (label_text script) s.time (result_at t (s ∷ h)) t.n
step_lines t script h (refused r) = refused_line r

-- how many steps were accepted and refused
pub record Counts : Type 0 where
  pub accepted : ℕ
  pub refused : ℕ

-- one step more
abbrev pub tallied : Counts → Got Step → Counts
tallied c (got s end) = record { accepted = suc c.accepted; refused = c.refused }
tallied c (refused r) = record { accepted = c.accepted; refused = suc c.refused }

-- "Input that stops inside a record or its length prints `cut` before the last line"
abbrev pub closing : Bool → Counts → List ℕ
closing true c = cut_line ++ last_line c.accepted c.refused
closing false c = last_line c.accepted c.refused

-- the lines of the steps, "in step and entry order", and the last lines
unfoldable pub steps_from : Table → List ℕ → Bool → History → Counts → List (List ℕ) → List ℕ
steps_from t script cut h c [] = closing cut c
steps_from t script cut h c (bytes ∷ later) =
    let step = offered t h bytes in
    step_lines t script h step ++ steps_from t script cut (grown h step) (tallied c step) later

-- "a refused script prints `script refused` and its number and nothing else"
abbrev pub script_lines : List ℕ → Bool → List (List ℕ) → Got Table → List ℕ
script_lines script cut steps (got t end) = script_line t.n ++ steps_from t script cut [] (record { accepted = 0; refused = 0 }) steps
script_lines script cut steps (refused r) = script_refused_line r

-- "input that stops before the whole script is there prints `cut` and nothing else"
abbrev pub stream_lines : Bool → List (List ℕ) → List ℕ
stream_lines cut [] = cut_line
stream_lines cut (script ∷ steps) = script_lines script cut steps (script_of script)

-- what the program prints for an input
unfoldable pub replayed : List ℕ → List ℕ
replayed input = stream_lines (records_of input).cut (records_of input).records
