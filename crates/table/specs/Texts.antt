-- Entries as text.
use Rattle.std.specs.Prelude.{List, ℕ, ◌++◌, codes, decimal}
use Rattle.std.specs.Fmt.{signed_decimal}
use Rattle.table.specs.declared.Entry.{Entry}

-- a word and its numbers, each after a space
abbrev pub one_number : List ℕ → ℕ → List ℕ
one_number word a = word ++ decimal a

abbrev pub two_numbers : List ℕ → ℕ → ℕ → List ℕ
two_numbers word a b = word ++ (decimal a ++ (codes " " ++ decimal b))

-- the document's word for the kind, and the operands; an import is called by its sort
abbrev pub entry_text : Entry → List ℕ
entry_text (Entry.ImportedCondition i) = one_number (codes "condition ") i
entry_text (Entry.Defined a) = one_number (codes "defined ") a
entry_text (Entry.Pair a b) = two_numbers (codes "pair ") a b
entry_text (Entry.Not a) = one_number (codes "not ") a
entry_text (Entry.Or a b) = two_numbers (codes "or ") a b
entry_text (Entry.And a b) = two_numbers (codes "and ") a b
entry_text (Entry.Implies a b) = two_numbers (codes "implies ") a b
entry_text (Entry.Less a b) = two_numbers (codes "less ") a b
entry_text (Entry.Equal a b) = two_numbers (codes "equal ") a b
entry_text (Entry.ImportedEvent i) = one_number (codes "event ") i
entry_text (Entry.Start a) = one_number (codes "start ") a
entry_text (Entry.End a) = one_number (codes "end ") a
entry_text (Entry.Both a b) = two_numbers (codes "both ") a b
entry_text (Entry.Either a b) = two_numbers (codes "either ") a b
entry_text (Entry.When a b) = two_numbers (codes "when ") a b
entry_text (Entry.Constant z) = codes "constant " ++ signed_decimal z
entry_text (Entry.Variable x) = one_number (codes "variable ") x
entry_text (Entry.Sum a b) = two_numbers (codes "sum ") a b
entry_text (Entry.Difference a b) = two_numbers (codes "difference ") a b
entry_text Entry.Clock = codes "clock"
entry_text (Entry.Value i) = one_number (codes "value ") i
entry_text (Entry.Time a) = one_number (codes "time ") a
entry_text (Entry.Update a x b) = codes "update " ++ (decimal a ++ (codes " " ++ (decimal x ++ (codes " " ++ decimal b))))
entry_text (Entry.Alarm a) = one_number (codes "alarm ") a
entry_text (Entry.Property a) = one_number (codes "property ") a
