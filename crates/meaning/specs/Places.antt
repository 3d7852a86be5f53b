-- Where an entry looks: which entries, which import, which variable.
use Rattle.std.specs.Prelude.{List, [], ◌∷◌, ℕ, get_or}
use Rattle.table.specs.declared.Entry.{Entry}
use Rattle.table.specs.Kinds.{Operand, entry, imported, variable, constant, operands_of}
use Rattle.meaning.specs.declared.Places.{Places}

-- the entries among operands, in order
abbrev pub entries_in : List Operand → List ℕ
entries_in [] = []
entries_in (entry s a ∷ rest) = a ∷ entries_in rest
entries_in (imported s i ∷ rest) = entries_in rest
entries_in (variable x ∷ rest) = entries_in rest
entries_in (constant z ∷ rest) = entries_in rest

-- the imports among them
abbrev pub imports_in : List Operand → List ℕ
imports_in [] = []
imports_in (entry s a ∷ rest) = imports_in rest
imports_in (imported s i ∷ rest) = i ∷ imports_in rest
imports_in (variable x ∷ rest) = imports_in rest
imports_in (constant z ∷ rest) = imports_in rest

-- and the variables
abbrev pub variables_in : List Operand → List ℕ
variables_in [] = []
variables_in (entry s a ∷ rest) = variables_in rest
variables_in (imported s i ∷ rest) = variables_in rest
variables_in (variable x ∷ rest) = x ∷ variables_in rest
variables_in (constant z ∷ rest) = variables_in rest

-- the first operand entry, the second, the import and the variable; 0 where there is none
unfoldable pub places_of : Entry → Places
places_of e =
    let operands = operands_of e in
    record {
      first = get_or (entries_in operands) 0 0;
      second = get_or (entries_in operands) 1 0;
      imported = get_or (imports_in operands) 0 0;
      variable = get_or (variables_in operands) 0 0;
    }
