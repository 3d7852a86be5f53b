-- The gate rule of source document 003, section 3.5, and two closings of its gate.
use Rattle.std.specs.Prelude.{true, false, List, [], ◌∷◌, pos}
use Rattle.values.specs.declared.Truth.{Truth}
use Rattle.values.specs.declared.Number.{Number}
use Rattle.values.specs.Outcomes.{not-violated}
use Rattle.table.specs.declared.Table.{Table}
use Rattle.table.specs.declared.Entry.TheVariants.{ImportedCondition, Pair, Not, Implies, Less, ImportedEvent, Start, Either, When, Constant, Variable, Sum, Clock, Time, Update, Property}
use Rattle.step.specs.Steps.{Step}
use Rattle.history.specs.Marked.{Case, rules, at, is, happens}

-- imports: 0 the event OpenGate, 1 the event CloseGate, 2 the condition Gate_Down; variable 0 is lastClose
-- "CloseGate -> lastClose := time(CloseGate)" stands first;
-- "[ CloseGate when !Gate_Down, OpenGate || start(Gate_Down) ] => lastClose + 30 > currentTime" after it, in milliseconds
abbrev pub gate : Table
gate =
    rules (true ∷ true ∷ false ∷ []) (Number.Undefined ∷ [])
    (ImportedEvent 1
    ∷ Time 0
    ∷ Update 0 0 1
    ∷ ImportedCondition 2
    ∷ Not 3
    ∷ When 0 4
    ∷ ImportedEvent 0
    ∷ Start 3
    ∷ Either 6 7
    ∷ Pair 5 8
    ∷ Variable 0
    ∷ Constant (pos 30000)
    ∷ Sum 10 11
    ∷ Clock
    ∷ Less 13 12
    ∷ Implies 9 14
    ∷ Property 15
    ∷ [])

-- the gate is closed and comes down; it is opened, and closed again
abbrev pub two_closings : List Step
two_closings =
    at 1000 (happens 1 ∷ is 2 Truth.False ∷ [])
    ∷ at 5000 (is 2 Truth.True ∷ [])
    ∷ at 90000 (happens 0 ∷ is 2 Truth.False ∷ [])
    ∷ at 100000 (happens 1 ∷ [])
    ∷ []

-- the gate has only just been told to close: no time has elapsed
abbrev pub second_closing : Case
second_closing = record { table = gate; steps = two_closings; asked = 16; says = not-violated }
