-- Conditions: the three-valued operators, as table 4.2 of source document 000 has them.
use Rattle.std.specs.Prelude.{Bool, true, false}
use Rattle.values.specs.declared.Truth.{Truth}
use Rattle.values.specs.declared.Truth.TheVariants.{Undefined, False, True}

-- "Not ... [is that] of table 4.2": true if the condition is false, undefined if it is undefined, false if it is true
abbrev pub not_t : Truth → Truth
not_t Undefined = Undefined
not_t False = True
not_t True = False

-- "or ... [is that] of table 4.2": true if one is true, false if both are false, else undefined
abbrev pub or_t : Truth → Truth → Truth
or_t True b = True
or_t False b = b
or_t Undefined True = True
or_t Undefined False = Undefined
or_t Undefined Undefined = Undefined

-- "defined [is that] of table 4.2": true unless the condition is undefined; never undefined itself
abbrev pub defined_t : Truth → Truth
defined_t Undefined = False
defined_t False = True
defined_t True = True

-- "a and b" is not (not a or not b)
abbrev pub and_t : Truth → Truth → Truth
and_t a b = not_t (or_t (not_t a) (not_t b))

-- "a implies b" is (not a) or b
abbrev pub implies_t : Truth → Truth → Truth
implies_t a b = or_t (not_t a) b

-- what is known to hold or known not to: never undefined
abbrev pub truth_of : Bool → Truth
truth_of true = True
truth_of false = False

-- "where the condition is true"
abbrev pub is_true : Truth → Bool
is_true Undefined = false
is_true False = false
is_true True = true

-- "where it is false": undefined is not false
abbrev pub is_false : Truth → Bool
is_false Undefined = false
is_false False = true
is_false True = false
