-- Values as text.
use Rattle.std.specs.Prelude.{List, ℕ, codes}
use Rattle.std.specs.Fmt.{signed_decimal}
use Rattle.values.specs.declared.Truth.{Truth}
use Rattle.values.specs.declared.Number.{Number}

-- "A condition is true, false or undefined."
abbrev pub truth_text : Truth → List ℕ
truth_text Truth.Undefined = codes "undefined"
truth_text Truth.False = codes "false"
truth_text Truth.True = codes "true"

-- "A number is undefined or a whole number"
abbrev pub number_text : Number → List ℕ
number_text Number.Undefined = codes "undefined"
number_text (Number.Whole z) = signed_decimal z
