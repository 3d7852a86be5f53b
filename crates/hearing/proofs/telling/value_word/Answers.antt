-- `hearing::telling::value_word` meets its contract: the word of a number from 48 bits, below 2^47 and from there on.
use Rattle.std.proofs.Common.{arith}
use Rattle.hearing.specs.Nexts.{value_low, value_high}
use Rattle.hearing.proofs.telling.value_word.Goals as goal

pub returns-then-v-lt140737488355328 : goal.returns-then-v-lt140737488355328
returns-then-v-lt140737488355328 c = value_low _ _ (omega arith) (omega arith)

pub returns-else-v-lt140737488355328 : goal.returns-else-v-lt140737488355328
returns-else-v-lt140737488355328 c = value_high _ _ (omega arith) (omega arith) (omega arith)
