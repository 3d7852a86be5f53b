-- "The team proves that two replies allowed by the statement are equal": each public function's own contract gives its reply.
use Rattle.std.specs.Prelude.{List, ℕ}
use Rattle.std.proofs.Common.{ap₂}
use denote.Param.Laws.{Laws, IsCopy}
use denote.RattleType.{RattleType}
use mir.Syntax.{Dict}
use Rattle.std.specs.declared.clone.Clone as cloning
use Rattle.replies.specs.Replies.{Determined, by_value, DeterminedWith, by_final, Answers}
use Rattle.casebook.specs.Cases.{part_of, rest_of}
use Rattle.casebook.proofs.numbers.byte.Reads as byte
use Rattle.casebook.proofs.numbers.word.Reads as word
use Rattle.casebook.proofs.numbers.number.Reads as number
use Rattle.casebook.proofs.parts.split_part.Reads as split_part
use Rattle.casebook.proofs.slots.set.Reads as set

pub numbers : Determined byte.Post × Determined word.Post × Determined number.Post
numbers = (by_value, by_value, by_value)

-- the two parts, by what they hold
pub parts : Answers {T = List ℕ × List ℕ} split_part.Post (λ κs r s. (r.0.now, r.1.now)) (λ κs a. (part_of a.0.now, rest_of a.0.now))
parts = record { is = λ κs a r s p. ap₂ (λ (x y : List ℕ). (x, y)) p.0 p.1 }

-- slots of any type
module _ (T : RattleType) (laws : Laws T) (copied : IsCopy T) (clone : cloning.Ghosts T.Denot) (runs : Dict) where
  pub slots : DeterminedWith (set.Post T laws copied clone runs) (λ κs s. s.0.now)
  slots = by_final
