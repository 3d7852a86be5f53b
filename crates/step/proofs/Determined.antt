-- "The team proves that two replies allowed by the statement are equal": each public function's own contract gives its reply.
use Rattle.std.specs.Prelude.{[], refl}
use Rattle.std.proofs.Common.{sym, ◌∙◌}
use denote.Param.Laws.{Laws, IsCopy}
use denote.RattleType.{RattleType}
use mir.Syntax.{Dict}
use Rattle.std.specs.declared.clone.Clone as cloning
use Rattle.replies.specs.Replies.{Determined, by_value}
use Rattle.table.specs.declared.Table.{Table}
use Rattle.step.specs.declared.telling.Telling as forms
use Rattle.step.proofs.closing.close.Reads as close
use Rattle.step.proofs.reading.read.Reads as read
use Rattle.step.proofs.report.import.Reads as import
use Rattle.step.proofs.report.report_for.Reads as report_for
use Rattle.step.proofs.telling.ToldTelling.condition.Reads as condition
use Rattle.step.proofs.telling.ToldTelling.event.Reads as event
use Rattle.step.proofs.telling.ToldTelling.valued.Reads as valued

pub reading : Determined read.Post
reading = by_value

pub closing : Determined close.Post
closing = by_value

-- a table of which only the number of imports counts
pub importing : Determined import.Post
importing =
    record {
      same = λ κs a r₁ r₂ s₁ s₂ p q.
          let t : Table = record { n = 0; q = a.1.1.0; v = 0; events = []; variables = []; entries = [] } in
          p t refl ∙ sym (q t refl);
    }

-- what is told, as it is
pub tellings : Determined condition.Post × Determined event.Post × Determined valued.Post
tellings = (by_value, by_value, by_value)

-- in each form in which a report is told
module _ (T : RattleType) (laws : Laws T) (copied : IsCopy T) (form : forms.Ghosts T.Denot) (run : Dict) (clone : cloning.Ghosts T.Denot) (runs : Dict) where
  pub telling : Determined (report_for.Post T laws copied form run clone runs)
  telling = by_value
