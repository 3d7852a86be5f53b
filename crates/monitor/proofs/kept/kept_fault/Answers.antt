-- `monitor::kept::kept_fault` meets its contract: the last time, then the numbers, then what the entries remember.
use Rattle.std.proofs.Common.{rules, sym, ◌∙◌}
use Rattle.monitor.specs.Keeping.{kept_fault}
use Rattle.monitor.proofs.kept.kept_fault.Goals as goal

pub returns-then-not-kept_fits : goal.returns-then-not-kept_fits
unfolding kept_fault
returns-then-not-kept_fits c = rw (sym c.kept_fits.ensures ∙ c.if-not-kept_fits.true)

pub returns-in_err-held_fault : goal.returns-in_err-held_fault
unfolding kept_fault
returns-in_err-held_fault c = rw (sym c.kept_fits.ensures ∙ c.if-not-kept_fits.false, sym c.in_err-held_fault.ensures) (search rules)

pub returns : goal.returns
unfolding kept_fault
returns c = rw (sym c.kept_fits.ensures ∙ c.if-not-kept_fits.false, sym c.in_ok-held_fault.ensures) c.cells_fault.ensures
