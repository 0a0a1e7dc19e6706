-- `lists::lead_on` meets its contract: it is in the set, or no job of the set precedes it, or one does and it is put. Assumes nothing.
use mathlib.Core.Path.{refl, sym, ap, ◌∙◌}
use mathlib.Core.Bool.{not}
use Rattle.lists.specs.Sheets.{stays_out}
use Rattle.lists.proofs.LeadLaws.{led_none, led_some}
use Rattle.lists.proofs.lead_on.Goals as goal

pub returns-then-has_mark : goal.returns-then-has_mark
returns-then-has_mark c = stays_out refl (λ i q m r. sym c.has_mark.ensures ∙ c.if-has_mark.true)

pub returns-then-is_none : goal.returns-then-is_none
returns-then-is_none c = led_none c.common_mark.result (c.is_none.ensures ∙ ap not c.if-is_none.true) c.common_mark.ensures

pub returns : goal.returns
returns c = led_some c.common_mark.result (c.is_none.ensures ∙ ap not c.if-is_none.false) (sym c.has_mark.ensures ∙ c.if-has_mark.false) c.common_mark.ensures c.put_mark.ensures.1
