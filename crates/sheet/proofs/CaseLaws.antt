-- The tried logs, joined: the sheet's answer to every row of the table, and what then stands in the list.
-- Assumes nothing.
use Rattle.std.specs.Prelude.{◌≡◌}
use Rattle.graph.specs.Lists.{◌∈◌}
use Rattle.verdicts.specs.Cases.{ListCase}
use Rattle.sheet.specs.Sheet.{list_sheet}
use Rattle.sheet.specs.Cases.{◌and◌, sheet_table, order_rows_hold, refused_rows_hold, rest_rows_hold}

-- the answer to every row is the one expected, and so is what then stands in the list
pub sheet_cases : (c : ListCase) → c ∈ sheet_table → list_sheet c.bytes c.lent ≡ c.expected
sheet_cases = rest_rows_hold and order_rows_hold and refused_rows_hold
