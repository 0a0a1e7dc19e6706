-- The faults of a log, by their codes and places. A fault of its length has place 0.
-- Assumes nothing.
use Rattle.std.specs.Prelude.{ℕ}
use Rattle.logs.specs.declared.Fault.{Fault}
use Rattle.logs.specs.declared.Fault.TheVariants.{Length, Form, Turn, TooMany}

abbrev pub code_of : Fault → ℕ
code_of Length = 11
code_of (Form p) = 12
code_of (Turn p) = 13
code_of (TooMany p) = 14

abbrev pub place_of : Fault → ℕ
place_of Length = 0
place_of (Form p) = p
place_of (Turn p) = p
place_of (TooMany p) = p
