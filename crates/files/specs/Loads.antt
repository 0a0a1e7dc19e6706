-- What the contracts say: a count of bytes is within a bound.
-- Assumes nothing.
use Rattle.std.specs.Prelude.{◌≡◌, ℕ, ◌≤◌, Result, Ok, Err}
use Rattle.files.specs.declared.Unreadable.{Unreadable}

-- so many bytes came at most, if any could be read
abbrev pub Within : Result ℕ Unreadable → ℕ → Type 0
Within (Ok n) most = n ≤ most
Within (Err e) most = Unit {0}

pub bytes_within : {r : Result ℕ Unreadable} {n : ℕ} (most : ℕ) → r ≡ Ok n → Within r most → n ≤ most
bytes_within most e w = rw e at w
