-- What the contracts say of a request that is read: the number of each kind, and the eight bytes' request that a well-formed one is. What is no such request is malformed.
-- Assumes nothing.
use Rattle.std.specs.Prelude.{◌≡◌, ℕ, Result, MatchResult}
use Rattle.history.specs.Replies as History
use Rattle.slots.specs.declared.Kind.{Kind}
use Rattle.slots.specs.declared.Kind.TheVariants.{Open, Read, Write, End, Abandon, Publish, Add}
use Rattle.slots.specs.declared.Refusal.{Refusal}
use Rattle.slots.specs.declared.Refusal.TheVariants.{Malformed}
use Rattle.slots.specs.declared.Request.{Request}

abbrev pub kind_number : Kind → ℕ
kind_number Open = 1
kind_number Read = 2
kind_number Write = 3
kind_number End = 4
kind_number Abandon = 5
kind_number Publish = 6
kind_number Add = 7

-- the kind of that number, or Malformed where no kind has it
abbrev pub NamesKind : ℕ → Result Kind Refusal → Type 0
NamesKind n outcome = MatchResult outcome (λ k. kind_number k ≡ n) (λ e. (e ≡ Malformed) × ((k : Kind) → kind_number k ≡ n → ⊥))

-- the four fields of a request
abbrev pub fields_of : Request → History.Request
fields_of r = record { kind = kind_number r.kind; byte1 = 0; cell = r.cell; job = r.job.0 }

-- the request of those fields, or Malformed where no request has them
abbrev pub Reads : History.Request → Result Request Refusal → Type 0
Reads q outcome = MatchResult outcome (λ r. fields_of r ≡ q) (λ e. (e ≡ Malformed) × ((r : Request) → fields_of r ≡ q → ⊥))
