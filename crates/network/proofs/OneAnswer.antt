-- Each contract of the crate's public functions leaves one result: two results that meet it are equal, and so is the network at exit. A theorem for each function, named after it, of the
-- contract itself: `Post` is what Rattle reads of the function's `ensures`.
-- Assumes nothing.
use mathlib.Core.Path.{◌≡◌, sym, ◌∙◌}
use contract.Lifetimes.{Lfts}
use borrow.Fn.Kinds.{Dens, res_t, ended_of}
use denote.Triple.Clauses.{AtExit}
use Rattle.cells.proofs.OneAnswer.{One}
use Rattle.slots.proofs.OneAnswer.{one_answer}
use Rattle.network.specs.Nets.{net_of}
use Rattle.network.proofs.station_of.Kinds as station_kinds
use Rattle.network.proofs.station_of.Reads as station_reads
use Rattle.network.proofs.Network.ask.Kinds as ask_kinds
use Rattle.network.proofs.Network.ask.Reads as ask_reads

pub one_station_of : One 0 station_kinds.ps station_kinds.r station_reads.Post
one_station_of κs a x y s t p q = p ∙ sym q

-- what it answers, and the network at exit: the next number, the free slots, the numbers and the ports, and of each station its leads and its sets
pub one_ask : (κs : Lfts 1) (a : Dens κs ask_kinds.ps) (x y : (res_t ask_kinds.r κs).Denot) (s t : AtExit (ended_of 1 ask_kinds.ps ask_kinds.r) κs)
    → ask_reads.Post κs a x s
    → ask_reads.Post κs a y t
    → (x ≡ y) × (net_of s.0.now ≡ net_of t.0.now)
one_ask κs a x y s t p q = (one_answer x y p.answered q.answered, p.left ∙ sym q.left)
