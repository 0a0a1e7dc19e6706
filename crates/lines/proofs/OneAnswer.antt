-- Each contract of the crate's public functions leaves one result: two results that meet it are equal, and so is every lent array at exit. A theorem for each
-- function, named after it, of the contract itself: `Post` is what Rattle reads of the function's `ensures`.
-- Assumes nothing.
use mathlib.Core.Path.{◌≡◌, sym, ap, ◌∙◌}
use contract.Lifetimes.{Lfts}
use borrow.Fn.Kinds.{Dens, res_t, ended_of}
use denote.RattleType.{RattleType}
use denote.Param.Laws.{Laws, IsCopy}
use denote.Triple.Clauses.{AtExit}
use mir.Syntax.{Dict}
use Rattle.std.specs.declared.clone.Clone
use Rattle.slots.specs.declared.Replied
use Rattle.lines.specs.declared.Profile
use Rattle.held.specs.Held.{Held}
use Rattle.arbiter.specs.declared.State.{State}
use Rattle.arbiter.specs.Replay.{held_of}
use Rattle.lines.specs.LineLaws.{starts_one, leaves_one}
use Rattle.lines.proofs.put_reply.Kinds as reply_kinds
use Rattle.lines.proofs.put_reply.Reads as reply_reads
use Rattle.lines.proofs.header.Kinds as header_kinds
use Rattle.lines.proofs.header.Reads as header_reads
use Rattle.lines.proofs.tail.Kinds as tail_kinds
use Rattle.lines.proofs.tail.Reads as tail_reads
use Rattle.lines.proofs.word_line.Kinds as word_kinds
use Rattle.lines.proofs.word_line.Reads as word_reads
use Rattle.lines.proofs.lines_by.Kinds as by_kinds
use Rattle.lines.proofs.lines_by.Reads as by_reads
use Rattle.lines.proofs.lines.Kinds as lines_kinds
use Rattle.lines.proofs.lines.Reads as lines_reads

-- the line of a reply: the place past it, and the output at exit, its fourth parameter
pub one_put_reply : (κs : Lfts 1) (a : Dens κs reply_kinds.ps) (x y : (res_t reply_kinds.r κs).Denot) (s t : AtExit (ended_of 1 reply_kinds.ps reply_kinds.r) κs)
    → reply_reads.Post κs a x s
    → reply_reads.Post κs a y t
    → (x ≡ y) × (s.1.1.1.0.now ≡ t.1.1.1.0.now)
one_put_reply κs a x y s t p q = (p.0.past ∙ sym q.0.past, p.0.content ∙ sym q.0.content)

-- the header: the count, and the output at exit
pub one_header : (κs : Lfts 1) (a : Dens κs header_kinds.ps) (x y : (res_t header_kinds.r κs).Denot) (s t : AtExit (ended_of 1 header_kinds.ps header_kinds.r) κs)
    → header_reads.Post κs a x s
    → header_reads.Post κs a y t
    → (x ≡ y) × (s.0.now ≡ t.0.now)
one_header κs a x y s t p q = let one = starts_one p q in (one.1, one.0)

-- the last line: the count, and the output at exit, its second parameter
pub one_tail : (κs : Lfts 1) (a : Dens κs tail_kinds.ps) (x y : (res_t tail_kinds.r κs).Denot) (s t : AtExit (ended_of 1 tail_kinds.ps tail_kinds.r) κs)
    → tail_reads.Post κs a x s
    → tail_reads.Post κs a y t
    → (x ≡ y) × (s.1.0.now ≡ t.1.0.now)
one_tail κs a x y s t p q = let one = starts_one p q in (one.1, one.0)

-- a word and a number: the count, and the output at exit, its third parameter
pub one_word_line : (κs : Lfts 2) (a : Dens κs word_kinds.ps) (x y : (res_t word_kinds.r κs).Denot) (s t : AtExit (ended_of 2 word_kinds.ps word_kinds.r) κs)
    → word_reads.Post κs a x s
    → word_reads.Post κs a y t
    → (x ≡ y) × (s.1.1.0.now ≡ t.1.1.0.now)
one_word_line κs a x y s t p q = let one = starts_one p q in (one.1, one.0)

-- a state is the state that its parts make
of_held : Held → State
of_held h = record { next = h.next; free = h.free; numbers = h.numbers; leads = h.leads; sets = h.sets; ports = h.ports }

pub one_state : (r s : State) → held_of r ≡ held_of s → r ≡ s
unfolding of_held
one_state r s e = ap of_held e

-- the first profile's lines: what it returns, and at exit the state, its second parameter, and the output, its fourth
pub one_lines : (κs : Lfts 3) (a : Dens κs lines_kinds.ps) (x y : (res_t lines_kinds.r κs).Denot) (s t : AtExit (ended_of 3 lines_kinds.ps lines_kinds.r) κs)
    → lines_reads.Post κs a x s
    → lines_reads.Post κs a y t
    → (x ≡ y) × (s.1.0.now ≡ t.1.0.now) × (s.1.1.1.0.now ≡ t.1.1.1.0.now)
one_lines κs a x y s t p q = let one = leaves_one p q in (one.0, one_state s.1.0.now t.1.0.now one.1, one.2)

-- and those by any profile: the same parts
pub one_lines_by : (P A : RattleType) (L : Laws P) (M : Laws A) (C : IsCopy A) (g : Profile.Ghosts P.Denot A.Denot) (d : Dict) (r : Replied.Ghosts A.Denot) (e : Dict) (h : Clone.Ghosts A.Denot) (f : Dict)
    (κs : Lfts 5) (a : Dens κs (by_kinds.ps P A L M C)) (x y : (res_t (by_kinds.r P A L M C) κs).Denot) (s t : AtExit (ended_of 5 (by_kinds.ps P A L M C) (by_kinds.r P A L M C)) κs)
    → by_reads.Post P A L M C g d r e h f κs a x s
    → by_reads.Post P A L M C g d r e h f κs a y t
    → (x ≡ y) × (s.1.0.now ≡ t.1.0.now) × (s.1.1.1.0.now ≡ t.1.1.1.0.now)
one_lines_by P A L M C g d r e h f κs a x y s t p q = let one = leaves_one p q in (one.0, one_state s.1.0.now t.1.0.now one.1, one.2)
