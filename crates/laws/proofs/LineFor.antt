-- The line that an accepted call is for: one of the four, one that BOOK lets pass, and open unless the call opens it.
-- Assumes nothing.
use Prim.Native.Nat.{ℕ, ◌<◌}
use mathlib.Core.Path.{◌≡◌, sym}
use mathlib.Core.Bool.{Bool, true, false}
use mathlib.Core.List.{List}
use native.Mathlib.Omega.{arith}
use lib.ListN.{length}
use Rattle.std.specs.Prelude.{Ok}
use Rattle.line.specs.Line.{is_open}
use Rattle.ground.specs.Refusal.{verdict}
use Rattle.ground.proofs.Picks.{clash}
use Rattle.ground.proofs.Verdicts.{passed}
use Rattle.packet.specs.Read.{head_at}
use Rattle.relay.specs.RelayTests.{relay_channel_tests}
use Rattle.relay.specs.Take.{take_call_tests}
use Rattle.relay.specs.HandOut.{hand_call_tests}
use Rattle.writing.specs.Write.{empty_tests}
use Rattle.writing.specs.Send.{send_tests}
use Rattle.book.specs.Book.{line_of}
use Rattle.book.specs.Shape.{BookShaped}
use Rattle.book.specs.declared.Book.{Book}
use Rattle.book.proofs.Facts.{book_ok}
use Rattle.book.proofs.OneOwner.{whose_at}
use Rattle.calls.specs.Call.{Call}
use Rattle.calls.specs.Call as call
use Rattle.calls.specs.Order.{line_for, packet_line, owner_line}
use Rattle.calls.specs.Stages.{tests, open_tests, close_tests, mode_tests, address_tests}
use Rattle.calls.proofs.FirstTests.{OnLine, line_passed, both_passed}
use Rattle.incoming.proofs.Passing.{address_owner, addressed}

-- a packet finds its line, which is open, by its identifier
pub pass_address : (b : Book) (s : List ℕ) → verdict (address_tests b s) ≡ Ok tt → is_open (line_of b (owner_line (packet_line b s))) ≡ true
pass_address b s e = (whose_at b (head_at s).identifier (owner_line (packet_line b s)) (address_owner b s e)).1

-- one of the four, and fits
pub pass_on : (c : Call) (b : Book) (n space : ℕ) → verdict (tests c b n space) ≡ Ok tt → BookShaped b → OnLine b (line_for c b)
unfolding tests line_for
pass_on (call.opening i s time) b n space e k = (line_passed b i (open_tests b i s) e).0
pass_on (call.closing i) b n space e k = (line_passed b i (close_tests (line_of b i) space) e).0
pass_on (call.mode i a) b n space e k = (line_passed b i (mode_tests (line_of b i) a) e).0
pass_on (call.taking i channel message) b n space e k = (both_passed b n i (take_call_tests (line_of b i) channel (length message)) e).0
pass_on (call.sending i channel rank) b n space e k = (both_passed b n i (send_tests (line_of b i) channel rank space) e).0
pass_on (call.empty i channel) b n space e k = (line_passed b i (empty_tests (line_of b i) channel space) e).0
pass_on (call.arrival s) b n space e k =
    let a = addressed b n s e in
    record { book = a.book; few = (book_ok b a.book).few; number = omega (arith, a.number, k.lines); line = a.fits }
pass_on (call.hand_out i channel) b n space e k = (both_passed b n i (hand_call_tests (line_of b i) channel space) e).0
pass_on (call.report i channel) b n space e k = (line_passed b i (relay_channel_tests (line_of b i) channel) e).0

pub line_number_lem : (c : Call) (b : Book) (store out : List ℕ) → verdict (tests c b (length store) (length out)) ≡ Ok tt → BookShaped b → line_for c b < 4
line_number_lem c b store out e k = (pass_on c b (length store) (length out) e k).number

-- and it is open, unless the call opens it
abbrev pub opens : Call → Bool
opens (call.opening i s time) = true
opens (call.closing i) = false
opens (call.mode i a) = false
opens (call.taking i channel message) = false
opens (call.sending i channel rank) = false
opens (call.empty i channel) = false
opens (call.arrival s) = false
opens (call.hand_out i channel) = false
opens (call.report i channel) = false

pub pass_open : (c : Call) (b : Book) (n space : ℕ) → verdict (tests c b n space) ≡ Ok tt → opens c ≡ false → is_open (line_of b (line_for c b)) ≡ true
unfolding tests line_for close_tests mode_tests relay_channel_tests take_call_tests send_tests empty_tests hand_call_tests
pass_open (call.opening i s time) b n space e o = clash (sym o)
pass_open (call.closing i) b n space e o = (passed (close_tests (line_of b i) space) (line_passed b i (close_tests (line_of b i) space) e).1).0
pass_open (call.mode i a) b n space e o = (passed (mode_tests (line_of b i) a) (line_passed b i (mode_tests (line_of b i) a) e).1).0
pass_open (call.taking i channel message) b n space e o =
    let ts = take_call_tests (line_of b i) channel (length message) in
    (passed ts (both_passed b n i ts e).2).0
pass_open (call.sending i channel rank) b n space e o =
    let ts = send_tests (line_of b i) channel rank space in
    (passed ts (both_passed b n i ts e).2).0
pass_open (call.empty i channel) b n space e o =
    let ts = empty_tests (line_of b i) channel space in
    (passed ts (line_passed b i ts e).1).0
pass_open (call.arrival s) b n space e o = (addressed b n s e).opened
pass_open (call.hand_out i channel) b n space e o =
    let ts = hand_call_tests (line_of b i) channel space in
    (passed ts (both_passed b n i ts e).2).0
pass_open (call.report i channel) b n space e o =
    let ts = relay_channel_tests (line_of b i) channel in
    (passed ts (line_passed b i ts e).1).0
