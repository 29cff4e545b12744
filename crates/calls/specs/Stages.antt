-- How the stages that the crates below prove make up the lists of `Order`: what every call asks first, and after it what its line and
-- its channel ask. proofs/OrderStages.antt proves of each call that its stages put together are its list.
-- Assumes nothing.
use Rattle.std.specs.Prelude.{ℕ, not, List, [], ◌∷◌, ◌++◌, leb, length, is_some}
use Rattle.ground.specs.Refusal.{Test, must}
use Rattle.ground.specs.declared.Refusal.TheVariants.{NOLINE, ROOM, TAKEN, RANGE, BOOK}
use Rattle.slip.specs.Slip.{slip_length}
use Rattle.packet.specs.Read.{head_tests}
use Rattle.mode.specs.Acts.{Act, act_tests}
use Rattle.line.specs.Line.{is_open}
use Rattle.line.specs.Fit.{settings_fit}
use Rattle.line.specs.declared.Line.{Line}
use Rattle.line.specs.declared.Settings.{Settings}
use Rattle.relay.specs.RelayTests.{relay_channel_tests}
use Rattle.relay.specs.Take.{take_call_tests}
use Rattle.relay.specs.HandOut.{hand_call_tests}
use Rattle.writing.specs.Write.{empty_tests}
use Rattle.writing.specs.Send.{send_tests}
use Rattle.arriving.specs.Arrive.{arrive_tests}
use Rattle.book.specs.Book.{line_of, book_fits, taken}
use Rattle.book.specs.Parts.{store_length}
use Rattle.book.specs.declared.Book.{Book}
use Rattle.calls.specs.Call.{Call}
use Rattle.calls.specs.Call as call
use Rattle.calls.specs.Order.{packet_line, owner_line}

-- the first tests of the calls
abbrev pub fit_book : Book → Test
fit_book b = must (book_fits b) BOOK

abbrev pub roomy : Book → ℕ → Test
roomy b store = must (leb (store_length b) store) ROOM

abbrev pub line_number : ℕ → Test
line_number i = must (leb i 3) RANGE

abbrev pub must_be_open : Line → Test
must_be_open l = must (is_open l) NOLINE

-- opening, after them
unfoldable pub open_tests : Book → ℕ → Settings → List Test
open_tests b i s = must (not (is_open (line_of b i))) TAKEN ∷ must (settings_fit s) RANGE ∷ must (not (taken b s.identifier)) TAKEN ∷ []

-- closing
unfoldable pub close_tests : Line → ℕ → List Test
close_tests l space = must_be_open l ∷ must (leb slip_length space) ROOM ∷ []

-- the mode calls
unfoldable pub mode_tests : Line → Act → List Test
mode_tests l a = must_be_open l ∷ act_tests l.modes a

-- an arrival: the packet's address, and then the line that it is for
unfoldable pub address_tests : Book → List ℕ → List Test
address_tests b s = head_tests s ++ (must (is_some (packet_line b s)) NOLINE ∷ [])

unfoldable pub arrival_tests : Book → List ℕ → List Test
arrival_tests b s = address_tests b s ++ arrive_tests (line_of b (owner_line (packet_line b s))) s

-- every call's tests, put together
unfoldable pub tests : Call → Book → ℕ → ℕ → List Test
tests (call.opening i s time) b store space = fit_book b ∷ line_number i ∷ open_tests b i s
tests (call.closing i) b store space = fit_book b ∷ line_number i ∷ close_tests (line_of b i) space
tests (call.mode i a) b store space = fit_book b ∷ line_number i ∷ mode_tests (line_of b i) a
tests (call.taking i channel message) b store space = fit_book b ∷ roomy b store ∷ line_number i ∷ take_call_tests (line_of b i) channel (length message)
tests (call.sending i channel rank) b store space = fit_book b ∷ roomy b store ∷ line_number i ∷ send_tests (line_of b i) channel rank space
tests (call.empty i channel) b store space = fit_book b ∷ line_number i ∷ empty_tests (line_of b i) channel space
tests (call.arrival s) b store space = fit_book b ∷ roomy b store ∷ arrival_tests b s
tests (call.hand_out i channel) b store space = fit_book b ∷ roomy b store ∷ line_number i ∷ hand_call_tests (line_of b i) channel space
tests (call.report i channel) b store space = fit_book b ∷ line_number i ∷ relay_channel_tests (line_of b i) channel
