-- Each call's list in `Order` is what the stages of the crates below come to, put together: so what they prove of their stages holds of
-- the paragraph 'Order'.
-- Assumes nothing.
use Prim.Native.Nat.{ℕ}
use mathlib.Core.Path.{◌≡◌, refl, ap}
use mathlib.Core.List.{List, ◌∷◌}
use lib.ListN.{length}
use Rattle.ground.specs.Refusal.{verdict}
use Rattle.mode.specs.Acts as act
use Rattle.line.specs.declared.Settings.{Settings}
use Rattle.relay.specs.RelayTests.{relay_channel_tests}
use Rattle.relay.specs.Take.{take_call_tests}
use Rattle.relay.specs.HandOut.{hand_call_tests}
use Rattle.writing.specs.Write.{empty_tests}
use Rattle.writing.specs.Send.{send_tests}
use Rattle.arriving.specs.Arrive.{arrive_tests}
use Rattle.book.specs.Book.{line_of}
use Rattle.book.specs.declared.Book.{Book}
use Rattle.calls.specs.Call.{Call}
use Rattle.calls.specs.Call as call
use Rattle.calls.specs.Order.{open_order, close_order, hear_order, ask_order, tick_order, take_order, send_order, hand_out_order, empty_order, report_order, arrive_order, order}
use Rattle.calls.specs.Stages.{fit_book, roomy, line_number, open_tests, close_tests, mode_tests, address_tests, arrival_tests, tests}

pub open_stages : (b : Book) (i : ℕ) (s : Settings) → open_order b i s ≡ (fit_book b ∷ line_number i ∷ open_tests b i s)
unfolding open_order open_tests
open_stages b i s = refl

pub close_stages : (b : Book) (i space : ℕ) → close_order b i space ≡ (fit_book b ∷ line_number i ∷ close_tests (line_of b i) space)
unfolding close_order close_tests
close_stages b i space = refl

pub hear_stages : (b : Book) (i mode time : ℕ) → hear_order b i mode time ≡ (fit_book b ∷ line_number i ∷ mode_tests (line_of b i) (act.hear mode time))
unfolding hear_order mode_tests
hear_stages b i mode time = refl

pub ask_stages : (b : Book) (i mode time : ℕ) → ask_order b i mode time ≡ (fit_book b ∷ line_number i ∷ mode_tests (line_of b i) (act.ask mode time))
unfolding ask_order mode_tests
ask_stages b i mode time = refl

pub tick_stages : (b : Book) (i time : ℕ) → tick_order b i time ≡ (fit_book b ∷ line_number i ∷ mode_tests (line_of b i) (act.tick time))
unfolding tick_order mode_tests
tick_stages b i time = refl

pub take_stages : (b : Book) (store i channel n : ℕ) → take_order b store i channel n ≡ (fit_book b ∷ roomy b store ∷ line_number i ∷ take_call_tests (line_of b i) channel n)
unfolding take_order take_call_tests relay_channel_tests
take_stages b store i channel n = refl

pub send_stages : (b : Book) (store i channel rank space : ℕ) → send_order b store i channel rank space ≡ (fit_book b ∷ roomy b store ∷ line_number i ∷ send_tests (line_of b i) channel rank space)
unfolding send_order send_tests relay_channel_tests
send_stages b store i channel rank space = refl

pub hand_stages : (b : Book) (store i channel space : ℕ) → hand_out_order b store i channel space ≡ (fit_book b ∷ roomy b store ∷ line_number i ∷ hand_call_tests (line_of b i) channel space)
unfolding hand_out_order hand_call_tests relay_channel_tests
hand_stages b store i channel space = refl

pub empty_stages : (b : Book) (i channel space : ℕ) → empty_order b i channel space ≡ (fit_book b ∷ line_number i ∷ empty_tests (line_of b i) channel space)
unfolding empty_order empty_tests
empty_stages b i channel space = refl

pub report_stages : (b : Book) (i channel : ℕ) → report_order b i channel ≡ (fit_book b ∷ line_number i ∷ relay_channel_tests (line_of b i) channel)
unfolding report_order relay_channel_tests
report_stages b i channel = refl

pub arrive_stages : (b : Book) (store : ℕ) (s : List ℕ) → arrive_order b store s ≡ (fit_book b ∷ roomy b store ∷ arrival_tests b s)
unfolding arrive_order arrival_tests address_tests arrive_tests
arrive_stages b store s = refl

-- THE LAW: the paragraph 'Order' and the parts put together are one
pub order_stages : (c : Call) (b : Book) (store space : ℕ) → order c b store space ≡ tests c b store space
unfolding order tests
order_stages (call.opening i s time) b store space = open_stages b i s
order_stages (call.closing i) b store space = close_stages b i space
order_stages (call.mode i (act.hear mode time)) b store space = hear_stages b i mode time
order_stages (call.mode i (act.ask mode time)) b store space = ask_stages b i mode time
order_stages (call.mode i (act.tick time)) b store space = tick_stages b i time
order_stages (call.taking i channel message) b store space = take_stages b store i channel (length message)
order_stages (call.sending i channel rank) b store space = send_stages b store i channel rank space
order_stages (call.empty i channel) b store space = empty_stages b i channel space
order_stages (call.arrival s) b store space = arrive_stages b store s
order_stages (call.hand_out i channel) b store space = hand_stages b store i channel space
order_stages (call.report i channel) b store space = report_stages b i channel

pub in_stages : (c : Call) (b : Book) (store space : ℕ) → verdict (order c b store space) ≡ verdict (tests c b store space)
in_stages c b store space = ap verdict (order_stages c b store space)
