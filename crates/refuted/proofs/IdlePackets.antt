-- The idle build that gives a constant packet does not meet demand 2, and a count made up at will does not meet the report's rule: a line or two,
-- computed, show it.
-- Assumes nothing.
use Prim.Native.Nat.{ℕ, ◌≤◌, ◌<◌}
use mathlib.Core.Path.{◌≡◌, refl, sym, ap, ◌∙◌}
use mathlib.Core.Bool.{true}
use mathlib.Core.List.{List, [], ◌∷◌}
use native.Mathlib.Omega.{arith}
use lib.Dec.{lit≤, lit<}
use lib.ListN.{length, drop, replicate, get_or}
use lib.Seq.{take-append_seam}
use Rattle.ground.specs.Answer.{Answer}
use Rattle.ground.specs.Every.{every}
use Rattle.packet.specs.Read.{head_at}
use Rattle.packet.specs.declared.Head.{Head}
use Rattle.places.specs.Places.{mask_of, set_of}
use Rattle.sending.specs.Sending.{took_one, sending_fits}
use Rattle.receiving.specs.Receiving.{receiving_fits}
use Rattle.channel.specs.Sizes as sizes
use Rattle.owed.specs.Owed.{member, no_twice, all_spans, owed_fits}
use Rattle.mode.specs.Fit.{modes_fit}
use Rattle.mode.specs.Given.{modem}
use Rattle.mode.specs.Moved.{channels_for, timed, moved}
use Rattle.mode.specs.Request.{ask_step}
use Rattle.mode.specs.Acts.{ask}
use Rattle.line.specs.Line.{is_open}
use Rattle.line.specs.Fit.{line_fits}
use Rattle.line.specs.Mode.{stepped_to}
use Rattle.line.specs.declared.Settings.{Settings}
use Rattle.book.specs.Parts.{part_start, store_length, store_octets}
use Rattle.book.proofs.Parts.{store_length_lem}
use Rattle.book.specs.Resting.{all_span}
use Rattle.book.specs.Book.{fresh_book, open_in, lines_fit, book_fits}
use Rattle.calls.specs.Call.{Call}
use Rattle.calls.specs.Call as call
use Rattle.calls.specs.Order.{open_order, ask_order, take_order, order, line_for}
use Rattle.calls.specs.Result.{CallResult, result_of, accepted_result, effect}
use Rattle.laws.proofs.Identifiers.{fresh_passes}
use Rattle.laws.proofs.Keeps.{Passes, every_call_keeps}
use Rattle.promise.specs.Run.{Gateway, fresh_with, accepts, does, given, line_at}
use Rattle.promise.specs.Build.{Build}
use Rattle.promise.specs.Demand2.{Ready, Demand2}
use Rattle.promise.specs.ReportRule.{held_from, Reports}
use Rattle.refuted.specs.Idle.{constant_packet, made_up}

-- a store of 42,240 octets, and a line with an identifier
abbrev pub zeros : List ℕ
zeros = replicate store_octets 0

abbrev pub named : ℕ → Settings
named identifier = record { identifier = identifier; kind = 98; vbd = true; relay = true }

-- what calls leave of a gateway, each lent the store that the one before it left, and no output
abbrev pub called : Gateway → List Call → Gateway
called g [] = g
called g (c ∷ cs) = let d = result_of c g.book g.store [] in called (record { book = d.book; store = d.store }) cs

called_passes : (cs : List Call) (g : Gateway) → Passes g.book → Passes (called g cs).book
called_passes [] g k = k
called_passes (c ∷ cs) g k =
    let d = result_of c g.book g.store [] in
    called_passes cs (record { book = d.book; store = d.store }) (every_call_keeps c g.book g.store [] k.0 k.1)

-- of a fresh one
abbrev pub made : List Call → Gateway
made = called (fresh_with zeros)

pub made_passes : (cs : List Call) → Passes (made cs).book
made_passes cs = called_passes cs (fresh_with zeros) fresh_passes

-- it is long enough
pub zeros_long : store_length fresh_book ≤ length zeros
zeros_long = let e : store_octets ≤ length zeros = lit≤ tt in omega (arith, store_length_lem fresh_book)

pub ready : (cs : List Call) (i : ℕ) → i < 4 → is_open (line_at (made cs) i) ≡ true → store_octets ≤ length (made cs).store → Ready (made cs) i
ready cs i small e l =
    let k = made_passes cs in
    record { fits = k.0; shaped = k.1; long = omega (arith, store_length_lem (made cs).book); small = small; opened = e }

-- line 0 is opened, and a request brings it into modem relay
abbrev calls : ℕ → List Call
calls identifier = call.opening 0 (named identifier) 0 ∷ call.mode 0 (ask modem 0) ∷ []

abbrev pub there : ℕ → Gateway
there identifier = made (calls identifier)

-- the packets of two lines do not say the same: no build gives one packet s wherever it writes one
pub constant_packets_fail : (b : Build) (s : List ℕ) → ((g : Gateway) (out : List ℕ) → accepts (does b.does g (call.empty 0 0) out) ≡ true → given (does b.does g (call.empty 0 0) out) ≡ s) → Demand2 b → ⊥
unfolding result_of accepted_result effect part_start order line_for open_order ask_order book_fits lines_fit all_span open_in line_fits member no_twice all_spans owed_fits modes_fit sending_fits receiving_fits mask_of set_of sizes.sizes_fit every ask_step moved timed channels_for stepped_to
constant_packets_fail b s same d =
    let one = d.empty_back (there 5) 0 (ready (calls 5) 0 (lit< tt) refl (lit≤ tt)) refl 0 (lit≤ tt) (replicate 12 0) (lit≤ tt) in
    let other = d.empty_back (there 6) 0 (ready (calls 6) 0 (lit< tt) refl (lit≤ tt)) refl 0 (lit≤ tt) (replicate 12 0) (lit≤ tt) in
    let n : ◌≡◌ {A = ℕ} 5 6 = ap (λ (h : Head). h.identifier) (sym one.1.head_back ∙ ap head_at (same (there 5) (replicate 12 0) one.0 ∙ sym (same (there 6) (replicate 12 0) other.0)) ∙ other.1.head_back) in
    omega (arith, n)

pub constant_packet_fails : (s : List ℕ) → Demand2 (constant_packet s) → ⊥
constant_packet_fails s = constant_packets_fail (constant_packet s) s (λ g out e. take-append_seam s (drop (length s) out))

-- of no message and of one the report says not the same
pub made_up_fails : (n : ℕ) → Reports (made_up n) → ⊥
unfolding result_of accepted_result effect order line_for open_order ask_order book_fits lines_fit all_span open_in line_fits member no_twice all_spans owed_fits modes_fit sending_fits receiving_fits mask_of set_of sizes.sizes_fit every ask_step moved timed channels_for stepped_to take_order took_one part_start held_from
made_up_fails n d =
    let cs : List Call = call.opening 0 (named 5) 0 ∷ call.mode 0 (ask modem 0) ∷ call.taking 0 1 (7 ∷ []) ∷ [] in
    let none = ap (λ (x : CallResult). x.answer) (d.exact (there 5) 0 (ready (calls 5) 0 (lit< tt) refl (lit≤ tt)) refl 1 refl []) in
    let one = ap (λ (x : CallResult). x.answer) (d.exact (made cs) 0 (ready cs 0 (lit< tt) refl (lit≤ tt)) refl 1 refl []) in
    let e : ◌≡◌ {A = ℕ} 0 1 = ap (λ (a : Answer). get_or a.values 0 0) (sym none ∙ one) in
    omega (arith, e)
