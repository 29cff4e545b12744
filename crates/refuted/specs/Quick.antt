-- QUICK BUILDS: document 01's 'Errors a quick build makes', written down as builds, and two by which lines are mixed. Each is shown to fail a demand, or
-- isolation.
-- Assumes nothing.
use Rattle.line.specs.Figures.{send_window}
use Rattle.std.specs.Prelude.{ℕ, ◌+◌, ◌*◌, ◌/◌, ◌%◌, Bool, true, false, List, [], ◌∷◌, ltb, eqb, drop, get_or, Option, Some, None}
use Rattle.ground.specs.Pick.{pick}
use Rattle.packet.specs.Read.{head_at}
use Rattle.channel.specs.Channel.{modulus}
use Rattle.places.specs.Places.{mask_of, rank_of}
use Rattle.sending.specs.Sending.{under_way, moved_by}
use Rattle.sending.specs.declared.Sending.{Sending}
use Rattle.receiving.specs.declared.Arrival.{Arrival}
use Rattle.receiving.specs.declared.Arrival.TheVariants.{Stored, There, Old}
use Rattle.line.specs.Line.{with_parts, with_owed}
use Rattle.line.specs.declared.Line.{Line}
use Rattle.arriving.specs.Effect.{arrival_at}
use Rattle.book.specs.Book.{line_of, with_line, open_in}
use Rattle.calls.specs.Call as call
use Rattle.calls.specs.Order.{line_for}
use Rattle.calls.specs.Result.{result_with, result_of}
use Rattle.promise.specs.Build.{Build}
use Rattle.refuted.specs.Idle.{Arrives, doing, instead, lets, arriving, ignores}

-- "Taking the line from the caller and not from the packet's identifier": the packet goes to the first open line
abbrev pub misleads : Arrives
misleads s b store out = result_of (call.arrival (get_or (open_in b.lines) 0 0 ∷ drop 1 s)) b store out

abbrev pub callers_line : Build
callers_line = doing (arriving misleads)

-- "Freeing send room on acknowledgement alone": h moves on to the oldest message that is not acknowledged
abbrev past_acked : ℕ → Sending → Option ℕ → Sending
past_acked w s (Some d) = moved_by w s d
past_acked w s None = moved_by w s (under_way s)

abbrev freed : Line → Line
freed l =
    with_parts l l.modes (past_acked (send_window l 1) l.sending.one (rank_of (mask_of l.sending.one.unacked) 0)) (past_acked (send_window l 2) l.sending.two (rank_of (mask_of l.sending.two.unacked) 0))
    l.receiving.one l.receiving.two l.owed

abbrev pub frees : Arrives
frees s b store out =
    let d = result_of (call.arrival s) b store out in
    let i = line_for (call.arrival s) b in
    result_with d.answer (with_line d.book i (freed (line_of d.book i))) d.store out

abbrev pub frees_on_ack : Build
frees_on_ack = doing (arriving frees)

-- "Letting a repeat go unacknowledged": of a message that is there already, or no longer in the window, nothing is owed
abbrev repeats : Arrival → Bool
repeats (Stored d) = false
repeats There = true
repeats Old = true

abbrev pub hushes : Arrives
hushes s b store out =
    let d = result_of (call.arrival s) b store out in
    let i = line_for (call.arrival s) b in
    pick (repeats (arrival_at (line_of b i) (head_at s).channel (head_at s).number))
    (result_with d.answer (with_line d.book i (with_owed (line_of d.book i) (line_of b i).owed)) d.store out) d

abbrev pub silent_on_repeats : Build
silent_on_repeats = doing (arriving hushes)

-- "Comparing sequence numbers by size": a message whose number is below R is an old one
abbrev pub is_older : ℕ → ℕ → Bool
is_older number next = ltb number next

abbrev pub older : Arrives
older = ignores is_older

abbrev pub by_size : Build
by_size = doing (arriving older)

-- "nothing is hashed" (RULES 4.1): here the line is found by a hash of the identifier, its last four bits, so that 5 and 21 are one. By a hash an
-- old gateway mixed the cars of two levels
abbrev hash : ℕ → ℕ
hash identifier = identifier % 16

-- of the open identifiers the first that has the hash, or else the identifier itself
unfoldable pub first_alike : List ℕ → ℕ → ℕ
first_alike [] identifier = identifier
first_alike (y ∷ ys) identifier = pick (eqb (hash y) (hash identifier)) y (first_alike ys identifier)

-- the packet with another identifier, and its extension bit
abbrev renamed : List ℕ → ℕ → List ℕ
renamed s identifier = (get_or s 0 0 / 128 * 128 + identifier) ∷ drop 1 s

abbrev pub mixes : Arrives
mixes s b store out = result_of (call.arrival (renamed s (first_alike (open_in b.lines) (head_at s).identifier))) b store out

abbrev pub hashed : Build
hashed = doing (arriving mixes)

-- the report of what line 0 holds, whatever line is asked for
abbrev pub firsts_report : Build
firsts_report = doing (instead result_of result_of lets (λ c b store out. result_of (call.report 0 1) b store out))

-- the likelier slip: the number is compared with the last 14 bits of R, so that only a message past the turn of the numbers seems old
abbrev pub is_older_cut : ℕ → ℕ → Bool
is_older_cut number next = ltb number (next % modulus)

abbrev pub by_size_cut : Build
by_size_cut = doing (arriving (ignores is_older_cut))
