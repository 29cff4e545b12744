-- A packet that is read is written again as it came, but for the numbers that are not looked at, which are 0.
-- Assumes nothing.
use mathlib.Core.Path.{◌≡◌, refl, ap, sym, ◌∙◌}
use mathlib.Core.Bool.{true, false}
use mathlib.Core.List.{List, [], ◌∷◌, ◌++◌}
use Prim.Native.Nat.{ℕ, zero, suc, ◌+◌, ◌-◌, ◌*◌, ◌^◌, ◌≤◌, ◌<◌}
use native.Mathlib.Omega.{arith}
use lib.Dec.{leb, eqb}
use lib.ListN.{length, get_or, drop, take-append-drop}
use lib.Seq.{get_or-take}
use borrow.Author.Tests.{leb-true, eqb-true, lt-ltb}
use Rattle.std.specs.Prelude.{Ok}
use Rattle.ground.specs.Refusal.{verdict}
use Rattle.ground.proofs.Picks.{each, pick_by}
use Rattle.ground.proofs.Verdicts.{passed}
use Rattle.field.specs.Bits.{bits_at}
use Rattle.field.specs.Layout.{widths, Reads}
use Rattle.field.specs.Word.{channel_of, number_of}
use Rattle.field.proofs.Laws.{bits_lt, bits_top, bits_low}
use Rattle.packet.specs.Acks.{ack_list}
use Rattle.packet.specs.Read.{head_tests, list_tests, head_at, acks_at, ack_at, number_at, base_at, payload_of, header_length, count_at, channel_at}
use Rattle.packet.specs.Write.{ack_fields, layout, packet_octets}
use Rattle.packet.proofs.Writes.{list_wide, list_length}
use Rattle.roundtrip.specs.Again.{Octets, cleared, packet_again}
use Rattle.roundtrip.proofs.Octets.{packs_front, part_same, behind_same, cleared_length, cleared_octets, cleared_there, cleared_before, cleared_after}

-- words that stand one after the other from bit b on are read as acknowledgements
acks_read_lem : (t : List ℕ) (b : ℕ) (ws : List ℕ) → ((k : ℕ) → k < length ws → bits_at t (b + 16 * k) 16 ≡ get_or ws k 0) → Reads t b (ack_fields ws)
acks_read_lem t b [] f = tt
acks_read_lem t b (w ∷ ws) f =
    let e : bits_at t b (2 + 14) ≡ w = ap (λ (n : ℕ). bits_at t n 16) (omega arith) ∙ f 0 (omega arith) in
    let on : (k : ℕ) → k < length ws → bits_at t (b + 2 + 14 + 16 * k) 16 ≡ get_or ws k 0 = λ k h. ap (λ (n : ℕ). bits_at t n 16) (omega arith) ∙ f (suc k) (omega arith) in
    (sym (bits_top t b 2 14) ∙ ap channel_of e, (sym (bits_low t b 2 14) ∙ ap number_of e, acks_read_lem t (b + 2 + 14) ws on))

-- Octets that show what was read of s, each field at its place, and what is not looked at as 0.
record Shows (s t : List ℕ) : Type 0 where
  octets : Octets t
  long : length t ≡ length s
  front : bits_at t 0 18 ≡ bits_at s 0 18
  number : bits_at t 18 14 ≡ number_at s
  count : bits_at t 32 2 ≡ count_at s
  base : bits_at t 34 14 ≡ base_at s
  behind : (x y : ℕ) → 48 ≤ x → x + y ≤ 8 * length s → bits_at t x y ≡ bits_at s x y

module _ (s : List ℕ) (o : Octets s) (plain : verdict (head_tests s) ≡ Ok tt) (listed : verdict (list_tests s) ≡ Ok tt) where
  six : 6 ≤ length s
  six = leb-true _ _ (passed (head_tests s) plain).0

  forms : (bits_at s 0 1 ≡ 0) × (bits_at s 8 1 ≡ 0)
  forms =
      let f = each (eqb (bits_at s 0 1) 0 ∷ eqb (bits_at s 8 1) 0 ∷ []) (passed (head_tests s) plain).1.0 in
      (eqb-true _ _ f.0, eqb-true _ _ f.1.0)

  there : header_length s ≤ length s
  there = leb-true _ _ (passed (list_tests s) listed).0

  few : count_at s < 2 ^ 2
  few = bits_lt s 32 2

  -- acknowledgement k, where it is there
  ack_there : (k : ℕ) → k < count_at s → get_or (ack_list (acks_at s)) k 0 ≡ bits_at s (48 + 16 * k) 16
  unfolding acks_at ack_at
  ack_there k h = get_or-take (count_at s) (ack_at s 0 ∷ ack_at s 1 ∷ ack_at s 2 ∷ []) k 0 h ∙ go k h
    where
      go : (k : ℕ) → k < count_at s → get_or (ack_at s 0 ∷ ack_at s 1 ∷ ack_at s 2 ∷ []) k 0 ≡ bits_at s (48 + 16 * k) 16
      go zero h = rw (lt-ltb 0 (count_at s) h) refl
      go (suc zero) h = rw (lt-ltb 1 (count_at s) h) refl
      go (suc (suc zero)) h = rw (lt-ltb 2 (count_at s) h) refl
      go (suc (suc (suc k))) h = absurd (omega (arith, few))

  count_length : length (ack_list (acks_at s)) ≡ count_at s
  unfolding acks_at
  count_length = list_length (acks_at s) (omega (arith, few))

  -- the header and the payload, packed, are the octets that show them
  module _ (t : List ℕ) (w : Shows s t) where
    front_same : (x y v : ℕ) → x + y + v ≡ 18 → bits_at t x y ≡ bits_at s x y
    front_same x y v p =
        let e : 0 + x ≡ x = omega arith in
        sym (ap (λ (n : ℕ). bits_at t n y) e) ∙ part_same s t 0 18 w.front x y v p ∙ ap (λ (n : ℕ). bits_at s n y) e

    list_read : Reads t 48 (ack_fields (ack_list (acks_at s)))
    list_read = acks_read_lem t 48 (ack_list (acks_at s)) (λ k h.
        let l : k < count_at s = omega (arith, count_length) in
        w.behind (48 + 16 * k) 16 (omega arith) (omega (arith, there)) ∙ sym (ack_there k l))

    header_read : Reads t 0 (layout (head_at s) (acks_at s))
    unfolding head_at acks_at
    header_read =
        (front_same 0 1 17 refl ∙ forms.0, (front_same 1 7 10 refl, (front_same 8 1 9 refl ∙ forms.1, (front_same 9 7 2 refl, (front_same 16 2 0 refl, (w.number, (w.count, (w.base, list_read))))))))

    header_wide : widths (layout (head_at s) (acks_at s)) ≡ 8 * header_length s
    unfolding acks_at
    header_wide = omega (arith, list_wide (ack_list (acks_at s)), count_length)

    shown : packet_octets (head_at s) (acks_at s) (payload_of s) ≡ t
    unfolding packet_octets payload_of
    shown =
        let n : ℕ = header_length s in
        let h : n ≤ length t = omega (arith, there, w.long) in
        let d : drop n t ≡ drop n s = behind_same s t n o w.octets w.long there (w.behind (8 * n) (8 * (length s - n)) (omega arith) (omega (arith, there))) in
        (λ i. packs_front t n (layout (head_at s) (acks_at s)) w.octets h header_wide header_read i ++ sym d i) ∙ take-append-drop n t

  -- the three cases: on channel 0, without payload, and else
  abbrev u : List ℕ
  u = cleared s 18 14

  room : 18 + 14 ≤ 8 * length s
  room = omega (arith, six)

  room_again : 34 + 14 ≤ 8 * length u
  room_again = omega (arith, six, cleared_length s 18 14)

  shows_none : eqb (channel_at s) 0 ≡ true → Shows s (cleared u 34 14)
  unfolding number_at base_at
  shows_none e = record {
    octets = cleared_octets u 34 14;
    long = cleared_length u 34 14 ∙ cleared_length s 18 14;
    front = cleared_before u 34 14 room_again 0 18 (omega arith) ∙ cleared_before s 18 14 room 0 18 (omega arith);
    number = cleared_before u 34 14 room_again 18 14 (omega arith) ∙ cleared_there s 18 14 room ∙ rw e refl;
    count = cleared_before u 34 14 room_again 32 2 (omega arith) ∙ cleared_after s 18 14 room 32 2 (omega arith) (omega (arith, six));
    base = cleared_there u 34 14 room_again ∙ rw e refl;
    behind = λ x y k l. cleared_after u 34 14 room_again x y k (omega (arith, cleared_length s 18 14)) ∙ cleared_after s 18 14 room x y (omega arith) l;
  }

  shows_empty : eqb (channel_at s) 0 ≡ false → leb (length s) (header_length s) ≡ true → Shows s u
  unfolding number_at base_at
  shows_empty e f = record {
    octets = cleared_octets s 18 14;
    long = cleared_length s 18 14;
    front = cleared_before s 18 14 room 0 18 (omega arith);
    number = cleared_there s 18 14 room ∙ rw (e, f) refl;
    count = cleared_after s 18 14 room 32 2 (omega arith) (omega (arith, six));
    base = cleared_after s 18 14 room 34 14 (omega arith) (omega (arith, six)) ∙ rw e refl;
    behind = λ x y k l. cleared_after s 18 14 room x y (omega arith) l;
  }

  shows_all : eqb (channel_at s) 0 ≡ false → leb (length s) (header_length s) ≡ false → Shows s s
  unfolding number_at base_at
  shows_all e f = record { octets = o; long = refl; front = refl; number = rw (e, f) refl; count = refl; base = rw e refl; behind = λ x y k l. refl }

  -- a packet that is read is written as it was read, with the numbers that are not looked at 0
  pub octets_round : packet_octets (head_at s) (acks_at s) (payload_of s) ≡ packet_again s
  unfolding packet_again
  octets_round =
      pick_by (λ (t : List ℕ). packet_octets (head_at s) (acks_at s) (payload_of s) ≡ t) (eqb (channel_at s) 0)
      (λ e. shown (cleared u 34 14) (shows_none e))
      (λ e. pick_by (λ (t : List ℕ). packet_octets (head_at s) (acks_at s) (payload_of s) ≡ t) (leb (length s) (header_length s))
      (λ f. shown u (shows_empty e f))
      (λ f. shown s (shows_all e f)))

  -- where these are 0 already, as it was read
  pub octets_back : bits_at s 18 14 ≡ number_at s → bits_at s 34 14 ≡ base_at s → packet_octets (head_at s) (acks_at s) (payload_of s) ≡ s
  octets_back e f = shown s (record { octets = o; long = refl; front = refl; number = e; count = refl; base = f; behind = λ x y k l. refl })
