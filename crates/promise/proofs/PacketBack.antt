-- What a line writes reads back: head, acknowledgements and payload of a packet that may be written, and its first three owed numbers.
-- Assumes nothing.
use Prim.Native.Nat.{ℕ, min}
use mathlib.Core.Path.{◌≡◌, refl, sym}
use mathlib.Core.List.{List, [], ◌∷◌}
use native.Mathlib.Omega.{arith}
use lib.ListN.{length, take, get_or}
use Rattle.std.specs.Prelude.{Ok}
use Rattle.ground.specs.Refusal.{verdict}
use Rattle.packet.specs.Acks.{ack_list}
use Rattle.packet.specs.Write.{packet_octets, write_tests}
use Rattle.packet.specs.declared.Head.{Head}
use Rattle.packet.specs.declared.Acks.{Acks}
use Rattle.roundtrip.proofs.Packets.{head_round, acks_round, payload_round}
use Rattle.owed.specs.Owed.{owed_of, first_three}
use Rattle.line.specs.declared.Line.{Line}
use Rattle.writing.specs.Write.{acks_for}
use Rattle.arriving.proofs.Arrivals.{list_said, list_is}
use Rattle.incoming.proofs.Arrivals.{head_passes, head_is}
use Rattle.promise.specs.Demand2.{Says}

-- the acknowledgements of a packet are the first three owed numbers
three : (ws : List ℕ) → take (min 3 (length ws)) (get_or ws 0 0 ∷ get_or ws 1 0 ∷ get_or ws 2 0 ∷ []) ≡ take 3 ws
three [] = refl
three (a ∷ []) = refl
three (a ∷ b ∷ []) = refl
three (a ∷ b ∷ c ∷ ws) = let e : min 3 (length (a ∷ b ∷ c ∷ ws)) ≡ 3 = omega arith in rw e

pub first_three_lem : (l : Line) → ack_list (acks_for l) ≡ take 3 (owed_of l.owed)
unfolding acks_for first_three
first_three_lem l = three (owed_of l.owed)

pub packet_says : (h : Head) (a : Acks) (payload : List ℕ) (largest space : ℕ) → verdict (write_tests h a payload largest space) ≡ Ok tt → Says (packet_octets h a payload) h a payload
packet_says h a payload largest space pass =
    let s = packet_octets h a payload in
    let x = head_round h a payload largest space pass in
    let y = acks_round h a payload largest space pass in
    let plain = head_passes s refl x in
    let listed = list_said s y in
    record {
      octets = refl;
      plain = plain;
      listed = listed;
      head_back = sym (head_is s refl x);
      acks_back = sym (list_is s y);
      payload_back = payload_round h a payload largest space pass;
    }
