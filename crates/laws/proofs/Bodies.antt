-- One input, one outcome, of the calls without a book: what reads or writes a packet, a body or a slip, and the mode calls on the modes alone.
-- Assumes nothing.
use Prim.Native.Nat.{ℕ}
use mathlib.Core.Path.{◌≡◌, refl, sym, ap, ◌∙◌}
use mathlib.Core.List.{List}
use Rattle.std.specs.Prelude.{Result}
use Rattle.ground.specs.Refusal.{Test}
use Rattle.ground.specs.Answer.{Writes, contents}
use Rattle.packet.specs.contracts.header_length
use Rattle.packet.proofs.header_length.Reads as header_length_reads
use Rattle.packet.specs.contracts.Acks.header as acks_header
use Rattle.packet.proofs.Acks.header.Reads as acks_header_reads
use Rattle.packet.specs.contracts.read_head
use Rattle.packet.proofs.read_head.Reads as read_head_reads
use Rattle.packet.specs.contracts.acks_served
use Rattle.packet.proofs.acks_served.Reads as acks_served_reads
use Rattle.packet.specs.contracts.read_acks
use Rattle.packet.proofs.read_acks.Reads as read_acks_reads
use Rattle.packet.specs.contracts.size_fits
use Rattle.packet.proofs.size_fits.Reads as size_fits_reads
use Rattle.packet.specs.contracts.payload_fits
use Rattle.packet.proofs.payload_fits.Reads as payload_fits_reads
use Rattle.packet.specs.contracts.write_packet
use Rattle.packet.proofs.write_packet.Reads as write_packet_reads
use Rattle.connect.specs.contracts.read as connect_read
use Rattle.connect.proofs.read.Reads as connect_read_reads
use Rattle.connect.specs.contracts.write as connect_write
use Rattle.connect.proofs.write.Reads as connect_write_reads
use Rattle.breaks.specs.contracts.read as break_read
use Rattle.breaks.proofs.read.Reads as break_read_reads
use Rattle.breaks.specs.contracts.write as break_write
use Rattle.breaks.proofs.write.Reads as break_write_reads
use Rattle.slip.specs.contracts.read as slip_read
use Rattle.slip.proofs.read.Reads as slip_read_reads
use Rattle.slip.specs.contracts.write as slip_write
use Rattle.slip.proofs.write.Reads as slip_write_reads
use Rattle.moves.specs.contracts.hear
use Rattle.moves.proofs.hear.Reads as hear_reads
use Rattle.moves.specs.contracts.ask
use Rattle.moves.proofs.ask.Reads as ask_reads
use Rattle.moves.specs.contracts.tick
use Rattle.moves.proofs.tick.Reads as tick_reads
use Rattle.laws.specs.Contract.{Determined}
use Rattle.ground.specs.declared.Refusal.{Refusal}

-- two outcomes that meet a writer's contract are one, and so is what they leave in the output
once : {ts : List Test} {octets before p q : List ℕ} (x y : Result ℕ Refusal) → Writes ts octets before p x → Writes ts octets before q y → (x ≡ y) × (p ≡ q)
once {octets = octets} {before = before} x y g h =
    let e : x ≡ y = g.gives.is ∙ sym h.gives.is in
    (e, g.leaves ∙ ap (λ (w : Result ℕ Refusal). contents w octets before) e ∙ sym h.leaves)

-- packets
pub header_length_determined : Determined header_length.ended header_length_reads.Learnt
header_length_determined κs a x y p q m n = (m ∙ sym n, refl)

pub acks_header_determined : Determined acks_header.ended acks_header_reads.Learnt
acks_header_determined κs a x y p q m n = (m ∙ sym n, refl)

pub read_head_determined : Determined read_head.ended read_head_reads.Learnt
read_head_determined κs a x y p q m n = (m.is ∙ sym n.is, refl)

pub acks_served_determined : Determined acks_served.ended acks_served_reads.Learnt
acks_served_determined κs a x y p q m n = (m ∙ sym n, refl)

pub read_acks_determined : Determined read_acks.ended read_acks_reads.Learnt
read_acks_determined κs a x y p q m n = (m.is ∙ sym n.is, refl)

pub size_fits_determined : Determined size_fits.ended size_fits_reads.Learnt
size_fits_determined κs a x y p q m n = (m ∙ sym n, refl)

pub payload_fits_determined : Determined payload_fits.ended payload_fits_reads.Learnt
payload_fits_determined κs a x y p q m n = (m ∙ sym n, refl)

pub write_packet_determined : Determined write_packet.ended write_packet_reads.Learnt
write_packet_determined κs a x y p q m n =
    let e = once x y m n in
    (e.0, λ t. (e.1 t, (tt, (tt, (tt, (tt, tt))))))

-- bodies and slips
pub connect_read_determined : Determined connect_read.ended connect_read_reads.Learnt
connect_read_determined κs a x y p q m n = (m.is ∙ sym n.is, refl)

pub connect_write_determined : Determined connect_write.ended connect_write_reads.Learnt
connect_write_determined κs a x y p q m n =
    let e = once x y m n in
    (e.0, λ t. (e.1 t, (tt, tt)))

pub break_read_determined : Determined break_read.ended break_read_reads.Learnt
break_read_determined κs a x y p q m n = (m.is ∙ sym n.is, refl)

pub break_write_determined : Determined break_write.ended break_write_reads.Learnt
break_write_determined κs a x y p q m n =
    let e = once x y m n in
    (e.0, λ t. (e.1 t, (tt, tt)))

pub slip_read_determined : Determined slip_read.ended slip_read_reads.Learnt
slip_read_determined κs a x y p q m n = (m.is ∙ sym n.is, refl)

pub slip_write_determined : Determined slip_write.ended slip_write_reads.Learnt
slip_write_determined κs a x y p q m n =
    let e = once x y m n in
    (e.0, λ t. (e.1 t, (tt, tt)))

-- the mode calls on the modes alone; each contract says besides what its answer stands for
pub hear_determined : Determined hear.ended hear_reads.Learnt
hear_determined κs a x y p q m n = (m.0 ∙ sym n.0, refl)

pub ask_determined : Determined ask.ended ask_reads.Learnt
ask_determined κs a x y p q m n = (m.0 ∙ sym n.0, refl)

pub tick_determined : Determined tick.ended tick_reads.Learnt
tick_determined κs a x y p q m n = (m.0 ∙ sym n.0, refl)
