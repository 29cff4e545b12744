-- What has come to an end stays so, whatever is written, heard or handed out there. The list of what came may be any list of messages that have
-- come, so each fact is that of one message, put into the list, which every call keeps.
-- Assumes nothing.
use Prim.Native.Nat.{ℕ}
use mathlib.Core.List.{List, [], ◌∷◌, ◌++◌, Memᴰ}
use mathlib.Core.Path.{refl}
use Rattle.calls.specs.Call as call
use Rattle.flow.specs.Flow.{Message}
use Rattle.promise.specs.Past.{Mark, Packet, Past, handed_past, wrote_past, heard_past}
use Rattle.promise.specs.Run.{Gateway, none, also}
use Rattle.promise.specs.Promise.{receives_by, InRelay}
use Rattle.promise.specs.Ours.{Honest, after}
use Rattle.promise.proofs.Lists.{each_at}
use Rattle.promise.specs.Notes.{HasCome}
use Rattle.promise.proofs.Ends.{Joined}
use Rattle.promise.proofs.Phases.{end_of, relaying, Sound, is_open_lem}
use Rattle.promise.proofs.OwnLine.{Passes}
use Rattle.promise.proofs.CallsKeep.{handed_kept, sent_kept, wrote_kept}
use Rattle.promise.proofs.StepsKeep.{Pair, heard_kept}

-- message m has come to line i of g
abbrev pub CameTo : Gateway → ℕ → Past → Mark → Type 0
CameTo g i p = HasCome (λ (c : ℕ). receives_by g i p c)

last : {A : Type 0} (l : List A) {a : A} → Memᴰ a (l ++ (a ∷ []))
last [] = Memᴰ.head refl
last (x ∷ l) = Memᴰ.tail (last l)

module _ {i j identifier kind : ℕ} {g h : Gateway} {p q : Past} (k : Pair i j identifier kind g p h q) (a : InRelay g i p) {m : Mark} (has : CameTo g i p m) (out : List ℕ) where
  abbrev past : Past
  past = record { opened = p.opened; taken = p.taken; handed = p.handed; wrote = p.wrote; owes = p.owes; came = m ∷ [] }

  sound : Sound i identifier kind g past
  sound =
      let s = k.mine in
      record { fits = s.fits; shaped = s.shaped; long = s.long; small = s.small; phase = relaying (is_open_lem s.phase a.0) a.0 a.1 }

  joined : Joined (end_of g i past) (end_of h j q)
  joined =
      let w = k.joined.mine in
      record {
        mine = record { fits = w.fits; shaped = w.shaped; sides = w.sides; long = w.long; owed = w.owed; owes = w.owes; came = also has none; said = w.said };
        yours = k.joined.yours;
        there = k.joined.there;
        back = k.joined.back;
      }

  pub came_sent : (channel rank : ℕ) → Passes g (call.sending i channel rank) out → (x : Packet) → CameTo (after g (call.sending i channel rank) out) i (wrote_past p x) m
  came_sent channel rank pass x = each_at (Memᴰ.head refl) (sent_kept sound a.0 joined out channel rank pass).1.1.mine.came

  pub came_wrote : (channel : ℕ) → Passes g (call.empty i channel) out → (x : Packet) → CameTo (after g (call.empty i channel) out) i (wrote_past p x) m
  came_wrote channel pass x = each_at (Memᴰ.head refl) (wrote_kept sound a.0 joined out channel pass).1.1.mine.came

  pub came_handed : (channel : ℕ) → Passes g (call.hand_out i channel) out → (x : Message) → CameTo (after g (call.hand_out i channel) out) i (handed_past p channel x) m
  came_handed channel pass x = each_at (Memᴰ.head refl) (handed_kept sound a.0 joined out channel pass).1.1.mine.came

  pub came_heard : (s : List ℕ) (x : Packet) → Honest p q s x → CameTo (after g (call.arrival s) out) i (heard_past p x) m
  came_heard s x honest =
      let again : Honest past q s x = record { written = honest.written; same = honest.same; carries = honest.carries; names = honest.names; acks = honest.acks } in
      each_at (last x.carries) (heard_kept sound k.yours a.0 joined s x a.1 again out).1.1.mine.came
