-- Runs are as wide as the words: whatever packets are written of the messages that a window holds, and whichever of them arrive, in whatever order and
-- how often, there is such a run.
-- Assumes nothing.
use Prim.Native.Nat.{ℕ, ◌≤◌, ◌<◌}
use mathlib.Core.Path.{◌≡◌, refl, sym, ap, subst, ◌∙◌}
use mathlib.Core.Bool.{true}
use mathlib.Core.List.{List, [], ◌∷◌, ◌++◌, map, Memᴰ, append_assoc, append-nil}
use mathlib.Core.Logic.{⊎_elim}
use native.Mathlib.Omega.{arith}
use lib.Dec.{lit≤}
use lib.ListN.{length, take, drop, length-append}
use Rattle.channel.specs.Channel.{window_of}
use Rattle.channel.proofs.Windows.{window_narrow}
use Rattle.flow.specs.Flow.{Message, Full}
use Rattle.line.specs.Fit.{settings_fit}
use Rattle.relay.specs.RelayTests.{reliable}
use Rattle.book.specs.Book.{fresh_book}
use Rattle.book.specs.Parts.{store_length}
use Rattle.calls.specs.Call as call
use Rattle.calls.specs.Result.{result_of}
use Rattle.promise.specs.Past.{Mark, Packet, Past, just_opened, took_past, wrote_past, heard_past}
use Rattle.promise.specs.Run.{Gateway, bound, Each, none, also, noted_held, took, sent, heard, calls, stay, here, there}
use Rattle.promise.specs.Promise.{sends_by, receives_by, InRelay, AllCame}
use Rattle.promise.specs.Ours.{Recent, Honest, does, after, Run}
use Rattle.promise.specs.Demand3.{Served}
use Rattle.promise.specs.Witness.{Sized, Passing}
use Rattle.promise.specs.Notes.{mark}
use Rattle.promise.proofs.SendingAnew.{more_here}
use Rattle.promise.proofs.StepsKeep.{run_kept, run_on}
use Rattle.promise.proofs.Drains.{hands_keep}
use Rattle.promise.proofs.Exchanges.{roomy}
use Rattle.promise.proofs.Meets.{both_there}
use Rattle.promise.proofs.Demand3.{turned_run, promised, all_out, hands_run, ours_demand3}

-- packets that carry the messages of these numbers, each with a base and without acknowledgements
data Carry (c : ℕ) : List Packet → List ℕ → Type 0 where
  nothing : Carry c [] []
  one : {k : Packet} {ks : List Packet} {n : ℕ} {ns : List ℕ} (b : ℕ) → k.carries ≡ mark c n ∷ [] → k.names ≡ mark c b ∷ [] → k.acks ≡ [] → Carry c ks ns → Carry c (k ∷ ks) (n ∷ ns)

carry_marks : {c : ℕ} {ks : List Packet} {ns : List ℕ} → Carry c ks ns → map (λ (k : Packet). k.carries) ks ≡ map (λ (n : ℕ). mark c n ∷ []) ns
carry_marks nothing = refl
carry_marks (one b e f g s) = λ t. e t ∷ carry_marks s t

-- a packet that carries message n is among these
pub record Packeted (c n : ℕ) (ks : List Packet) : Type 0 where
  pub packet : Packet
  pub base : ℕ
  pub written : Memᴰ packet ks
  pub carries : packet.carries ≡ mark c n ∷ []
  pub names : packet.names ≡ mark c base ∷ []
  pub acks : packet.acks ≡ []

-- it stays when another one is written
pub still_packeted : {c n : ℕ} {k : Packet} {ks : List Packet} → Packeted c n ks → Packeted c n (k ∷ ks)
still_packeted p = record { packet = p.packet; base = p.base; written = Memᴰ.tail p.written; carries = p.carries; names = p.names; acks = p.acks }

packeted : {c n : ℕ} {ks : List Packet} {ns : List ℕ} → Carry c ks ns → Memᴰ n ns → Packeted c n ks
packeted {c} (one {k = k} b e f g s) (Memᴰ.head q) =
    record { packet = k; base = b; written = Memᴰ.head refl; carries = e ∙ ap (λ (x : ℕ). mark c x ∷ []) (sym q); names = f; acks = g }
packeted (one b e f g s) (Memᴰ.tail m) = still_packeted (packeted s m)
packeted {c = c} {n = n} nothing x4 = elim x4 [ ]

map_mem : {A B : Type 0} (f : A → B) {a : A} {l : List A} → Memᴰ a l → Memᴰ (f a) (map f l)
map_mem f (Memᴰ.head e) = Memᴰ.head (ap f e)
map_mem f (Memᴰ.tail m) = Memᴰ.tail (map_mem f m)

module _ (i j identifier kind c : ℕ) (v : reliable c ≡ true) {g₀ h : Gateway} (start : Run i j identifier kind g₀ just_opened h just_opened) (far : InRelay h j just_opened) where
  -- The messages ms are taken and those of the numbers ns written; nothing has arrived yet.
  record Stage (ms : List Message) (ns : List ℕ) : Type 0 where
    g : Gateway
    p : Past
    run : Run i j identifier kind g p h just_opened
    mine : InRelay g i p
    taken : p.taken c ≡ ms
    quiet : p.owes ≡ []
    wrote : Carry c p.wrote ns

  module _ {ms : List Message} {ns : List ℕ} (a : Stage ms ns) where
    serves : Served result_of bound i j identifier kind a.g a.p h just_opened
    serves = ours_demand3.served a.run a.mine

    -- S is how many were taken, and nothing moved h or R
    S-is : (sends_by a.g i a.p c).S ≡ length ms
    S-is = sym ((promised a.run).there c v).counted ∙ ap length a.taken

    R-is : (receives_by h j just_opened c).R ≡ 0
    R-is = sym ((promised a.run).there c v).next

    h_is : (sends_by a.g i a.p c).h ≡ 0
    h_is = omega (arith, ((promised a.run).there c v).low, R-is)

    takes : (m : Message) → Sized m → length ms < window_of c → Stage (ms ++ (m ∷ [])) ns
    takes m size few =
        let s = serves.takes c v m size.0 size.1 (omega (arith, S-is, few, window_narrow c)) (omega (arith, S-is, h_is, few)) [] in
        record {
          g = after a.g (call.taking i c m) [];
          p = took_past a.p c m;
          run = run_on a.run (here stay (calls a.mine.0 (call.taking i c m) [] s.opened (λ _. s.inside) (took c m s.accepted)));
          mine = (a.mine.0, s.inside);
          taken = more_here a.p.taken c m ∙ ap (λ (l : List Message). l ++ (m ∷ [])) a.taken;
          quiet = a.quiet;
          wrote = a.wrote;
        }

    -- what was taken is held, as none of it has come
    held : (n : ℕ) → n < length ms → Full ((sends_by a.g i a.p c).held n)
    held n l =
        let d = ((promised a.run).there c v).held n (omega (arith, R-is)) (omega (arith, S-is, l)) in
        ⊎_elim (λ e. subst Full (sym e) d.0)
        (λ e.
        let u = (run_kept start).joined.there c v in
        absurd (omega (arith, (u.keeps n (omega (arith, R-is)) (subst Full (sym e) d.0)).0, u.count)))
        d.1

    sends : (n : ℕ) → n < length ms → Stage ms (n ∷ ns)
    sends n l =
        let r = serves.ranks c v n (omega (arith, h_is)) (omega (arith, S-is, l)) (held n l) in
        let d = call.sending i c r.0 in
        let s = serves.sends c v r.0 r.1 roomy (lit≤ tt) in
        record {
          g = after a.g d roomy;
          p = wrote_past a.p (noted_held a.g a.p i c r.0 (does a.g d roomy));
          run = run_on a.run (here stay (calls a.mine.0 d roomy s.opened (λ _. s.inside) (sent c r.0 s.accepted)));
          mine = (a.mine.0, s.inside);
          taken = a.taken;
          quiet = ap (drop 3) a.quiet;
          wrote = one _ (ap (λ (x : ℕ). mark c x ∷ []) r.2) refl (ap (take 3) a.quiet) a.wrote;
        }

  takes_all : {ms : List Message} {ns : List ℕ} (more : List Message) → Each Sized more → length (ms ++ more) ≤ window_of c → Stage ms ns → Stage (ms ++ more) ns
  takes_all {ms} {ns} [] none l a = subst (λ (x : List Message). Stage x ns) (sym (append-nil ms)) a
  takes_all {ms} {ns} (m ∷ more) (also s ss) l a =
      let e : (ms ++ (m ∷ [])) ++ more ≡ ms ++ (m ∷ more) = append_assoc ms (m ∷ []) more in
      subst (λ (x : List Message). Stage x ns) e
      (takes_all more ss (omega (arith, l, ap length e)) (takes a m s (omega (arith, l, length-append ms (m ∷ more)))))

  sends_all : {ms : List Message} (ns : List ℕ) → Each (λ (n : ℕ). n < length ms) ns → Stage ms [] → Stage ms ns
  sends_all [] none a = a
  sends_all (n ∷ ns) (also l ls) a = sends (sends_all ns ls a) n l

  -- Then packets arrive.
  module _ {ms : List Message} {ns : List ℕ} (few : length ms ≤ window_of c) (a : Stage ms ns) where
    record Reached (came : List ℕ) : Type 0 where
      there : Gateway
      yours : Past
      run : Run i j identifier kind a.g a.p there yours
      inside : InRelay there j yours
      taken : yours.taken c ≡ []
      came_is : yours.came ≡ map (mark c) came

    arrives : {came : List ℕ} → Reached came → (n : ℕ) → Memᴰ n ns → Reached (n ∷ came)
    arrives {came} r n m =
        let k = packeted a.wrote m in
        let s = k.packet.octets in
        let lately : Recent a.p.taken (mark c n) = omega (arith, ap length a.taken, few, window_narrow c) in
        let near : Recent r.yours.taken (mark c k.base) = omega (arith, ap length r.taken) in
        let honest : Honest r.yours a.p s k.packet
        = record {
          written = k.written;
          same = refl;
          carries = subst (Each (Recent a.p.taken)) (sym k.carries) (also lately none);
          names = subst (Each (Recent r.yours.taken)) (sym k.names) (also near none);
          acks = subst (Each (Recent r.yours.taken)) (sym k.acks) none;
        } in
        let d = (ours_demand3.served (turned_run r.run) r.inside).arrives s k.packet honest [] in
        record {
          there = after r.there (call.arrival s) [];
          yours = heard_past r.yours k.packet;
          run = run_on r.run (there stay (calls r.inside.0 (call.arrival s) [] d.1.opened (λ _. d.1.inside) (heard s k.packet d.0 r.inside.1 honest)));
          inside = (r.inside.0, d.1.inside);
          taken = r.taken;
          came_is = (λ t. k.carries t ++ r.yours.came) ∙ ap (λ (l : List Mark). mark c n ∷ l) r.came_is;
        }

    arrive_all : (came : List ℕ) → Each (λ (n : ℕ). Memᴰ n ns) came → Reached came
    arrive_all [] none = record { there = h; yours = just_opened; run = a.run; inside = far; taken = refl; came_is = refl }
    arrive_all (n ∷ came) (also m ms) = arrives (arrive_all came ms) n m

    -- and all is handed out, if each number is among those that arrived
    passes : (came : List ℕ) → Each (λ (n : ℕ). Memᴰ n ns) came → ((n : ℕ) → n < length ms → Memᴰ n came) → Passing i j identifier kind c ms ns came
    passes came known all =
        let r = arrive_all came known in
        let there-all : AllCame c a.g i a.p r.yours
        = λ n low high full. subst (Memᴰ (mark c n)) (sym r.came_is) (map_mem (mark c) (all n (omega (arith, high, S-is a)))) in
        let out = all_out r.run c v r.inside there-all (λ n. roomy) (λ n. lit≤ tt) in
        record {
          here = a.g;
          mine = a.p;
          there = out.gateway;
          yours = out.past;
          run = hands_run r.run c v r.inside (λ n. roomy) out.hands;
          taken = a.taken;
          wrote = carry_marks a.wrote;
          came = (hands_keep c v (λ n. roomy) (run_kept r.run) r.inside out.hands).came ∙ r.came_is;
          handed = out.all ∙ a.taken;
        }

-- any lines, stores and reliable channel
module _ (identifier kind : ℕ) (fitting : settings_fit (record { identifier = identifier; kind = kind; vbd = true; relay = true }) ≡ true) (i j : ℕ) (store1 store2 : List ℕ) (lines : (i < 4) × (j < 4))
    (long : (store_length fresh_book ≤ length store1) × (store_length fresh_book ≤ length store2)) (c : ℕ) (v : reliable c ≡ true) where
  -- whatever is written of the messages of a window, and whichever of these packets arrive, in any order and any number of times: if each message
  -- is among what arrives, there is a run in which just these are written and just these arrive, and in which all is handed out in order
  pub any_way : (ms : List Message) → Each Sized ms → length ms ≤ window_of c → (written arrived : List ℕ) → Each (λ (n : ℕ). n < length ms) written → Each (λ (n : ℕ). Memᴰ n written) arrived
      → ((n : ℕ) → n < length ms → Memᴰ n arrived) → Passing i j identifier kind c ms written arrived
  any_way ms sized few written arrived below known all =
      let met = both_there identifier kind fitting i j store1 store2 lines long in
      let stage : Stage i j identifier kind c v met.run met.yours [] [] = record { g = met.here; p = just_opened; run = met.run; mine = met.mine; taken = refl; quiet = refl; wrote = nothing } in
      passes i j identifier kind c v met.run met.yours few
      (sends_all i j identifier kind c v met.run met.yours written below (takes_all i j identifier kind c v met.run met.yours ms sized few stage)) arrived known all
