-- Every move keeps the flow, and the flow says that the messages taken are those handed out, in order and octet for octet,
-- followed by those that wait.
-- Assumes nothing.
use Prim.Native.Nat.{ℕ, zero, suc, ◌+◌, ◌-◌, ◌≤◌, ◌<◌}
use mathlib.Core.Path.{◌≡◌, refl, sym, ◌∙◌, subst}
use mathlib.Core.Logic.{◌≢◌}
use mathlib.Core.List.{List, [], ◌∷◌, ◌++◌}
use native.Mathlib.Decide.{dec_lt}
use native.Mathlib.Omega.{arith}
use lib.ListN.{get_or, drop, length-append, get_or-append, take-append-drop, drop_of_length-le}
use lib.Seq.{get_or_at, take-suc, take-append-le, drop-cons}
use Rattle.ground.proofs.Every.{apart, below_suc}
use Rattle.flow.specs.Flow.{Message, Full, first_stays, Sends, Receives, Have, TakeMove, BaseMove, AckMove, PayloadMove, HandOutMove, Flow, Data, Grows, span, waiting}

-- by cases: there is no message, or there is one
pub none_or : {A : Type 0} (x : Message) → (x ≡ [] → A) → (Full x → A) → A
none_or [] f g = f refl
none_or (a ∷ x) f g = g tt

not_none : {A : Type 0} {x : Message} → Full x → x ≡ [] → A
not_none v e = absurd (subst Full e v)

-- of two messages for one number the first stays, and there is one where either is
first_stays_new : (y x : Message) → Full x → Full (first_stays y x)
first_stays_new [] x v = v
first_stays_new (a ∷ y) x v = tt

pub first_stays_old : (y x : Message) → Full y → first_stays y x ≡ y
first_stays_old [] x v = elim v [ ]
first_stays_old (a ∷ y) x v = refl

-- a payload stays the message of its number when more are taken
pub data_more : (taken : List Message) (y : Message) (n : ℕ) (x : Message) → Data taken n x → Data (taken ++ (y ∷ [])) n x
data_more taken y n x d =
    record {
      known = omega (arith, length-append taken (y ∷ []));
      same = d.same ∙ sym (get_or-append taken (y ∷ []) [] n d.known);
    }

-- what has come stays, whatever arrives or is handed out
pub arrived_grows : (r t : Receives) (n : ℕ) (x : Message) → PayloadMove r t n x → Grows r t
arrived_grows r t n x m = record { next = omega arith; have = apart (λ k. Have r k → Have t k) n here there }
  where
    here : Have r n → Have t n
    here v l = let a : r.R ≤ n = omega arith in subst Full (sym (first_stays_old (r.stored n) x (v a)) ∙ sym (m.here a)) (v a)

    there : (k : ℕ) → k ≢ n → Have r k → Have t k
    there k d v l = let a : r.R ≤ k = omega arith in subst Full (sym (m.old k a d)) (v a)

pub handed_grows : (r t : Receives) → HandOutMove r t → Grows r t
handed_grows r t m = record { next = omega arith; have = λ n v l. rw (m.old n (omega arith)) (v (omega arith)) }

-- and what arrives has come
pub arrived_have : (r t : Receives) (n : ℕ) (x : Message) → PayloadMove r t n x → Full x → Have t n
arrived_have r t n x m v l = rw (m.here (omega arith)) (first_stays_new (r.stored n) x v)

module _ {w : ℕ} {s : Sends} {r : Receives} {taken handed : List Message} (f : Flow w s r taken handed) where
  -- what has come was taken
  pub known : (n : ℕ) → Have r n → n < s.S
  known n v = go (dec_lt n r.R)
    where
      go : Dec (n < r.R) → n < s.S
      go (yes q) = omega arith
      go (no q) = (f.keeps n (omega arith) (v (omega arith))).0

  -- a payload that was taken is a message
  pub data_full : {n : ℕ} {x : Message} → Data taken n x → Full x
  data_full {n} d = rw d.same (f.solid n (omega arith))

  -- Every move keeps the flow: a message is taken ..
  pub take_flow : (t : Sends) (x : Message) → s.S < s.h + w → Full x → TakeMove s t x → Flow w t r (taken ++ (x ∷ [])) handed
  take_flow t x g v m =
      record {
        count = omega (arith, length-append taken (x ∷ []));
        low = omega arith;
        mid = omega arith;
        high = omega arith;
        solid = λ n l. below_suc (λ k. Full (get_or (taken ++ (x ∷ [])) k [])) s.S (λ k q. rw (at k q) (f.solid k q)) (rw new v) n (omega arith);
        sends = λ n a l. below_suc Same s.S sent (λ b u. m.new ∙ sym new) n (omega arith) (omega arith);
        keeps = λ n a u. let k = f.keeps n a u in (omega (arith, k.0), k.1 ∙ sym (at n k.0));
        safe = λ n a l. below_suc Safe s.S safe (λ b e. not_none v (sym m.new ∙ e)) n (omega arith) a;
        out = f.out ∙ sym (take-append-le r.R taken (x ∷ []) (omega arith));
      }
    where
      at : (n : ℕ) → n < s.S → get_or (taken ++ (x ∷ [])) n [] ≡ get_or taken n []
      at n q = get_or-append taken (x ∷ []) [] n (omega arith)

      new : get_or (taken ++ (x ∷ [])) s.S [] ≡ x
      new = get_or_at taken x [] [] s.S f.count

      Same : ℕ → Type 0
      Same k = s.h ≤ k → Full (t.held k) → t.held k ≡ get_or (taken ++ (x ∷ [])) k []

      sent : (k : ℕ) → k < s.S → Same k
      sent k q b u = let o = m.old k b q in o ∙ f.sends k b q (rw o at u) ∙ sym (at k q)

      Safe : ℕ → Type 0
      Safe k = r.R ≤ k → t.held k ≡ [] → Full (r.stored k)

      safe : (k : ℕ) → k < s.S → Safe k
      safe k q b e = f.safe k b q (sym (m.old k (omega arith) q) ∙ e)

  -- .. a base is heard that the other end has reached ..
  pub base_flow : (t : Sends) (b : ℕ) → b ≤ r.R → BaseMove s t b → Flow w t r taken handed
  base_flow t b g m =
      record {
        count = omega arith;
        low = omega arith;
        mid = omega arith;
        high = omega arith;
        solid = λ n l. f.solid n (omega arith);
        sends = λ n a l u. let o = m.old n a (omega arith) in o ∙ f.sends n (omega arith) (omega arith) (rw o at u);
        keeps = λ n a u. let k = f.keeps n a u in (omega (arith, k.0), k.1);
        safe = λ n a l e. f.safe n a (omega arith) (sym (m.old n (omega arith) (omega arith)) ∙ e);
        out = f.out;
      }

  -- .. an acknowledgement is heard of a message that has come ..
  pub ack_flow : (t : Sends) (k : ℕ) → Have r k → AckMove s t k → Flow w t r taken handed
  ack_flow t k g m =
      record {
        count = omega arith;
        low = omega arith;
        mid = omega arith;
        high = omega arith;
        solid = λ n l. f.solid n (omega arith);
        sends = apart Same k (λ a l u. not_none u (m.gone (omega arith) (omega arith))) sent;
        keeps = λ n a u. let k = f.keeps n a u in (omega (arith, k.0), k.1);
        safe = apart Safe k (λ a l e. g a) safe;
        out = f.out;
      }
    where
      Same : ℕ → Type 0
      Same n = t.h ≤ n → n < t.S → Full (t.held n) → t.held n ≡ get_or taken n []

      sent : (n : ℕ) → n ≢ k → Same n
      sent n d a l u = let o = m.old n (omega arith) (omega arith) d in o ∙ f.sends n (omega arith) (omega arith) (rw o at u)

      Safe : ℕ → Type 0
      Safe n = r.R ≤ n → n < t.S → t.held n ≡ [] → Full (r.stored n)

      safe : (n : ℕ) → n ≢ k → Safe n
      safe n d a l e = f.safe n a (omega arith) (sym (m.old n (omega arith) (omega arith) d) ∙ e)

  -- .. a message arrives that was taken ..
  pub arrive_flow : (t : Receives) (n : ℕ) (x : Message) → Data taken n x → PayloadMove r t n x → Flow w s t taken handed
  arrive_flow t n x g m =
      record {
        count = f.count;
        low = omega arith;
        mid = omega arith;
        high = f.high;
        solid = f.solid;
        sends = f.sends;
        keeps = apart Kept n (λ a u. (omega arith, m.here (omega arith) ∙ same (omega arith))) kept;
        safe = apart Safe n (λ a l e. rw (m.here (omega arith)) (first_stays_new (r.stored n) x (data_full g))) safe;
        out = rw m.next f.out;
      }
    where
      same : r.R ≤ n → first_stays (r.stored n) x ≡ get_or taken n []
      same a = none_or (r.stored n) (λ e. rw e g.same) (λ v. first_stays_old (r.stored n) x v ∙ (f.keeps n a v).1)

      Kept : ℕ → Type 0
      Kept k = t.R ≤ k → Full (t.stored k) → (k < s.S) × (t.stored k ≡ get_or taken k [])

      kept : (k : ℕ) → k ≢ n → Kept k
      kept k d a u = let o = m.old k (omega arith) d in let j = f.keeps k (omega arith) (rw o at u) in (j.0, o ∙ j.1)

      Safe : ℕ → Type 0
      Safe k = t.R ≤ k → k < s.S → s.held k ≡ [] → Full (t.stored k)

      safe : (k : ℕ) → k ≢ n → Safe k
      safe k d a l e = rw (m.old k (omega arith) d) (f.safe k (omega arith) l e)

  -- .. or message R is handed out.
  pub hand_flow : (t : Receives) → Full (r.stored r.R) → HandOutMove r t → Flow w s t taken (handed ++ (r.stored r.R ∷ []))
  hand_flow t v m =
      record {
        count = f.count;
        low = omega arith;
        mid = omega (arith, next.0);
        high = f.high;
        solid = f.solid;
        sends = f.sends;
        keeps = λ n a u. let o = m.old n (omega arith) in let j = f.keeps n (omega arith) (rw o at u) in (j.0, o ∙ j.1);
        safe = λ n a l e. rw (m.old n (omega arith)) (f.safe n (omega arith) l e);
        out = rw (m.next, f.out, next.1) (sym (take-suc taken r.R [] (omega (arith, next.0))));
      }
    where
      next : (r.R < s.S) × (r.stored r.R ≡ get_or taken r.R [])
      next = f.keeps r.R (omega arith) v

  -- A message that waits is read from the end that has it.
  waits : (n : ℕ) → r.R ≤ n → n < s.S → first_stays (r.stored n) (s.held n) ≡ get_or taken n []
  waits n a l = none_or (r.stored n) (λ e. rw e (sent e)) (λ v. first_stays_old (r.stored n) (s.held n) v ∙ (f.keeps n a v).1)
    where
      sent : r.stored n ≡ [] → s.held n ≡ get_or taken n []
      sent e = none_or (s.held n) (λ u. not_none (f.safe n a l u) e) (f.sends n (omega arith) l)

  span_drop : (k n : ℕ) → r.R ≤ n → n + k ≡ s.S → span s r n k ≡ drop n taken
  span_drop zero n a e = sym (drop_of_length-le taken {i = n} (omega arith))
  span_drop (suc k) n a e = rw (drop-cons taken n [] (omega arith), waits n a (omega arith), span_drop k (suc n) (omega arith) (omega arith))

  -- the messages taken are those handed out, in order and octet for octet, followed by those that wait
  pub taken_all : taken ≡ handed ++ waiting s r
  unfolding waiting
  taken_all = rw (span_drop (s.S - r.R) r.R (omega arith) (omega arith), f.out) (sym (take-append-drop r.R taken))
