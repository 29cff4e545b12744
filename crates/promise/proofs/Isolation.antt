-- Ours is isolated: the laws of one call, and over two sequences of calls by turns.
-- Assumes nothing.
use Prim.Native.Nat.{ℕ, ◌≤◌, ◌<◌}
use mathlib.Core.Path.{◌≡◌, refl, sym, ap, subst, ◌∙◌}
use mathlib.Core.Bool.{Bool, true, false, ◌&&◌}
use mathlib.Core.List.{List, [], ◌∷◌}
use native.Mathlib.Omega.{arith}
use lib.ListN.{length, drop, get_or}
use Rattle.ground.specs.Pick.{pick}
use Rattle.ground.proofs.Picks.{both_true}
use Rattle.line.specs.Line.{is_open}
use Rattle.line.specs.declared.Line.{Line}
use Rattle.book.specs.Book.{book_fits}
use Rattle.book.specs.Parts.{store_length}
use Rattle.book.specs.Shape.{BookShaped}
use Rattle.book.proofs.Parts.{starts_same}
use Rattle.calls.specs.Call.{Call}
use Rattle.laws.specs.LineCalls.{for_line, SameOnLine}
use Rattle.laws.proofs.Keeps.{every_call_keeps, store_length_lem}
use Rattle.laws.proofs.Alone.{OpenAt, line_alone}
use Rattle.laws.proofs.Apart.{elsewhere_stays, identifier_stays}
use Rattle.promise.specs.Build.{ours}
use Rattle.promise.specs.Run.{Gateway, line_at, part_in}
use Rattle.promise.specs.Ours.{does, after}
use Rattle.promise.specs.Demand2.{Ready}
use Rattle.promise.proofs.RestingStays.{resting_stays}
use Rattle.promise.specs.Isolation.{SameLine, Calling, Told, calls_for, Has, Isolated}
use Rattle.promise.specs.Isolation as iso

open_at : {g : Gateway} {i : ℕ} → Ready g i → OpenAt g.book g.store i
open_at r = record { fits = r.fits; shaped = r.shaped; long = r.long; small = r.small; opened = r.opened }

own_same : (i : ℕ) (g h : Gateway) → SameLine i g h → (c : Call) → for_line i (line_at g i).identifier c ≡ true → (out : List ℕ) → SameOnLine i (does g c out) (does h c out)
own_same i g h s c e out = line_alone (open_at s.here) (open_at s.there) s.line s.part c e out

others_same : (i identifier : ℕ) (g : Gateway) → Has g i identifier → BookShaped g.book → (c : Call) → for_line i identifier c ≡ false → (out : List ℕ)
    → (line_at (after g c out) i ≡ line_at g i) × (part_in (after g c out) i ≡ part_in g i)
others_same i identifier g has shaped c e out = let k = elsewhere_stays g.book i identifier has c g.store out shaped e in (k.line, k.part)

-- a gateway whose book passes and whose store is long enough, before a call and after it
pub record Fit (g : Gateway) : Type 0 where
  pub fits : book_fits g.book ≡ true
  pub shaped : BookShaped g.book
  pub long : store_length g.book ≤ length g.store

pub fit_after : (g : Gateway) → Fit g → (c : Call) (out : List ℕ) → Fit (after g c out)
fit_after g k c out =
    let e = every_call_keeps c g.book g.store out k.fits k.shaped in
    record { fits = e.0; shaped = e.1; long = omega (arith, k.long, store_length_lem c g.book g.store out, starts_same g.book (after g c out).book 4 (λ j l. refl)) }

module _ (i x : ℕ) (small : i < 4) where
  abbrev own : List Calling → List Calling
  own = calls_for i x

  abbrev told : Gateway → List Calling → List Told
  told = iso.told_on ours.does i x

  abbrev made : Gateway → List Calling → Gateway
  made = iso.after_all ours.does

  -- the two gateways between calls: the line is open in both or closed in both
  pub record Between (g h : Gateway) : Type 0 where
    pub mine : Fit g
    pub yours : Fit h
    pub has : Has g i x
    pub line : line_at g i ≡ line_at h i
    pub part : part_in g i ≡ part_in h i

  turned : {g h : Gateway} → Between g h → Between h g
  turned b =
      record {
        mine = b.yours;
        yours = b.mine;
        has = λ o. ap (λ (l : Line). l.identifier) (sym b.line) ∙ b.has (ap is_open b.line ∙ o);
        line = sym b.line;
        part = sym b.part;
      }

  -- a call on another line at the one
  passes_by : {g h : Gateway} → Between g h → (c : Calling) → for_line i x c.call ≡ false → Between (after g c.call c.out) h
  passes_by {g} b c e =
      let k = others_same i x g b.has b.mine.shaped c.call e c.out in
      record {
        mine = fit_after g b.mine c.call c.out;
        yours = b.yours;
        has = λ o. ap (λ (l : Line). l.identifier) k.0 ∙ b.has (ap is_open (sym k.0) ∙ o);
        line = k.0 ∙ b.line;
        part = k.1 ∙ b.part;
      }

  -- what is claimed of the rest
  pub record Alike (g h : Gateway) (cs ds : List Calling) : Type 0 where
    pub tells : told g cs ≡ told h ds
    pub line : line_at (made g cs) i ≡ line_at (made h ds) i
    pub part : part_in (made g cs) i ≡ part_in (made h ds) i

  -- what a call on another line, or on this one, adds to what is told
  others_tell : (g : Gateway) (c : Calling) (cs : List Calling) → for_line i x c.call ≡ false → told g (c ∷ cs) ≡ told (after g c.call c.out) cs
  others_tell g c cs e = rw e

  own_tells : (g : Gateway) (c : Calling) (cs : List Calling) → for_line i x c.call ≡ true → told g (c ∷ cs) ≡ record { answer = (does g c.call c.out).answer; out = (does g c.call c.out).out } ∷ told (after g c.call c.out) cs
  own_tells g c cs e = rw e

  -- a call on another line at the second gateway comes between
  waits : {g h : Gateway} (cs : List Calling) (d : Calling) (ds : List Calling) → for_line i x d.call ≡ false → Alike g (after h d.call d.out) cs ds → Alike g h cs (d ∷ ds)
  waits {g} {h} cs d ds e r = record { tells = r.tells ∙ sym (others_tell h d ds e); line = r.line; part = r.part }

  -- nothing more is called for the line
  pub idle : (ds : List Calling) {g h : Gateway} → Between g h → [] ≡ own ds → Alike g h [] ds
  idle [] b e = record { tells = refl; line = b.line; part = b.part }
  idle (d ∷ ds) {g} {h} b e = go (for_line i x d.call) refl (idle ds) e
    where
      go : (t : Bool) → for_line i x d.call ≡ t → (Between g (after h d.call d.out) → [] ≡ own ds → Alike g (after h d.call d.out) [] ds) → [] ≡ pick t (d ∷ own ds) (own ds) → Alike g h [] (d ∷ ds)
      go true q f e = absurd (let z : 0 ≡ length (d ∷ own ds) = ap length e in omega arith)
      go false q f e = waits [] d ds q (f (turned (passes_by (turned b) d q)) e)

  -- The same call for the line at both, while it is open.
  module _ {g h : Gateway} (b : Between g h) (opened : is_open (line_at g i) ≡ true) (c : Calling) (e : for_line i x c.call ≡ true) where
    here : Ready g i
    here = record { fits = b.mine.fits; shaped = b.mine.shaped; long = b.mine.long; small = small; opened = opened }

    there : Ready h i
    there = record { fits = b.yours.fits; shaped = b.yours.shaped; long = b.yours.long; small = small; opened = ap is_open (sym b.line) ∙ opened }

    both : SameOnLine i (does g c.call c.out) (does h c.call c.out)
    both =
        own_same i g h (record { here = here; there = there; line = b.line; part = b.part }) c.call (ap (λ (y : ℕ). for_line i y c.call) (b.has opened) ∙ e) c.out

    both_after : Between (after g c.call c.out) (after h c.call c.out)
    both_after =
        record {
          mine = fit_after g b.mine c.call c.out;
          yours = fit_after h b.yours c.call c.out;
          has = λ o. identifier_stays (open_at here) c.call c.out o ∙ b.has opened;
          line = both.line;
          part = both.part;
        }

    both_tell : (cs ds : List Calling) → Alike (after g c.call c.out) (after h c.call c.out) cs ds → Alike g h (c ∷ cs) (c ∷ ds)
    both_tell cs ds r =
        let tells : ◌≡◌ {A = List Told} (record { answer = (does g c.call c.out).answer; out = (does g c.call c.out).out } ∷ told (after g c.call c.out) cs) (record { answer = (does h c.call c.out).answer; out = (does h c.call c.out).out } ∷ told (after h c.call c.out) ds)
        = λ t. record { answer = both.answer t; out = both.out t } ∷ r.tells t in
        record { tells = own_tells g c cs e ∙ tells ∙ sym (own_tells h c ds e); line = r.line; part = r.part }

  -- what is claimed once the rest of the first sequence is known
  abbrev Rest : List Calling → Type 0
  Rest cs = (ds : List Calling) (g h : Gateway) → Between g h → own cs ≡ own ds → iso.while_open ours.does i x g cs ≡ true → Alike g h cs ds

  -- the first call of the rest is for the line: the other gateway's calls go on until it comes there too
  until : (c : Calling) (cs : List Calling) → for_line i x c.call ≡ true → Rest cs → {g : Gateway} → is_open (line_at g i) ≡ true → iso.while_open ours.does i x (after g c.call c.out) cs ≡ true
      → (ds : List Calling) {h : Gateway} → Between g h → (c ∷ own cs) ≡ own ds → Alike g h (c ∷ cs) ds
  until c cs e rest o later [] b same = absurd (let z : length (c ∷ own cs) ≡ 0 = ap length same in omega arith)
  until c cs e rest {g} o later (d ∷ ds) {h} b same = go (for_line i x d.call) refl (until c cs e rest o later ds) same
    where
      go : (t : Bool) → for_line i x d.call ≡ t → (Between g (after h d.call d.out) → (c ∷ own cs) ≡ own ds → Alike g (after h d.call d.out) (c ∷ cs) ds) → (c ∷ own cs) ≡ pick t (d ∷ own ds) (own ds) → Alike g h (c ∷ cs) (d ∷ ds)
      go true q f same =
          subst (λ (k : Calling). Alike g h (c ∷ cs) (k ∷ ds)) (ap (λ (l : List Calling). get_or l 0 c) same)
          (both_tell b o c e cs ds (rest ds (after g c.call c.out) (after h c.call c.out) (both_after b o c e) (ap (drop 1) same) later))
      go false q f same = waits (c ∷ cs) d ds q (f (turned (passes_by (turned b) d q)) same)

  meets : (cs : List Calling) → Rest cs
  meets [] ds g h b same o = idle ds b same
  meets (c ∷ cs) ds g h b same o = go (for_line i x c.call) refl (meets cs) same o
    where
      g' : Gateway
      g' = after g c.call c.out

      go : (t : Bool) → for_line i x c.call ≡ t → Rest cs → pick t (c ∷ own cs) (own cs) ≡ own ds
          → pick t (is_open (line_at g i) && iso.while_open ours.does i x g' cs) (iso.while_open ours.does i x g' cs) ≡ true → Alike g h (c ∷ cs) ds
      go true q rest same o = let w = both_true _ _ o in until c cs q rest w.0 w.1 ds b same
      go false q rest same o =
          let r = rest ds g' h (passes_by b c q) same o in
          record { tells = others_tell g c cs q ∙ r.tells; line = r.line; part = r.part }

fit : {g : Gateway} {i : ℕ} → Ready g i → Fit g
fit r = record { fits = r.fits; shaped = r.shaped; long = r.long }

-- THE PROMISE: ours is isolated.
pub ours_isolated : Isolated ours
ours_isolated =
    record {
      own = own_same;
      others = others_same;
      runs = λ i g h s cs ds e o.
          let r = meets i (line_at g i).identifier s.here.small cs ds g h (record { mine = fit s.here; yours = fit s.there; has = λ _. refl; line = s.line; part = s.part }) e o in
          (r.tells, r.line, r.part);
      rests = resting_stays;
    }
