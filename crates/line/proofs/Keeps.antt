-- What BOOK asks of an open line as facts, and that opening and every change of mode keep it.
-- Assumes nothing.
use Prim.Native.Nat.{ℕ, ◌≤◌}
use mathlib.Core.Path.{◌≡◌}
use mathlib.Core.Bool.{Bool, true, false}
use native.Mathlib.Omega.{arith}
use lib.Dec.{lit≤, lit<, eqb}
use borrow.Author.Tests.{eq-eqb, ne_eqb, eqb-true, eqb-false}
use Rattle.ground.specs.Pick.{pick}
use Rattle.ground.proofs.Picks.{each, together, pick_by}
use Rattle.ground.proofs.Either.{or_second, or_either}
use Rattle.channel.specs.Channel.{largest}
use Rattle.places.proofs.Masks.{mask_set}
use Rattle.sending.specs.Sending.{sending_fits, emptied_sending}
use Rattle.receiving.specs.Receiving.{receiving_fits, emptied_receiving}
use Rattle.sending.specs.declared.Sending.{Sending}
use Rattle.receiving.specs.declared.Receiving.{Receiving}
use Rattle.flow.proofs.Keeps.{fresh_sending_lem, fresh_receiving_lem, emptied_keeps, cleared_keeps}
use Rattle.mode.specs.Given.{modem}
use Rattle.mode.specs.Fit.{modes_fit}
use Rattle.mode.specs.Moved.{channels_for}
use Rattle.mode.specs.declared.Modes.{Modes}
use Rattle.mode.specs.declared.Channels.{Channels}
use Rattle.mode.proofs.Fits.{opened_fits}
use Rattle.mode.proofs.Emptying.{channels_by}
use Rattle.owed.specs.Owed.{owed_fits}
use Rattle.owed.proofs.Steps.{fresh_fits}
use Rattle.line.specs.Line.{is_open, opened_line, sending_of, receiving_of, with_parts, with_sending, with_receiving}
use Rattle.line.specs.Figures.{send_window, receive_window, send_largest, receive_largest}
use Rattle.line.specs.Fit.{settings_fit, settings_of, idle, line_tests, line_fits}
use Rattle.line.specs.Mode.{stepped_to}
use Rattle.line.specs.declared.Line.{Line}
use Rattle.line.specs.declared.Settings.{Settings}

pub record LineOk (l : Line) : Type 0 where
  pub flag : l.opened ≤ 1
  pub settings : settings_fit (settings_of l) ≡ true
  pub modes : modes_fit l.modes ≡ true
  pub sending1 : sending_fits (send_window l 1) (send_largest l) l.sending.one ≡ true
  pub sending2 : sending_fits (send_window l 2) (send_largest l) l.sending.two ≡ true
  pub receiving1 : receiving_fits (receive_window l 1) (receive_largest l) l.receiving.one ≡ true
  pub receiving2 : receiving_fits (receive_window l 2) (receive_largest l) l.receiving.two ≡ true
  pub owed : owed_fits l.owed ≡ true
  pub quiet : (l.modes.local ≡ modem → ⊥) → idle l ≡ true

-- the test decides the facts
pub line_ok : (l : Line) → is_open l ≡ true → line_fits l ≡ true → LineOk l
unfolding line_fits
line_ok l o e =
    let t = each (line_tests l) (rw o at e) in
    record {
      flag = omega (arith, eqb-true l.opened 1 o);
      settings = t.0;
      modes = t.1.0;
      sending1 = t.1.1.0;
      sending2 = t.1.1.1.0;
      receiving1 = t.1.1.1.1.0;
      receiving2 = t.1.1.1.1.1.0;
      owed = t.1.1.1.1.1.1.0;
      quiet = λ n. or_second (eqb l.modes.local modem) (idle l) t.1.1.1.1.1.1.1.0 (ne_eqb _ _ n);
    }

pub ok_line : (l : Line) → LineOk l → line_fits l ≡ true
unfolding line_fits
ok_line l k =
    pick_by (λ (t : Bool). t ≡ true) (is_open l)
    (λ _. together (line_tests l) (
      k.settings,
      (k.modes, (k.sending1, (k.sending2, (k.receiving1, (k.receiving2, (k.owed, (or_either (eqb l.modes.local modem) (idle l) (λ e. k.quiet (eqb-false _ _ e)), tt))))))),
    ))
    (λ e. eq-eqb l.opened 0 (omega (arith, k.flag, eqb-false l.opened 1 e)))

-- BOOK reads nothing else of a closed line
pub closed_fits : (l : Line) → l.opened ≡ 0 → line_fits l ≡ true
unfolding line_fits
closed_fits l o = rw o

-- a line just opened
pub opened_ok : (s : Settings) (time : ℕ) → settings_fit s ≡ true → LineOk (opened_line s time)
opened_ok s time f =
    record {
      flag = lit≤ tt;
      settings = f;
      modes = opened_fits s.vbd s.relay time;
      sending1 = fresh_sending_lem 32 largest (lit≤ tt) (lit< tt);
      sending2 = fresh_sending_lem 8 largest (lit≤ tt) (lit< tt);
      receiving1 = fresh_receiving_lem 32 largest (lit≤ tt) (lit< tt);
      receiving2 = fresh_receiving_lem 8 largest (lit≤ tt) (lit< tt);
      owed = fresh_fits;
      quiet = λ n. rw mask_set;
    }

-- a change of mode, with what it says of the channels
pub stepped_ok : (l : Line) → LineOk l → (m : Modes) → modes_fit m ≡ true → LineOk (stepped_to l m (channels_for l.modes.local m.local))
unfolding stepped_to emptied_sending emptied_receiving
stepped_ok l k m f =
    channels_by (λ (c : Channels). LineOk (stepped_to l m c)) l.modes.local m.local
    (λ a b. record {
      flag = k.flag;
      settings = k.settings;
      modes = f;
      sending1 = fresh_sending_lem 32 largest (lit≤ tt) (lit< tt);
      sending2 = fresh_sending_lem 8 largest (lit≤ tt) (lit< tt);
      receiving1 = fresh_receiving_lem 32 largest (lit≤ tt) (lit< tt);
      receiving2 = fresh_receiving_lem 8 largest (lit≤ tt) (lit< tt);
      owed = fresh_fits;
      quiet = λ n. rw mask_set;
    })
    (λ a b. record {
      flag = k.flag;
      settings = k.settings;
      modes = f;
      sending1 = emptied_keeps 32 largest (lit≤ tt) l.sending.one k.sending1;
      sending2 = emptied_keeps 8 largest (lit≤ tt) l.sending.two k.sending2;
      receiving1 = cleared_keeps 32 largest (lit≤ tt) l.receiving.one k.receiving1;
      receiving2 = cleared_keeps 8 largest (lit≤ tt) l.receiving.two k.receiving2;
      owed = fresh_fits;
      quiet = λ n. rw mask_set;
    })
    (λ a b. stays (λ n. absurd (n b)))
    (λ a b. stays (λ n. k.quiet a))
  where
    stays : ((m.local ≡ modem → ⊥) → idle l ≡ true) → LineOk (with_parts l m l.sending.one l.sending.two l.receiving.one l.receiving.two l.owed)
    stays q =
        record {
          flag = k.flag;
          settings = k.settings;
          modes = f;
          sending1 = k.sending1;
          sending2 = k.sending2;
          receiving1 = k.receiving1;
          receiving2 = k.receiving2;
          owed = k.owed;
          quiet = q;
        }

-- in modem relay a side may be put anew
module _ (l : Line) (k : LineOk l) (inside : l.modes.local ≡ modem) (channel : ℕ) where
  pub sending_side : sending_fits (send_window l channel) (send_largest l) (sending_of l channel) ≡ true
  sending_side = go (eqb channel 1)
    where
      go : (t : Bool) → sending_fits (pick t 32 8) largest (pick t l.sending.one l.sending.two) ≡ true
      go true = k.sending1
      go false = k.sending2

  pub receiving_side : receiving_fits (receive_window l channel) (receive_largest l) (receiving_of l channel) ≡ true
  receiving_side = go (eqb channel 1)
    where
      go : (t : Bool) → receiving_fits (pick t 32 8) largest (pick t l.receiving.one l.receiving.two) ≡ true
      go true = k.receiving1
      go false = k.receiving2

  pub with_sending_ok : (s : Sending) → sending_fits (send_window l channel) (send_largest l) s ≡ true → LineOk (with_sending l channel s)
  with_sending_ok s f =
      let both = go (eqb channel 1) f in
      record {
        flag = k.flag;
        settings = k.settings;
        modes = k.modes;
        sending1 = both.0;
        sending2 = both.1;
        receiving1 = k.receiving1;
        receiving2 = k.receiving2;
        owed = k.owed;
        quiet = λ n. absurd (n inside);
      }
    where
      go : (t : Bool) → sending_fits (pick t 32 8) largest s ≡ true → (sending_fits 32 largest (pick t s l.sending.one) ≡ true) × (sending_fits 8 largest (pick t l.sending.two s) ≡ true)
      go true p = (p, k.sending2)
      go false p = (k.sending1, p)

  pub with_receiving_ok : (r : Receiving) → receiving_fits (receive_window l channel) (receive_largest l) r ≡ true → LineOk (with_receiving l channel r)
  with_receiving_ok r f =
      let both = go (eqb channel 1) f in
      record {
        flag = k.flag;
        settings = k.settings;
        modes = k.modes;
        sending1 = k.sending1;
        sending2 = k.sending2;
        receiving1 = both.0;
        receiving2 = both.1;
        owed = k.owed;
        quiet = λ n. absurd (n inside);
      }
    where
      go : (t : Bool) → receiving_fits (pick t 32 8) largest r ≡ true → (receiving_fits 32 largest (pick t r l.receiving.one) ≡ true) × (receiving_fits 8 largest (pick t l.receiving.two r) ≡ true)
      go true p = (p, k.receiving2)
      go false p = (k.receiving1, p)
