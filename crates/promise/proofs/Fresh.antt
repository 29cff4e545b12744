-- Where nothing is held, stored or owed an end shows nothing, whatever its store: two fresh ends are joined, and so they stay while a line is
-- opened, changes its modes or lies beside others that are at work in the store.
-- Assumes nothing.
use Prim.Native.Nat.{ℕ, ◌-◌, ◌≤◌, ◌<◌}
use mathlib.Core.Path.{◌≡◌, refl, sym, ap, subst, ◌∙◌, fun_ext}
use mathlib.Core.Bool.{Bool, true}
use mathlib.Core.List.{List, []}
use native.Mathlib.Omega.{arith}
use lib.Dec.{lit<, eqb}
use lib.ListN.{length}
use Rattle.ground.proofs.Picks.{pick_by}
use Rattle.places.specs.Places.{mask_of, set_of}
use Rattle.places.proofs.Masks.{none_bit}
use Rattle.channel.specs.Channel.{window_of}
use Rattle.sending.specs.Sending.{fresh_sending, emptied_sending, sending_fits}
use Rattle.receiving.specs.Receiving.{fresh_receiving, emptied_receiving, receiving_fits}
use Rattle.sending.specs.declared.Sending.{Sending}
use Rattle.receiving.specs.declared.Receiving.{Receiving}
use Rattle.flow.proofs.Keeps.{fresh_sending_lem, fresh_receiving_lem}
use Rattle.flow.specs.Flow.{Sends, Receives, Flow, Grows}
use Rattle.flow.specs.View.{sends, receives}
use Rattle.flow.proofs.Messages.{message_none}
use Rattle.owed.specs.Owed.{owed_of, fresh_owed}
use Rattle.line.specs.Fit.{line_fits}
use Rattle.line.specs.Figures.{send_window, receive_window, send_largest, receive_largest}
use Rattle.line.specs.Part.{part_length}
use Rattle.line.specs.Line.{closed_line, opened_line, sending_of, receiving_of}
use Rattle.line.specs.Mode.{stepped_to}
use Rattle.line.specs.Shape.{Shaped}
use Rattle.line.specs.declared.Line.{Line}
use Rattle.line.specs.declared.Settings.{Settings}
use Rattle.mode.specs.declared.Modes.{Modes}
use Rattle.mode.specs.declared.Channels.{Channels}
use Rattle.mode.specs.declared.Channels.TheVariants.{Stay, Fresh, Emptied}
use Rattle.store.specs.declared.Way.TheVariants as way
use Rattle.relay.specs.RelayTests.{reliable}
use Rattle.channel.proofs.Windows.{window_narrow}
use Rattle.promise.specs.Past.{Past}
use Rattle.promise.specs.Run.{Each, none}
use Rattle.promise.specs.Ends.{slots_of, sends_of, receives_of}
use Rattle.promise.proofs.Lists.{each_map}
use Rattle.promise.specs.Notes.{Noted}
use Rattle.promise.proofs.Ends.{End, Sides, Whole, Joined, sent, got, came_on, said_on, grows_none, flow_as}

-- both channels as they start, and nothing owed
pub record Unused (l : Line) : Type 0 where
  pub sending : (c : ℕ) → sending_of l c ≡ fresh_sending
  pub receiving : (c : ℕ) → receiving_of l c ≡ fresh_receiving
  pub owed : l.owed ≡ fresh_owed

unused_by : (l : Line) → l.sending.one ≡ fresh_sending → l.sending.two ≡ fresh_sending → l.receiving.one ≡ fresh_receiving → l.receiving.two ≡ fresh_receiving → l.owed ≡ fresh_owed → Unused l
unused_by l a b c d o =
    record {
      sending = λ n. pick_by (λ (s : Sending). s ≡ fresh_sending) (eqb n 1) (λ _. a) (λ _. b);
      receiving = λ n. pick_by (λ (r : Receiving). r ≡ fresh_receiving) (eqb n 1) (λ _. c) (λ _. d);
      owed = o;
    }

pub closed_unused : Unused closed_line
closed_unused = unused_by closed_line refl refl refl refl refl

pub opened_unused : (s : Settings) (time : ℕ) → Unused (opened_line s time)
opened_unused s time = unused_by (opened_line s time) refl refl refl refl refl

-- and so is one that was not used, however its modes change: "Entering m starts both channels fresh", and there is nothing to empty
pub stepped_unused : (l : Line) (m : Modes) (k : Channels) → Unused l → Unused (stepped_to l m k)
unfolding stepped_to emptied_sending emptied_receiving
stepped_unused l m Stay u = unused_by (stepped_to l m Stay) (u.sending 1) (u.sending 2) (u.receiving 1) (u.receiving 2) u.owed
stepped_unused l m Fresh u = unused_by (stepped_to l m Fresh) refl refl refl refl refl
stepped_unused l m Emptied u =
    unused_by (stepped_to l m Emptied) (ap emptied_sending (u.sending 1)) (ap emptied_sending (u.sending 2)) (ap emptied_receiving (u.receiving 1)) (ap emptied_receiving (u.receiving 2)) refl

module _ {l : Line} (u : Unused l) where
  pub unused_shaped : Shaped l
  unused_shaped =
      record {
        sending1 = ap (λ (s : Sending). length s.sizes) (u.sending 1);
        sending2 = ap (λ (s : Sending). length s.sizes) (u.sending 2);
        receiving1 = ap (λ (r : Receiving). length r.sizes) (u.receiving 1);
        receiving2 = ap (λ (r : Receiving). length r.sizes) (u.receiving 2);
      }

  pub unused_sides : Sides l
  unused_sides =
      record {
        sending = λ c. subst (λ (s : Sending). sending_fits (send_window l c) (send_largest l) s ≡ true) (sym (u.sending c)) (fresh_sending_lem (send_window l c) (send_largest l) (window_narrow c) (some c));
        receiving = λ c. subst (λ (r : Receiving). receiving_fits (receive_window l c) (receive_largest l) r ≡ true) (sym (u.receiving c)) (fresh_receiving_lem (receive_window l c) (receive_largest l) (window_narrow c) (some c));
      }
    where
      some : (c : ℕ) → 0 < window_of c
      some c = pick_by (λ (w : ℕ). 0 < w) (eqb c 1) (λ _. lit< tt) (λ _. lit< tt)

  -- it shows nothing
  abbrev no_sends : Sends
  no_sends = record { S = 0; h = 0; held = λ n. [] }

  abbrev no_receives : Receives
  no_receives = record { R = 0; stored = λ n. [] }

  pub unused_sends : (part : List ℕ) (c : ℕ) → sends_of part l c ≡ no_sends
  unused_sends part c =
      let slots = slots_of l part way.Sending c in
      let f = fun_ext (λ n. message_none (send_window l c) slots fresh_sending.sizes (mask_of (set_of 0)) 0 (n - 0) (none_bit (n - 0))) in
      ap (sends (send_window l c) slots) (u.sending c) ∙ (λ t. record { S = 0; h = 0; held = f t })

  pub unused_receives : (part : List ℕ) (c : ℕ) → receives_of part l c ≡ no_receives
  unused_receives part c =
      let slots = slots_of l part way.Receiving c in
      let f = fun_ext (λ n. message_none (receive_window l c) slots fresh_receiving.sizes (mask_of (set_of 0)) 0 (n - 0) (none_bit (n - 0))) in
      ap (receives (receive_window l c) slots) (u.receiving c) ∙ (λ t. record { R = 0; stored = f t })

-- the past of a line that nothing has become of
abbrev pub no_past : Bool → Past
no_past b = record { opened = b; taken = λ c. []; handed = λ c. []; wrote = []; owes = []; came = [] }

fresh_whole : (l : Line) (part : List ℕ) (b : Bool) → Unused l → line_fits l ≡ true → part_length l ≤ length part
    → Whole (record { line = l; part = part; past = no_past b })
fresh_whole l part b u fits long =
    record { fits = fits; shaped = unused_shaped u; sides = unused_sides u; long = long; owed = ap owed_of u.owed; owes = none; came = none; said = none }

fresh_flow : (w : ℕ) → Flow w (record { S = 0; h = 0; held = λ n. [] }) (record { R = 0; stored = λ n. [] }) [] []
fresh_flow w =
    record {
      count = refl;
      low = omega arith;
      mid = omega arith;
      high = omega arith;
      solid = λ n q. absurd (omega arith);
      sends = λ n a q v. absurd v;
      keeps = λ n a v. absurd v;
      safe = λ n a q e. absurd (omega arith);
      out = refl;
    }

-- "Take two fresh gateways": the ends of a line that neither has used
pub fresh_joined : (l m : Line) (s t : List ℕ) (a b : Bool) → Unused l → Unused m → line_fits l ≡ true → line_fits m ≡ true → part_length l ≤ length s → part_length m ≤ length t
    → Joined (record { line = l; part = s; past = no_past a }) (record { line = m; part = t; past = no_past b })
fresh_joined l m s t a b u v fl fm ls lt =
    record {
      mine = fresh_whole l s a u fl ls;
      yours = fresh_whole m t b v fm lt;
      there = λ c r. flow_as (unused_sends u s c) (unused_receives v t c) refl refl (fresh_flow (send_window l c));
      back = λ c r. flow_as (unused_sends v t c) (unused_receives u s c) refl refl (fresh_flow (send_window m c));
    }

-- an end with another record, another part of the store, and open or not
abbrev pub with_state : End → Line → List ℕ → Bool → End
with_state e l part b =
    record {
      line = l;
      part = part;
      past = record { opened = b; taken = e.past.taken; handed = e.past.handed; wrote = e.past.wrote; owes = e.past.owes; came = e.past.came };
    }

-- It shows what it showed.
module _ {e f : End} (j : Joined e f) (l : Line) (part : List ℕ) (b : Bool) where
  abbrev anew : End
  anew = with_state e l part b

  same_joined : line_fits l ≡ true → Shaped l → Sides l → part_length l ≤ length part → owed_of l.owed ≡ owed_of e.line.owed
      → ((c : ℕ) → reliable c ≡ true → sent anew c ≡ sent e c) → ((c : ℕ) → reliable c ≡ true → got anew c ≡ got e c)
      → Each (Noted l.identifier l.kind e.past.taken (got e)) e.past.wrote → Joined anew f
  same_joined fits shaped sides long owed sending gets says =
      let grows : (c : ℕ) → reliable c ≡ true → Grows (got e c) (got anew c) = λ c r. grows_none (gets c r) in
      record {
        mine = record {
          fits = fits;
          shaped = shaped;
          sides = sides;
          long = long;
          owed = owed ∙ j.mine.owed;
          owes = each_map (came_on grows) j.mine.owes;
          came = each_map (came_on grows) j.mine.came;
          said = each_map (said_on grows (λ c n x d. d) refl refl) says;
        };
        yours = j.yours;
        there = λ c r. flow_as (sending c r) refl refl refl (j.there c r);
        back = λ c r. flow_as refl (gets c r) refl refl (j.back c r);
      }

  -- the line is not used yet and stays so: it is opened, changes its modes, enters modem relay, or anything is done to the store
  pub unused_joined : Unused e.line → Unused l → line_fits l ≡ true → part_length l ≤ length part → e.past.wrote ≡ [] → Joined (with_state e l part b) f
  unused_joined u v fits long nothing =
      same_joined fits (unused_shaped v) (unused_sides v) long (ap owed_of v.owed ∙ sym (ap owed_of u.owed))
      (λ c r. unused_sends v part c ∙ sym (unused_sends u e.part c))
      (λ c r. unused_receives v part c ∙ sym (unused_receives u e.part c))
      (rw nothing none)

-- the line stays in modem relay, and changes its modes at most
pub moded_joined : {e f : End} (j : Joined e f) (m : Modes) → line_fits (stepped_to e.line m Stay) ≡ true
    → Joined (record { line = stepped_to e.line m Stay; part = e.part; past = e.past }) f
unfolding stepped_to
moded_joined {e} j m fits =
    let l = stepped_to e.line m Stay in
    let k = j.mine in
    same_joined j l e.part e.past.opened fits
    (record { sending1 = k.shaped.sending1; sending2 = k.shaped.sending2; receiving1 = k.shaped.receiving1; receiving2 = k.shaped.receiving2 })
    (record { sending = k.sides.sending; receiving = k.sides.receiving }) k.long refl (λ c r. refl) (λ c r. refl) k.said
