-- What each step leaves in the record, case by case, and that it is the step on the list.
-- Assumes nothing.
use Prim.Native.Nat.{ℕ, ◌+◌, ◌-◌, ◌≤◌, ◌<◌, min}
use mathlib.Core.Path.{◌≡◌, refl, sym, ap, ◌∙◌}
use mathlib.Core.Bool.{true, false, ◌||◌}
use mathlib.Core.List.{List, [], ◌∷◌, ◌++◌, append_assoc}
use native.Mathlib.Nat.{zero-add}
use native.Mathlib.Numerals.{add-one}
use native.Mathlib.Omega.{arith}
use lib.Dec.{leb}
use lib.ListN.{length, set, take, drop, length-drop, length-take, length-append, take-append-drop}
use lib.Seq.{paste, set_split, take-append_seam, length-take-le}
use borrow.Author.Tests.{leb-true, leb-false, le-leb, lt-leb}
use Rattle.std.proofs.lemmas.Bool.{or_right, or_parts}
use Rattle.std.proofs.lemmas.Slice.{between_is}
use Rattle.ground.proofs.Picks.{both_true, pick_by, and_false}
use Rattle.field.specs.Word.{channel_of, number_of, word_of, served}
use Rattle.owed.specs.Owed.{owed_of, with_list, member, enters, entered, without_three, no_twice, all_spans, owed_fits, fresh_owed}
use Rattle.owed.specs.declared.Owed.{Owed}
use Rattle.owed.proofs.Lists.{twice_last, once_rest, spans_last, spans_rest}

module _ (o : Owed) (h : o.count ≤ length o.numbers) where
  many : length (owed_of o) ≡ o.count
  many = length-take-le o.count o.numbers h

  -- a list put back as it was
  back : with_list o (owed_of o) ≡ o
  back =
      ap (λ (n : ℕ). record { numbers = owed_of o ++ drop n o.numbers; count = n }) many
      ∙ ap (λ (xs : List ℕ). record { numbers = xs; count = o.count }) (take-append-drop o.count o.numbers)

  -- the list is full
  pub entered_full : (word : ℕ) → 64 ≤ o.count → entered o word ≡ o
  unfolding entered enters
  entered_full word l = rw (le-leb 64 (length (owed_of o)) (omega (arith, many))) back

  -- the word is there
  pub entered_there : (word : ℕ) → member word (owed_of o) ≡ true → entered o word ≡ o
  unfolding entered enters
  entered_there word t = rw (or_right (leb 64 (length (owed_of o))) (member word (owed_of o)) t) back

  -- it is not, and there is room
  pub entered_new : (word : ℕ) → o.count < 64 → o.count < length o.numbers → member word (owed_of o) ≡ false
      → entered o word ≡ record { numbers = set o.numbers o.count word; count = o.count + 1 }
  unfolding entered enters
  entered_new word l k f =
      let len : length (owed_of o ++ (word ∷ [])) ≡ o.count + 1 = length-append (owed_of o) (word ∷ []) ∙ ap (λ (n : ℕ). n + 1) many in
      rw (lt-leb 64 (length (owed_of o)) (omega (arith, many)), f)
      (ap (λ (n : ℕ). record { numbers = (owed_of o ++ (word ∷ [])) ++ drop n o.numbers; count = n }) len
      ∙ ap (λ (xs : List ℕ). record { numbers = xs; count = o.count + 1 })
      (append_assoc (owed_of o) (word ∷ []) (drop (o.count + 1) o.numbers)
      ∙ ap (λ (n : ℕ). owed_of o ++ (word ∷ drop n o.numbers)) (add-one o.count)
      ∙ sym (set_split o.numbers o.count word k)))

  -- three leave, or all if fewer, and each other moves down by three
  pub left : without_three o ≡ record { numbers = paste o.numbers 0 (drop 3 o.numbers) (o.count - 3); count = o.count - 3 }
  unfolding without_three
  left =
      let n = o.count - 3 in
      let len : length (take n (drop 3 o.numbers)) ≡ n = length-take-le n (drop 3 o.numbers) (omega (arith, length-drop 3 o.numbers)) in
      ap (with_list o) (sym (between_is o.numbers 3 o.count))
      ∙ ap (λ (k : ℕ). record { numbers = take n (drop 3 o.numbers) ++ drop k o.numbers; count = k }) len
      ∙ ap (λ (k : ℕ). record { numbers = take n (drop 3 o.numbers) ++ drop k o.numbers; count = n }) (sym (zero-add n))

-- how many the first three are
pub three : (o : Owed) → 3 ≤ length o.numbers → min o.count 3 ≡ min 3 (length (owed_of o))
three o h = omega (arith, length-take o.count o.numbers)

-- The list after a step is the step on the list.
pub list_of : (o : Owed) (l : List ℕ) → owed_of (with_list o l) ≡ l
list_of o l = take-append_seam l (drop (length l) o.numbers)

pub entered_list : (o : Owed) (word : ℕ) → owed_of (entered o word) ≡ enters (owed_of o) word
unfolding entered
entered_list o word = list_of o (enters (owed_of o) word)

pub three_leave : (o : Owed) → owed_of (without_three o) ≡ drop 3 (owed_of o)
unfolding without_three
three_leave o = list_of o (drop 3 (owed_of o))

-- What BOOK asks, as facts; every step keeps it.
pub record OwedOk (o : Owed) : Type 0 where
  pub few : o.count ≤ 64
  pub spans : all_spans (owed_of o) ≡ true
  pub once : no_twice (owed_of o) ≡ true

pub owed_ok : (o : Owed) → owed_fits o ≡ true → OwedOk o
unfolding owed_fits
owed_ok o t =
    let a = both_true (leb o.count 64) _ t in
    let b = both_true (all_spans (owed_of o)) _ a.1 in
    record { few = leb-true _ _ a.0; spans = b.0; once = b.1 }

pub owed_fits_lem : (o : Owed) → OwedOk o → owed_fits o ≡ true
unfolding owed_fits
owed_fits_lem o k = rw (le-leb _ _ k.few, k.spans, k.once)

-- and what fails it
pub fits_many : (o : Owed) → 64 < o.count → owed_fits o ≡ false
unfolding owed_fits
fits_many o h = rw (lt-leb _ _ h)

pub fits_span : (o : Owed) → all_spans (owed_of o) ≡ false → owed_fits o ≡ false
unfolding owed_fits
fits_span o e = rw e (and_false (leb o.count 64))

pub fits_twice : (o : Owed) → no_twice (owed_of o) ≡ false → owed_fits o ≡ false
unfolding owed_fits
fits_twice o e = rw (e, and_false (all_spans (owed_of o))) (and_false (leb o.count 64))

listed : (o : Owed) (l : List ℕ) → length l ≤ 64 → all_spans l ≡ true → no_twice l ≡ true → owed_fits (with_list o l) ≡ true
listed o l a b c = owed_fits_lem (with_list o l) (record { few = a; spans = ap all_spans (list_of o l) ∙ b; once = ap no_twice (list_of o l) ∙ c })

few_owed : (o : Owed) → o.count ≤ 64 → length (owed_of o) ≤ 64
few_owed o h = omega (arith, length-take o.count o.numbers)

pub enter_keeps : (o : Owed) (word : ℕ) → owed_fits o ≡ true → served word ≡ true → owed_fits (entered o word) ≡ true
unfolding entered enters
enter_keeps o word t s =
    let k = owed_ok o t in
    let l = owed_of o in
    pick_by (λ (m : List ℕ). owed_fits (with_list o m) ≡ true) (leb 64 (length l) || member word l)
    (λ e. listed o l (few_owed o k.few) k.spans k.once)
    (λ e. new l (few_owed o k.few) k.spans k.once e)
  where
    new : (l : List ℕ) → length l ≤ 64 → all_spans l ≡ true → no_twice l ≡ true → (leb 64 (length l) || member word l) ≡ false
        → owed_fits (with_list o (l ++ (word ∷ []))) ≡ true
    new l a b c e =
        let f = or_parts (leb 64 (length l)) (member word l) e in
        let g : length l < 64 = leb-false _ _ f.0 in
        listed o (l ++ (word ∷ [])) (omega (arith, length-append l (word ∷ []))) (rw (spans_last word l, b, s)) (rw (twice_last word l, c, f.1))

pub leave_keeps : (o : Owed) → owed_fits o ≡ true → owed_fits (without_three o) ≡ true
unfolding without_three
leave_keeps o t =
    let k = owed_ok o t in
    listed o (drop 3 (owed_of o)) (omega (arith, length-drop 3 (owed_of o), few_owed o k.few)) (spans_rest 3 (owed_of o) k.spans)
    (once_rest 3 (owed_of o) k.once)

pub fresh_fits : owed_fits fresh_owed ≡ true
unfolding owed_fits all_spans no_twice
fresh_fits = refl

-- A word and its parts.
pub word_channel : (channel number : ℕ) → number < 16384 → channel_of (word_of channel number) ≡ channel
word_channel channel number l = omega arith

pub word_number : (channel number : ℕ) → number < 16384 → number_of (word_of channel number) ≡ number
word_number channel number l = omega arith

-- the word of a channel that is served may enter
pub word_span : (channel number : ℕ) → number < 16384 → 1 ≤ channel → channel ≤ 2 → served (word_of channel number) ≡ true
word_span channel number l a b = rw (word_channel channel number l, le-leb _ _ a, le-leb _ _ b)
