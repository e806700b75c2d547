-- What a printer shows as it goes: a text in the room, one text behind another, a form byte by byte, and how long a text is.
-- Assumes nothing.
use Prim.Native.Nat.{ℕ, zero, suc, ◌+◌, ◌-◌, ◌*◌, ◌/◌, ◌%◌, ◌^◌, ◌<◌, ◌≤◌, min}
use mathlib.Core.Path.{◌≡◌, refl, sym, ◌∙◌, ap}
use mathlib.Core.Bool.{Bool, true, false, cond}
use mathlib.Core.List.{List, [], ◌∷◌, ◌++◌, append_assoc}
use native.Mathlib.Numerals.{add-one}
use native.Mathlib.Decide.{dec_lt}
use native.Mathlib.Omega.{arith}
use borrow.Rule.Slice.PartMut.{put_mid}
use lib.ListN.{length, get_or, take, drop, set, length-append, length-take, drop_of_length-le}
use lib.Seq.{paste, drop-cons, set_out, length-sets}
use Rattle.std.specs.Prelude.{Option, Some, None, eqb, ⊤}
use Rattle.std.specs.Fmt.{decimal}
use Rattle.std.proofs.lemmas.Slice.{put_mid-paste}
use Rattle.std.proofs.lemmas.List.{take-append-drop, take_all}
use Rattle.std.proofs.lemmas.Fmt.{length-decimal-le}
use Rattle.std.proofs.lemmas.List.Edits.{sets, sets-eq, paste_all}
use Rattle.io.specs.Digits.{hex_digit_ascii, last_digits}
use Rattle.printing.specs.InRoom.{InRoom}
use Rattle.printing.specs.Printing.{Prints, hex_text, spent, left_of, part_text, form_text}

-- from the end of the room on nothing is stored
pub stores_past : (room : List ℕ) (to : ℕ) (text : List ℕ) → length room ≤ to → sets room to text ≡ room
stores_past room to [] h = refl
stores_past room to (b ∷ text) h = rw (set_out room to b h) (stores_past room (suc to) text (omega arith))

-- one text behind another
stores_append : (l : List ℕ) (i : ℕ) (a b : List ℕ) → sets (sets l i a) (i + length a) b ≡ sets l i (a ++ b)
stores_append l i [] b = let e : i + 0 ≡ i = omega arith in ap (λ (x : ℕ). sets l x b) e
stores_append l i (y ∷ a) b =
    let e : i + suc (length a) ≡ suc i + length a = omega arith in
    ap (λ (x : ℕ). sets (sets (set l i y) (suc i) a) x b) e ∙ stores_append (set l i y) (suc i) a b

-- a start past the end of the room is as good as its end
stores_from : (room t : List ℕ) (i a : ℕ) → a ≡ min i (length room) → sets room a t ≡ sets room i t
stores_from room t i a e =
    elim (dec_lt (length room) i) [
      | yes h ↦ stores_past room a t (omega arith) ∙ sym (stores_past room i t (omega arith))
      | no h ↦ ap (λ (x : ℕ). sets room x t) (omega arith)
    ]

-- what of a text is past the end of the room is left out
stores_part : (room text : List ℕ) (i k : ℕ) → k ≡ min (length text) (length room - i) → sets room i (take k text) ≡ sets room i text
stores_part room text i k e =
    let kept = length-take k text in
    let same = length-sets room i (take k text) in
    elim (dec_lt k (length text)) [
      | yes h ↦
          sym (stores_past (sets room i (take k text)) (i + length (take k text)) (drop k text) (omega arith))
          ∙ stores_append room i (take k text) (drop k text)
          ∙ ap (sets room i) (take-append-drop k text)
      | no h ↦ ap (sets room i) (take_all k text (omega arith))
    ]

-- a text is printed by its part that fits, in its place
pub prints_fitting : (room text part : List ℕ) (i a k e : ℕ) → a ≡ min i (length room) → k ≡ min (length text) (length room - a) → e ≡ k → part ≡ take k text
    → Prints room i text (put_mid a e room part) (a + k)
prints_fitting room text part i a k e place fits is kept =
    let size : k ≡ length part = omega (arith, ap length kept, length-take k text) in
    let pasted : put_mid a e room part ≡ paste room a part k = put_mid-paste a e room part part k refl (sym is) size in
    let stored : paste room a part k ≡ sets room a part = paste_all room a part k size ∙ rw (size, ← append_assoc) (sym (sets-eq part room a (omega arith))) in (
      omega arith,
      pasted ∙ stored ∙ ap (sets room a) kept ∙ stores_part room text a k fits ∙ stores_from room text i a place,
    )

-- s printed into l at i, and t into m at j, leave the same room and the same place behind
abbrev pub Same : List ℕ → ℕ → List ℕ → List ℕ → ℕ → List ℕ → Type 0
Same l i s m j t = (min (i + length s) (length l) ≡ min (j + length t) (length m)) × (sets l i s ≡ sets m j t)

-- what is printed behind a text, as good as both printed where the text begins
pub prints_then : (room a mid b : List ℕ) (i q : ℕ) → Prints room i a mid q → Same mid q b room i (a ++ b)
prints_then room a mid b i q p =
    let size : length mid ≡ length room = ap length p.1 ∙ length-sets room i a in
    let both : length (a ++ b) ≡ length a + length b = length-append a b in (
      omega (arith, p.0),
      stores_from mid b (i + length a) q (omega (arith, p.0))
          ∙ ap (λ (l : List ℕ). sets l (i + length a) b) p.1
          ∙ stores_append room i a b,
    )

-- two texts, one printed behind the other
pub prints_both : (room mid after a b : List ℕ) (at q r : ℕ) → Prints room at a mid q → Prints mid q b after r → Prints room at (a ++ b) after r
prints_both room mid after a b at q r first second =
    let joined = prints_then room a mid b at q first in (second.0 ∙ joined.0, second.1 ∙ joined.1)

-- a form from its next byte on comes to the same place and the same room, before that byte is printed and behind
pub form_moves : (out after form numbers left room t : List ℕ) (number : Option ℕ) (i r j k : ℕ) → k < length form → number ≡ spent (get_or form k 0) numbers → left ≡ left_of number numbers
    → Prints out i (part_text number (get_or form k 0)) after r → Same out i (form_text (drop k form) numbers) room j t
    → Same after r (form_text (drop (k + 1) form) left) room j t
unfolding form_text
form_moves out after form numbers left room t number i r j k h is rest shown so_far =
    let byte = get_or form k 0 in
    let text = part_text number byte in
    let next = prints_then out text after (form_text (drop (k + 1) form) left) i r shown in
    let whole : form_text (drop k form) numbers ≡ text ++ form_text (drop (k + 1) form) left =
    rw (drop-cons form k 0 h, rest, is, add-one k) in
    let begun : Same out i (text ++ form_text (drop (k + 1) form) left) room j t = rw whole at so_far in
    (next.0 ∙ begun.0, next.1 ∙ begun.1)

pub form_begins : (room t : List ℕ) (i a : ℕ) → a ≡ min i (length room) → Same room a t room i t
form_begins room t i a e = (omega arith, stores_from room t i a e)

pub form_ends : (room out form numbers text : List ℕ) (i q k : ℕ) → length form ≤ k → q ≤ length out
    → Same out q (form_text (drop k form) numbers) room i text → Prints room i text out q
unfolding form_text
form_ends room out form numbers text i q k h within same =
    let done : Same out q [] room i text = rw (drop_of_length-le form h) at same in
    (omega (arith, done.0), done.1)

-- ---- how long a text is

-- the last k digits are k bytes
digits_size : (k n : ℕ) → length (last_digits 16 k n) ≡ k
digits_size zero n = refl
digits_size (suc k) n = omega (arith, digits_size k (n / 16), length-append (last_digits 16 k (n / 16)) (hex_digit_ascii (n % 16) ∷ []))

-- a number below 2 ^ 64 is at most 20 bytes: 16 digits in hex, or as many as it has in decimal
number_size : (hex : Bool) (n : ℕ) → n < 2 ^ 64 → length (cond hex (hex_text n) (decimal n)) ≤ 20
unfolding hex_text
number_size true n fits = omega (arith, digits_size 16 n)
number_size false n fits = length-decimal-le 20 n (omega arith) (omega arith) fits

-- each number fits its type
abbrev pub Fit : List ℕ → Type 0
Fit [] = ⊤
Fit (n ∷ numbers) = (n < 2 ^ 64) × Fit numbers

pub fit_each : (numbers : List ℕ) → ((i : ℕ) → get_or numbers i 0 < 2 ^ 64) → Fit numbers
fit_each [] each = tt
fit_each (n ∷ numbers) each = (each 0, fit_each numbers (λ i. each (suc i)))

-- what the byte b is printed as, and what is left of the numbers, where it stands for `number`: a byte more at most, and 19 for a number that is spent
abbrev Spends : ℕ → Option ℕ → List ℕ → Type 0
Spends b number numbers =
    (length (part_text number b) + 19 * length (left_of number numbers) ≤ 1 + 19 * length numbers) × Fit (left_of number numbers)

mark_spends : (mark hex : Bool) (b n : ℕ) (numbers : List ℕ) → Fit (n ∷ numbers) → Spends b (cond mark (Some n) (cond hex (Some n) None)) (n ∷ numbers)
mark_spends true hex b n numbers fit = (omega (arith, number_size (eqb b 37) n fit.0), fit.1)
mark_spends false true b n numbers fit = (omega (arith, number_size (eqb b 37) n fit.0), fit.1)
mark_spends false false b n numbers fit = (omega arith, fit)

byte_spends : (b : ℕ) (numbers : List ℕ) → Fit numbers → Spends b (spent b numbers) numbers
unfolding spent
byte_spends b [] fit = (omega arith, fit)
byte_spends b (n ∷ numbers) fit = mark_spends (eqb b 35) (eqb b 37) b n numbers fit

-- a form in text has at most a byte for each of its own, and 19 more for each number
pub form_size : (form numbers : List ℕ) → Fit numbers → length (form_text form numbers) ≤ length form + 19 * length numbers
unfolding form_text
form_size [] numbers fit = omega arith
form_size (b ∷ form) numbers fit =
    let number = spent b numbers in
    let spends = byte_spends b numbers fit in
    let left = left_of number numbers in
    omega (arith, spends.0, form_size form left spends.1, length-append (part_text number b) (form_text form left))

-- what was printed ends within the room, as far on as the text is long
pub prints_in_room : (room text after : List ℕ) (at most r : ℕ) → Prints room at text after r → at + length text ≤ most → InRoom after most r
prints_in_room room text after at most r p h = (omega (arith, p.0, ap length p.1, length-sets room at text), omega (arith, p.0))
