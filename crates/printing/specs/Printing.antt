-- What the contracts of the printers cite: the room after a text was printed into it.
-- Assumes nothing.
use Rattle.std.specs.Prelude.{ℕ, ◌+◌, min, ◌≡◌, cond, List, [], ◌∷◌, ◌++◌, eqb, length, drop, Option, Some, None}
use Rattle.std.proofs.lemmas.List.Edits.{sets}
use Rattle.std.specs.Fmt.{decimal}
use Rattle.io.specs.Digits.{last_digits}

-- `text` printed into `room` from the place `at` on leaves `after`, and r is the place behind it: each byte is stored at its place, and one
-- whose place is past the end is left out, so that the place behind is the end at most
abbrev pub Prints : List ℕ → ℕ → List ℕ → List ℕ → ℕ → Type 0
Prints room at text after r = (r ≡ min (at + length text) (length room)) × (after ≡ sets room at text)

-- a set in text: 16 hex digits
unfoldable pub hex_text : ℕ → List ℕ
hex_text set = last_digits 16 16 set

-- the number that the byte b of a form stands for, where `numbers` are left: one for a mark, `#` (35) or `%` (37), while there are some
unfoldable pub spent : ℕ → List ℕ → Option ℕ
spent b [] = None
spent b (n ∷ numbers) = cond (eqb b 35) (Some n) (cond (eqb b 37) (Some n) None)

-- the numbers that are left behind it
abbrev pub left_of : Option ℕ → List ℕ → List ℕ
left_of None numbers = numbers
left_of (Some n) numbers = drop 1 numbers

-- the text of the byte b of a form: itself where it stands for no number, else the number n, in hex for `%`
abbrev pub part_text : Option ℕ → ℕ → List ℕ
part_text None b = b ∷ []
part_text (Some n) b = cond (eqb b 37) (hex_text n) (decimal n)

-- a form in text
unfoldable pub form_text : List ℕ → List ℕ → List ℕ
form_text [] numbers = []
form_text (b ∷ form) numbers =
    part_text (spent b numbers) b ++ form_text form (left_of (spent b numbers) numbers)
