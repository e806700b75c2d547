-- What the contracts of this crate cite: where reading stands in a line, and what stands there.
-- Assumes nothing.
use Rattle.std.specs.Prelude.{ℕ, ◌+◌, Bool, false, cond, ◌&&◌, ◌||◌, List, ltb, eqb, length, get_or, Option, Some, None}
use Rattle.std.specs.List.{position, list_all}
use Rattle.std.specs.Option.{unwrap_or}

-- whether a line of n bytes is read to its end: the cursor stands behind the last byte
abbrev pub is_end : ℕ → Option ℕ → Bool
is_end n (Some k) = eqb k n
is_end n None = false

-- how many bytes of s stand before the first b: all of them where there is no b
abbrev pub first_index : ℕ → List ℕ → ℕ
first_index b s = unwrap_or (position (λ x. eqb x b) s) (length s)

-- whether a script may have the byte x: B, F, b or f
abbrev pub is_letter : ℕ → Bool
is_letter x = eqb x 66 || (eqb x 70 || (eqb x 98 || eqb x 102))

-- a script: letters only, and at least one
abbrev pub is_script : List ℕ → Bool
is_script s = ltb 0 (length s) && list_all is_letter s

-- the cursor behind the byte b, where b stands in s at the cursor; else none
unfoldable pub skipped : List ℕ → Option ℕ → ℕ → Option ℕ
skipped s (Some k) b = cond (ltb k (length s) && eqb (get_or s k 0) b) (Some (k + 1)) None
skipped s None b = None
