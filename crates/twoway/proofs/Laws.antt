-- What each return of this crate's functions has to show, and that what a position says loses nothing.
-- Assumes nothing.
use Prim.Native.Nat.{ℕ}
use mathlib.Core.Path.{◌≡◌, refl, ◌∙◌, ap}
use mathlib.Core.Bool.{Bool}
use mathlib.Core.List.{List}
use Rattle.std.specs.Prelude.{Option, None, Some, Result, Ok, Err}
use lib.ListN.{length, get_or}
use borrow.Author.Tests.{eq-eqb, ne_eqb}
use Rattle.limits.specs.Checks.{Check, lengths}
use Rattle.limits.specs.Refusals.{number_of}
use Rattle.limits.specs.Said.{Said, refused, given, LosesNothing}
use Rattle.limits.specs.declared.Refusal.{Refusal}
use Rattle.limits.proofs.Said.{by_way_back, refusal_of, refusal_again}
use Rattle.scan.specs.Scanned.{scan_of}
use Rattle.scan.specs.declared.Scan.{Scan}
use Rattle.record.specs.declared.Mode.TheVariants.{NonOverlapping}
use Rattle.searcher.specs.Walk.{CallTold, new_rule}
use Rattle.twoway.specs.Find.{position_said, SearchTold, told, empty_place, match_of, searched, code_of, by_scan, by_walk}

-- ---- answers in other words

-- the code of an answer that a rule gives
pub coded : {r s : SearchTold} {k : ℕ} → r ≡ s → k ≡ code_of r.position → k ≡ code_of s.position
coded e q = q ∙ rw e

-- ---- the ways through a whole search, by what the checks came to and by the pattern's length

ran : (n m : ℕ) {k : ℕ} {c : Check} → k ≡ n → c ≡ lengths k m → c ≡ lengths n m
ran n m whole checked = checked ∙ rw whole

module _ (backward : Bool) (text pattern : List ℕ) {c : Check} {r : SearchTold} {n : ℕ} (whole : n ≡ length text) (checked : c ≡ lengths n (length pattern)) where
  pub search_refused : {why : Refusal} → c ≡ Err why → r ≡ told (refused (number_of why)) 0 0 0 → r ≡ searched backward text pattern
  unfolding searched
  search_refused because q = q ∙ rw (← ran (length text) (length pattern) whole checked, because)

  module _ (pass : c ≡ Ok tt) where
    pub search_empty : {k : ℕ} → length pattern ≡ 0 → k ≡ empty_place backward (length text) → r ≡ told (given (Some k)) 0 0 0 → r ≡ searched backward text pattern
    unfolding searched
    search_empty z e q = q ∙ rw (e, ← ran (length text) (length pattern) whole checked, pass, eq-eqb _ _ z)

    module _ (some_letters : length pattern ≡ 0 → ⊥) where
      pub search_one : {s : Scan} → length pattern ≡ 1 → s ≡ scan_of backward (get_or pattern 0 0) text → r ≡ by_scan s → r ≡ searched backward text pattern
      unfolding searched
      search_one o es q = q ∙ rw (es, ← ran (length text) (length pattern) whole checked, pass, ne_eqb _ _ some_letters, eq-eqb _ _ o)

      pub search_longer : {n : CallTold (Unit {0})} {m : CallTold (Option (ℕ × ℕ))} → (length pattern ≡ 1 → ⊥) → n ≡ new_rule pattern (length text) NonOverlapping → m ≡ match_of backward pattern text n.walk
          → r ≡ by_walk n.counts.preparing m → r ≡ searched backward text pattern
      unfolding searched
      search_longer o en em q = q ∙ rw (em, en, ← ran (length text) (length pattern) whole checked, pass, ne_eqb _ _ some_letters, ne_eqb _ _ o)

-- ---- what a position says loses nothing

pub position_loses_nothing : LosesNothing position_said
position_loses_nothing = by_way_back position_said back_to again
  where
    back_to : Said (Option ℕ) → Result (Option ℕ) Refusal
    back_to (given place) = Ok place
    back_to (refused number) = Err (refusal_of number)

    again : (a : Result (Option ℕ) Refusal) → back_to (position_said a) ≡ a
    again (Ok (Some k)) = refl
    again (Ok None) = refl
    again (Err why) = ap (λ w. Err w) (refusal_again why)
