-- What a whole search costs: a scan compares no byte twice, and a walk's first next match costs what demand 3 allows.
-- Assumes nothing.
use Prim.Native.Nat.{ℕ, ◌≤◌}
use mathlib.Core.Path.{◌≡◌, refl, subst}
use mathlib.Core.Bool.{Bool, true, false}
use mathlib.Core.List.{List, [], ◌∷◌}
use native.Mathlib.Nat.{zero-add}
use native.Mathlib.Omega.{arith}
use native.Mathlib.Decide.{ℕ_discrete}
use lib.ListN.{length, get_or}
use Rattle.limits.specs.Checks.{Check, lengths}
use Rattle.std.specs.Prelude.{Ok, Err}
use Rattle.limits.proofs.Checks.{lengths_pass}
use Rattle.scan.specs.Scanned.{scan_of}
use Rattle.scan.proofs.Laws.{scan_few}
use Rattle.windows.specs.Bounds.{Bounded}
use Rattle.record.specs.declared.Mode.TheVariants.{NonOverlapping}
use Rattle.searcher.specs.Walk.{new_rule}
use Rattle.demands.specs.Allowed.{Allowed}
use Rattle.demands.specs.Reached.{Call, called, after}
use Rattle.demands.proofs.Costs.{demand_3}
use Rattle.twoway.specs.Find.{SearchTold, match_of, searched}
use Rattle.twoway.specs.Meaning.{SearchBounded}
use Rattle.twoway.proofs.Laws.{search_refused, search_empty, search_one, search_longer}

module _ (text pattern : List ℕ) where
  scan_bounded : (backward : Bool) → (scan_of backward (get_or pattern 0 0) text).comparisons ≤ length text
  scan_bounded true = scan_few _ _ _
  scan_bounded false = scan_few _ _ _

  -- one next match from preparing on
  walk_bounded : (backward : Bool) → Allowed pattern text
      → let r = match_of backward pattern text (new_rule pattern (length text) NonOverlapping).walk in Bounded (length pattern) (length text) r.counts.comparisons r.counts.tests
  unfolding called after
  walk_bounded true ok = rw (zero-add, zero-add) at (demand_3 pattern text NonOverlapping ok (Call.next_match_back ∷ [])).walking.backward
  walk_bounded false ok = rw (zero-add, zero-add) at (demand_3 pattern text NonOverlapping ok (Call.next_match ∷ [])).walking.forward

  pub searched_bounded : (backward : Bool) → SearchBounded text pattern (searched backward text pattern).counts
  searched_bounded backward = go (lengths (length text) (length pattern)) refl
    where
      bounded : {r : SearchTold} → r ≡ searched backward text pattern → SearchBounded text pattern r.counts → SearchBounded text pattern (searched backward text pattern).counts
      bounded e b = subst (λ (r : SearchTold). SearchBounded text pattern r.counts) e b

      free : SearchBounded text pattern (record { preparing = 0; comparisons = 0; tests = 0 })
      free = omega arith

      go : (c : Check) → c ≡ lengths (length text) (length pattern) → SearchBounded text pattern (searched backward text pattern).counts
      go (Err why) e = bounded (search_refused backward text pattern refl e refl refl) free
      go (Ok checked) e =
          elim (ℕ_discrete (length pattern) 0) [
            | yes z ↦ bounded (search_empty backward text pattern refl e refl z refl refl) free
            | no s ↦ elim (ℕ_discrete (length pattern) 1) [
              | yes o ↦
                  let few = scan_bounded backward in
                  bounded (search_one backward text pattern refl e refl s o refl refl) (omega arith)
              | no l ↦
                  let ok : Allowed pattern text = record { within = lengths_pass (length text) (length pattern) e refl } in
                  bounded (search_longer backward text pattern refl e refl s l refl refl refl)
                  (record { walking = walk_bounded backward ok; preparing = (demand_3 pattern text NonOverlapping ok []).preparing })
            ]
          ]
