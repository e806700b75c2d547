-- What the answer of a whole search means: one law for both directions, and the two searches by it.
-- Assumes nothing.
use Prim.Native.Nat.{ℕ}
use mathlib.Core.Path.{◌≡◌, refl, sym, subst}
use mathlib.Core.Bool.{Bool, true, false}
use mathlib.Core.List.{List, [], ◌∷◌}
use Rattle.std.specs.Prelude.{Option, None, Some, Ok, Err}
use native.Mathlib.Omega.{arith}
use native.Mathlib.Decide.{ℕ_discrete}
use lib.ListN.{length, get_or}
use Rattle.words.specs.Word.{front}
use Rattle.words.specs.Choice.{FindsLeast, FindsGreatest}
use Rattle.words.specs.Occurs.{Occurs}
use Rattle.limits.specs.Checks.{Check, lengths, Within}
use Rattle.limits.specs.Said.{Said, refused, given}
use Rattle.limits.proofs.Checks.{lengths_pass, lengths_refuse}
use Rattle.scan.specs.Scanned.{from_front, from_back, scan_of}
use Rattle.scan.proofs.Laws.{front_means, back_means}
use Rattle.record.specs.declared.Mode.TheVariants.{NonOverlapping}
use Rattle.searcher.specs.Walk.{new_rule}
use Rattle.demands.specs.Means.{AnswersLeast, AnswersGreatest}
use Rattle.demands.proofs.Turns.{stands}
use Rattle.demands.proofs.Meaning.{find_least, rfind_greatest}
use Rattle.twoway.specs.Find.{SearchTold, of_match, empty_place, match_of, searched, find_rule, rfind_rule}
use Rattle.twoway.specs.Meaning.{Meant, FindMeaning, RfindMeaning, SearchBounded}
use Rattle.twoway.proofs.Laws.{search_refused, search_empty, search_one, search_longer}
use Rattle.twoway.proofs.Bounds.{searched_bounded}

-- Finds says what it is to be the right place, and Answers what it is to be the right next match; each of the three searches has to be shown right.
module _ (backward : Bool) (text pattern : List ℕ) (Finds : Option ℕ → Type 0) (Answers : Said (Option (ℕ × ℕ)) → Type 0)
    (matches : (k e : ℕ) → Answers (given (Some (k, e))) → Finds (Some k)) (misses : Answers (given None) → Finds None)
    (refuses : (number : ℕ) → Answers (refused number) → ⊥)
    (at_empty : length pattern ≡ 0 → Finds (Some (empty_place backward (length text))))
    (by_scan : length pattern ≡ 1 → Finds (scan_of backward (get_or pattern 0 0) text).found)
    (by_walk : Within (length text) (length pattern) → Answers (match_of backward pattern text (new_rule pattern (length text) NonOverlapping).walk).answer) where
  meant : {r : SearchTold} → r ≡ searched backward text pattern → Meant Finds text pattern r.position → Meant Finds text pattern (searched backward text pattern).position
  meant e m = subst (λ (r : SearchTold). Meant Finds text pattern r.position) e m

  of_match_meant : Within (length text) (length pattern) → (a : Said (Option (ℕ × ℕ))) → Answers a → Meant Finds text pattern (of_match a)
  of_match_meant w (given (Some (k, e))) m = (w, matches k e m)
  of_match_meant w (given None) m = (w, misses m)
  of_match_meant w (refused number) m = absurd (refuses number m)

  searched_means : Meant Finds text pattern (searched backward text pattern).position
  searched_means = go (lengths (length text) (length pattern)) refl
    where
      go : (c : Check) → c ≡ lengths (length text) (length pattern) → Meant Finds text pattern (searched backward text pattern).position
      go (Err why) e = meant (search_refused backward text pattern refl e refl refl) (lengths_refuse _ _ e refl)
      go (Ok checked) e =
          let w = lengths_pass (length text) (length pattern) e refl in
          elim (ℕ_discrete (length pattern) 0) [
            | yes z ↦ meant (search_empty backward text pattern refl e refl z refl refl) (w, at_empty z)
            | no s ↦ elim (ℕ_discrete (length pattern) 1) [
              | yes o ↦ meant (search_one backward text pattern refl e refl s o refl refl) (w, by_scan o)
              | no l ↦ meant (search_longer backward text pattern refl e refl s l refl refl refl) (of_match_meant w (match_of backward pattern text (new_rule pattern (length text) NonOverlapping).walk).answer (by_walk w))
            ]
          ]

-- a pattern of one byte is that byte
one_letter : (pattern : List ℕ) → length pattern ≡ 1 → get_or pattern 0 0 ∷ [] ≡ pattern
one_letter [] e = absurd (omega arith)
one_letter (x ∷ []) e = refl
one_letter (x ∷ y ∷ rest) e = absurd (omega arith)

module _ (text pattern : List ℕ) where
  abbrev Stands : ℕ → Type 0
  Stands = Occurs (front pattern) (front text)

  find_means : Meant (FindsLeast Stands) text pattern (find_rule text pattern).position
  find_means =
      searched_means false text pattern (FindsLeast Stands) (AnswersLeast Stands (length pattern)) (λ k e m. m.0) (λ m. m) (λ number m. m)
      (λ e. record { holds = stands (front pattern) (front text) e 0 (omega arith); none_before = λ j h o. absurd (omega arith) })
      (λ e. subst (λ (p : List ℕ). FindsLeast (Occurs (front p) (front text)) (from_front (get_or pattern 0 0) text).found) (one_letter pattern e) (front_means (get_or pattern 0 0) text))
      (λ w. find_least pattern text NonOverlapping (record { within = w }))

  rfind_means : Meant (FindsGreatest Stands) text pattern (rfind_rule text pattern).position
  rfind_means =
      searched_means true text pattern (FindsGreatest Stands) (AnswersGreatest Stands (length pattern)) (λ k e m. m.0) (λ m. m) (λ number m. m)
      (λ e. record { holds = stands (front pattern) (front text) e (length text) (omega arith); none_after = λ j h o. let f = o.fits in absurd (omega arith) })
      (λ e. subst (λ (p : List ℕ). FindsGreatest (Occurs (front p) (front text)) (from_back (get_or pattern 0 0) text).found) (one_letter pattern e) (back_means (get_or pattern 0 0) text))
      (λ w. rfind_greatest pattern text NonOverlapping (record { within = w }))

  -- what each return has to show, from the rule's answer alone
  module _ {r : SearchTold} where
    bounded : (backward : Bool) → r ≡ searched backward text pattern → SearchBounded text pattern r.counts
    bounded backward e = subst (λ (r : SearchTold). SearchBounded text pattern r.counts) (sym e) (searched_bounded text pattern backward)

    pub find_settled : r ≡ find_rule text pattern → (r ≡ find_rule text pattern) × (FindMeaning text pattern r × SearchBounded text pattern r.counts)
    find_settled e = (e, (subst (FindMeaning text pattern) (sym e) find_means, bounded false e))

    pub rfind_settled : r ≡ rfind_rule text pattern → (r ≡ rfind_rule text pattern) × (RfindMeaning text pattern r × SearchBounded text pattern r.counts)
    rfind_settled e = (e, (subst (RfindMeaning text pattern) (sym e) rfind_means, bounded true e))
