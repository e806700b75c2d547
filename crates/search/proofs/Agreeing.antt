-- What the two comparing loops show where they end: at a difference behind letters that agree, or with all of them agreeing.
-- Assumes nothing.
use Rattle.std.proofs.Common.{◌≡◌, ℕ, ◌+◌, ◌-◌, ◌<◌, ◌≤◌, true, false, sym, ap, ◌∙◌, arith, eq-eqb, ne_eqb}
use Rattle.words.specs.Word.{Word}
use Rattle.words.proofs.Tests.{first_at, first_none, least_at, least_none}
use Rattle.windows.specs.Window.{differs}
use Rattle.search.specs.Code.{first_up, agree_down}

module _ (x h : Word) (k : ℕ) where
  same : (i : ℕ) → x.letter i ≡ h.letter (k + i) → differs x h k i ≡ false
  same i e = rw (eq-eqb _ _ e)

  other : (i : ℕ) → (x.letter i ≡ h.letter (k + i) → ⊥) → differs x h k i ≡ true
  other i e = rw (ne_eqb _ _ e)

  -- two letters that were read differ as those of the needle and the window do
  pub read_other : {i a b : ℕ} → a ≡ x.letter i → b ≡ h.letter (k + i) → (a ≡ b → ⊥) → x.letter i ≡ h.letter (k + i) → ⊥
  read_other here there e q = e (here ∙ q ∙ sym there)

  -- the letters from a up to b agree with the window
  abbrev pub Agrees : ℕ → ℕ → Type 0
  Agrees a b = (i : ℕ) → a ≤ i → i < b → x.letter i ≡ h.letter (k + i)

  pub up_hit : (from to i : ℕ) → from ≤ i → i < to → Agrees from i → (x.letter i ≡ h.letter (k + i) → ⊥) → i ≡ first_up x h k from to
  up_hit from to i lo hi v e =
      sym (first_at (differs x h k) (to - from) from i lo (omega arith) (other i e) (λ j a b. same j (v j a b)))

  pub up_all : (from to : ℕ) → from ≤ to → Agrees from to → to ≡ first_up x h k from to
  up_all from to l v =
      let all : to ≡ from + (to - from) = omega arith in
      all ∙ sym (first_none (differs x h k) (to - from) from (λ j lo hi. same j (v j lo (omega arith))))

  -- a difference at i, from which the letters up to `from` agree, is met after from - (i + 1) letters
  pub down_hit : (from to i : ℕ) → to ≤ i → i < from → Agrees (i + 1) from → (x.letter i ≡ h.letter (k + i) → ⊥) → from - (i + 1) ≡ agree_down x h k from to
  down_hit from to i lo hi v e =
      let there : from - (1 + (from - (i + 1))) ≡ i = omega arith in
      sym
      (least_at (λ d. differs x h k (from - (1 + d))) (from - to) (from - (i + 1)) (omega arith)
      (ap (differs x h k) there ∙ other i e)
      (λ j hj. same (from - (1 + j)) (v (from - (1 + j)) (omega arith) (omega arith))))

  pub down_all : (from to : ℕ) → Agrees to from → from - to ≡ agree_down x h k from to
  down_all from to v =
      sym (least_none (λ d. differs x h k (from - (1 + d))) (from - to) (λ j hj. same (from - (1 + j)) (v (from - (1 + j)) (omega arith) (omega arith))))
