-- What it says that a number of letters agree, over words: the rule's answer is such a number, and no other is.
-- Assumes nothing.
use Prim.Native.Nat.{ℕ, ◌<◌, ◌≤◌, min}
use mathlib.Core.Path.{◌≡◌}
use mathlib.Core.Bool.{not}
use mathlib.Core.List.{List}
use native.Mathlib.Omega.{arith}
use native.Mathlib.Decide.{dec_lt}
use lib.Dec.{eqb}
use borrow.Author.Tests.{eqb-true, eqb-false, not-true, not-false}
use Rattle.words.specs.Word.{Word, front}
use Rattle.words.proofs.Tests.{first_is}
use Rattle.compare.specs.Agree.{agreeing, agree}

-- k letters agree: neither word is shorter, the letters before k are the same, and at k the words part or one of them ends
pub record Agreed (u v : Word) (k : ℕ) : Type 0 where
  pub most : k ≤ min u.size v.size
  pub same : (i : ℕ) → i < k → u.letter i ≡ v.letter i
  pub parts : k < min u.size v.size → u.letter k ≡ v.letter k → ⊥

module _ {u v : Word} where
  pub agreeing_is : Agreed u v (agreeing u v)
  unfolding agreeing
  agreeing_is =
      let r = first_is (λ i. not (eqb (u.letter i) (v.letter i))) (min u.size v.size) 0 in
      record {
        most = omega arith;
        same = λ i h. eqb-true _ _ (not-false _ (r.missed i (omega arith) h));
        parts = λ h. eqb-false _ _ (not-true _ (r.found (omega arith)));
      }

  agreed_alone : {i k : ℕ} → Agreed u v i → Agreed u v k → i ≡ k
  agreed_alone {i} {k} a b =
      elim (dec_lt i k) [
        | yes h ↦ absurd (a.parts (omega arith) (b.same i h))
        | no h ↦ elim (dec_lt k i) [ yes l ↦ absurd (b.parts (omega arith) (a.same k l)) | no l ↦ omega arith ]
      ]

module _ (left right : List ℕ) where
  pub agree_is : Agreed (front left) (front right) (agree left right)
  unfolding agree
  agree_is = agreeing_is

  -- what a comparing loop has to show of its answer
  pub agree_at : {k : ℕ} → Agreed (front left) (front right) k → k ≡ agree left right
  agree_at a = agreed_alone a agree_is
