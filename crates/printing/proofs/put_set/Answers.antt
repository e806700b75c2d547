-- `printing::put_set` meets its contract: a set has 16 digits. Assumes nothing.
use Prim.Native.Nat.{ℕ}
use mathlib.Core.Path.{◌≡◌, ◌∙◌, ap, subst}
use mathlib.Core.List.{List}
use native.Mathlib.Omega.{arith}
use Rattle.io.specs.Digits.{last_digits}
use Rattle.printing.specs.Printing.{Prints, hex_text}
use Rattle.printing.proofs.put_set.Goals as goal

hex_text_is : (set k : ℕ) (t : List ℕ) → k ≡ 16 → t ≡ last_digits 16 k set → t ≡ hex_text set
unfolding hex_text
hex_text_is set k t e is = is ∙ ap (λ (j : ℕ). last_digits 16 j set) e

pub returns : goal.returns
returns c =
    let hex = c.hex-count in
    let put = c.put in
    subst (λ (t : List ℕ). Prints c.args.out.now c.args.at t put.new.out put.result) (hex_text_is c.args.set hex.result _ (omega arith) hex.ensures.digits) put.ensures
