-- Answers in 01's terms. The rules give these terms, and the promises say of the code's answer that it says so.
-- Assumes nothing.
use Rattle.std.specs.Prelude.{ℕ, ◌≡◌, Result, Ok, Err}
use Rattle.limits.specs.Refusals.{number_of}
use Rattle.limits.specs.declared.Refusal.{Refusal}

-- A refusal is "the number" of 01's table; else there is what the call gives.
pub data Said (A : Type 0) : Type 0 where
  refused : ℕ → Said A
  given : A → Said A

-- what an answer says: its refusal's number, or what it gives
abbrev pub said : {A : Type 0} → Result A Refusal → Said A
said (Ok a) = given a
said (Err why) = refused (number_of why)

-- What such a definition must be: no two answers say the same, so that a promise of what is said settles the answer.
abbrev pub LosesNothing : {A B : Type 0} → (A → B) → Type 0
LosesNothing {A} says = (a b : A) → says a ≡ says b → a ≡ b
