-- `limits::check_lengths` meets its contract: a way for each answer.
-- Assumes nothing.
use borrow.Author.Rules.{rules}
use Rattle.limits.proofs.Checks.{haystack_refuses, needle_refuses, both_pass}
use Rattle.limits.proofs.check_lengths.Goals as goal

pub returns-then-haystack_too_long : goal.returns-then-haystack_too_long
returns-then-haystack_too_long c = search (rules, haystack_refuses)

pub returns-then-needle_too_long : goal.returns-then-needle_too_long
returns-then-needle_too_long c = search (rules, needle_refuses)

pub returns : goal.returns
returns c = search (rules, both_pass)
