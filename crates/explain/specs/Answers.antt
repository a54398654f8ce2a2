-- The numbers that calls answer, and what an explanation of one is. Cited by what explains them. Assumes nothing.
--   is_answer: a number that some call answers
--   Explains: an explanation of the number, and of none but the numbers that are known
use Rattle.std.specs.Prelude.{◌≡◌, ℕ, Bool, ◌&&◌, ◌||◌, ◌↔◌, nat_le, Option, IsSome, IfSome, IsTrue}
use Rattle.explain.specs.declared.explain.Explanation.{Explanation}

abbrev pub between : ℕ → ℕ → ℕ → Bool
between low high n = nat_le low n && nat_le n high

-- 0 and 1 are no refusals; then those of texts, of tables, of hosts and stores, of runs, and those that no run of an admitted table meets
abbrev pub is_answer : ℕ → Bool
is_answer n = between 0 1 n || (between 11 13 n || (between 20 27 n || (between 31 35 n || (between 41 47 n || between 60 63 n))))

abbrev pub Explains : Bool → ℕ → Option Explanation → Type 0
Explains known number answer = (IsSome answer ↔ IsTrue known) × IfSome answer (λ e. e.number ≡ number)
